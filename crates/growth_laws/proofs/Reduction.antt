-- After one growth of a legal trace the pair that is reported is one of the growing hart.
use Rattle.std.proofs.Common.{ℕ, zero, suc, ◌<◌, ◌≡◌, inl, inr, ◌∙◌, arith}
use Rattle.rvwmo_model.specs.declared.operations.Op.{Op}
use Rattle.rvwmo_model.specs.declared.preserved.Rule.{Rule}
use Rattle.rvwmo_model.specs.declared.traces.Trace.{Trace}
use Rattle.rvwmo_model.specs.Rules.{Broken}
use Rattle.rvwmo_model.specs.Legal.{Legal}
use Rattle.rvwmo_model.specs.Report.{number, IsReportedPair}
use Rattle.growth_laws.specs.Kinds.{WellKinded}
use Rattle.growth_laws.specs.Growth.{Growth, grow_same, grow_early, grow_insn, grow_stores, IsGrowing}
use Rattle.growth_laws.specs.Laws.{IsLeastRule, BrokenOn, IsReportedOn, ReportOfHart}
use Rattle.growth_laws.proofs.Parts.{performs_hart}
use Rattle.growth_laws.proofs.FaultSteps.{early_breaks_nothing, insn_breaks_its_own}
use Rattle.growth_laws.proofs.FaultStores.{stores_break_pairs}

-- the second operation of a broken pair of the least rule is of the growing hart
pub second_hart : (initial : ℕ → ℕ) (t t' : Trace) (h : ℕ) (g : Growth t t') → WellKinded t → Legal initial t
    → IsGrowing g h → (k : Rule) (a b : Op) → IsLeastRule t' k → Broken k t' a b → b.name.hart ≡ h
second_hart initial t t' h (grow_same s) w legal e k a b least p =
    absurd ((early_breaks_nothing initial t t' w legal (inl s)).ordered k a b p)
second_hart initial t t' h (grow_early v s) w legal e k a b least p =
    absurd ((early_breaks_nothing initial t t' w legal (inr (v, s))).ordered k a b p)
second_hart initial t t' h (grow_insn r new s) w legal e k a b least p =
    ((insn_breaks_its_own initial t t' r new w legal s).pairs k a b p).0 ∙ e
second_hart initial t t' h (grow_stores g parts s) w legal e k a b least p =
    performs_hart g t t' parts s b ((stores_break_pairs initial t t' g parts w legal s).pair k a b least p).second ∙ e

module _ (t : Trace) (h : ℕ) (on : (k : Rule) (a b : Op) → IsLeastRule t k → Broken k t a b → b.name.hart ≡ h) where
  -- where no pair of the hart is broken by a lesser rule, none is
  none_below : (n : ℕ) (k : Rule) → ((j : Rule) → number j < number k → (a b : Op) → BrokenOn h j t a b → ⊥)
      → (j : Rule) → number j < n → number j < number k → (a b : Op) → Broken j t a b → ⊥
  none_below zero k none j l m a b p = absurd (omega arith)
  none_below (suc n) k none j l m a b p =
      none j m a b (p, on j a b (λ i q. none_below n k none i (omega arith) (omega arith)) p)

  pub least_of_hart : (k : Rule) → ((j : Rule) → number j < number k → (a b : Op) → BrokenOn h j t a b → ⊥)
      → IsLeastRule t k
  least_of_hart k none j l = none_below (number k) k none j l l

  pub report_to : (k : Rule) (a b : Op) → IsReportedPair t k a b → IsReportedOn h t k a b
  report_to k a b p = record {
    rule = λ j l c d q. p.rule j l c d q.0;
    second = record { offends = (a, (p.first.here, mine)); least = λ v q. p.second.least v (q.0, q.1.0) };
    first = record { here = (p.first.here, mine); latest = λ u q. p.first.latest u q.0 };
  }
    where
      mine : b.name.hart ≡ h
      mine = on k a b p.rule p.first.here

  pub report_from : (k : Rule) (a b : Op) → IsReportedOn h t k a b → IsReportedPair t k a b
  report_from k a b p = record {
    rule = least;
    second = record {
      offends = (a, p.first.here.0);
      least = λ v q. p.second.least v (q.0, (q.1, on k q.0 v least q.1));
    };
    first = record { here = p.first.here.0; latest = λ u q. p.first.latest u (q, p.first.here.1) };
  }
    where
      least : IsLeastRule t k
      least = least_of_hart k p.rule

pub report_of_hart : ReportOfHart
report_of_hart initial t t' h g w legal e k a b =
    let on = second_hart initial t t' h g w legal e in
    (report_to t' h on k a b, report_from t' h on k a b)
