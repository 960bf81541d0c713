-- The pair that is reported, from what each rule answers for each new operation.
use Rattle.std.proofs.Common.{ℕ, ◌<◌, ◌≡◌, ◌⊎◌, inl, inr, false, List, Option, Some, None, subst, arith}
use Rattle.std.specs.List.{Contains}
use Rattle.rvwmo_model.specs.declared.instructions.Retired.{Retired}
use Rattle.rvwmo_model.specs.declared.operations.Op.{Op}
use Rattle.rvwmo_model.specs.declared.preserved.Rule.{Rule}
use Rattle.rvwmo_model.specs.declared.traces.Trace.{Trace}
use Rattle.rvwmo_model.specs.Order.{named_before}
use Rattle.rvwmo_model.specs.Rules.{Broken}
use Rattle.rvwmo_model.specs.Report.{number, IsReportedPair}
use Rattle.rvwmo_model.specs.Legal.{Legal}
use Rattle.growth_laws.specs.Kinds.{WellKinded}
use Rattle.growth_laws.specs.Growth.{AddInsn}
use Rattle.growth_laws.proofs.FaultSteps.{insn_breaks_its_own}
use Rattle.growth_laws.proofs.Operations.{op_older}
use Rattle.window_laws.specs.Latest.{IsLatestIfAny}

module _ (initial : ℕ → ℕ) (t t' : Trace) (r : Retired) (new : List Op) (k : WellKinded t) (legal : Legal initial t)
    (s : AddInsn t t' r new)
    (first : Rule → Op → Option Op) (are : (j : Rule) (d : Op) → Contains new d → IsLatestIfAny (λ c. Broken j t' c d)
    (first j d)) where
  -- the second operation is new
  second_new : (j : Rule) (c d : Op) → Broken j t' c d → Contains new d
  second_new j c d p = elim (s.ops_back d p.second_in) [
    | inl m ↦ m
    | inr i ↦ absurd (let of = (insn_breaks_its_own initial t t' r new k legal s).pairs j c d p in
        let l : d.name.tag < r.tag = op_older t t' r new d k s i of.0 in omega (arith, l, of.1))
  ]

  none_here : (j : Rule) (c d : Op) → first j d ≡ None → Broken j t' c d → ⊥
  none_here j c d e p = subst (λ (m : Option Op). IsLatestIfAny (λ z. Broken j t' z d) m) e
      (are j d (second_new j c d p)) c p

  pub reported : (j : Rule) (a b : Op) → Contains new b → first j b ≡ Some a
      → ((i : Rule) (d : Op) → number i < number j → Contains new d → first i d ≡ None)
      → ((d : Op) → Contains new d → (first j d ≡ None) ⊎ (named_before d.name b.name ≡ false))
      → IsReportedPair t' j a b
  reported j a b m e less least =
      let h = subst (λ (o : Option Op). IsLatestIfAny (λ z. Broken j t' z b) o) e (are j b m) in
      record {
        rule = λ i l c d p. none_here i c d (less i d l (second_new i c d p)) p;
        second = record {
          offends = (a, h.here);
          least = λ d p. elim
              (least d (second_new j p.0 d p.1)) [ inl n ↦ absurd (none_here j p.0 d n p.1) | inr q ↦ q ];
        };
        first = h;
      }

  pub unreported : ((j : Rule) (d : Op) → Contains new d → first j d ≡ None) → (j : Rule) (c d : Op) → Broken j t' c d
      → ⊥
  unreported none j c d p = none_here j c d (none j d (second_new j c d p)) p
