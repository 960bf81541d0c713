-- The plain program's answer is the one that the definitions name.
use Rattle.std.proofs.Common.{ℕ, ◌≡◌, Option, Some, None, Result, Ok, Err, refl, sym, subst}
use Rattle.rvwmo_model.specs.declared.answers.Judged.{Judged}
use Rattle.rvwmo_model.specs.declared.answers.Judged.TheVariants as judged
use Rattle.rvwmo_model.specs.declared.operations.Op.{Op}
use Rattle.rvwmo_model.specs.declared.traces.Trace.{Trace}
use Rattle.rvwmo_model.specs.Rules.{Broken, Rule}
use Rattle.rvwmo_model.specs.Legal.{Legal}
use Rattle.rvwmo_model.specs.InForm.{InForm}
use Rattle.rvwmo_model.specs.Report.{IsReportedPair, AllPaired, AllRight, AllOrdered, IsAnswer}
use Rattle.rvwmo_model.specs.Laws.{ReportIsWhereBroken}
use Rattle.rvwmo_model.specs.Answer.{pair_answer, value_answer, order_answer, atomicity_answer, legal_unless, answer}
use Rattle.std.specs.Prelude.{◌↔◌, IfOk}
use Rattle.rvwmo_model.proofs.FoundPairs.{pair_found, pair_none}
use Rattle.rvwmo_model.proofs.FoundValues.{value_found, value_none}
use Rattle.rvwmo_model.proofs.FoundOrder.{order_found, order_none}
use Rattle.rvwmo_model.proofs.FoundAtomicity.{atomicity_found, atomicity_none}
use Rattle.tandem_base.specs.FirstFault.{◌or_else◌}

-- the plain program's answer is the answer
pub answer_is : (initial : ℕ → ℕ) (t : Trace) → InForm t → IsAnswer initial t (answer initial t)
answer_is initial t f = at_pair (pair_answer t) refl
  where
    at_atomicity : AllPaired t → AllRight initial t → AllOrdered t → (o : Option Judged) → atomicity_answer t ≡ o
        → IsAnswer initial t (legal_unless o)
    at_atomicity p v q None e = record { ordered = q; valued = v; paired = p; atomic = atomicity_none t f e }
    at_atomicity p v q (Some j) e = atomicity_found t f initial j p v q e

    at_order : AllPaired t → AllRight initial t → (o : Option Judged) → order_answer t ≡ o
        → IsAnswer initial t (legal_unless (o or_else atomicity_answer t))
    at_order p v None e = at_atomicity p v (order_none t f e) (atomicity_answer t) refl
    at_order p v (Some j) e = let n = order_found t f j e in
        subst (IsAnswer initial t) n.named (record {
          paired = p;
          right = v;
          broken = n.rule;
          before = n.first;
          after = n.second;
          numbered = refl;
          first_named = refl;
          second_named = refl;
          reported = n.reported;
        })

    at_value : AllPaired t → (o : Option Judged) → value_answer initial t ≡ o
        → IsAnswer initial t (legal_unless (o or_else (order_answer t or_else atomicity_answer t)))
    at_value p None e = at_order p (value_none t f initial e) (order_answer t) refl
    at_value p (Some j) e = value_found t f initial j p e

    at_pair : (o : Option Judged) → pair_answer t ≡ o
        → IsAnswer initial t
        (legal_unless (o or_else (value_answer initial t or_else (order_answer t or_else atomicity_answer t))))
    at_pair None e = at_value (pair_none t f e) (value_answer initial t) refl
    at_pair (Some j) e = pair_found t f initial j e

-- a pair is reported exactly where one is broken
pub reported_where : ReportIsWhereBroken
reported_where t f = ((λ h. (h.0, h.1, h.2, h.3.first.here)), λ h. at h (order_answer t) refl)
  where
    at : (k : Rule) × (a : Op) × (b : Op) × Broken k t a b → (o : Option Judged) → order_answer t ≡ o → (k : Rule)
        × (a : Op) × (b : Op) × IsReportedPair t k a b
    at h None e = absurd (order_none t f e h.0 h.1 h.2 h.3)
    at h (Some j) e = let n = order_found t f j e in (n.rule, n.first, n.second, n.reported)

-- the answer is Legal exactly where the trace is legal
pub legal_is : (initial : ℕ → ℕ) (t : Trace) (j : Judged) → IsAnswer initial t j → (j ≡ judged.Legal) ↔ Legal initial t
legal_is initial t judged.Legal h = ((λ e. h), λ l. refl)
legal_is initial t (judged.Pair name) h = ((λ e. absurd (cc)), λ l. absurd (l.paired h.sc h.least.offends))
legal_is initial t (judged.Value name x want got) h =
    ((λ e. absurd (cc)), λ l. absurd (l.valued h.load x h.lowest.here))
legal_is initial t (judged.Order rule first second) h =
    ((λ e. absurd (cc)), λ l. absurd (l.ordered h.broken h.before h.after h.reported.first.here))
legal_is initial t (judged.Atomicity name x store) h = ((λ e. absurd (cc)), λ l. absurd (l.atomic h.lr h.sc h.torn))

-- what answers with it answers rightly, and Legal exactly where the trace is legal
pub answers_is : {E : Type 0} (initial : ℕ → ℕ) (t : Trace) (r : Result Judged E) → InForm t
    → IfOk r (λ v. v ≡ answer initial t) → IfOk r (IsAnswer initial t)
answers_is initial t (Ok v) f e = subst (IsAnswer initial t) (sym e) (answer_is initial t f)
answers_is initial t (Err x) f e = tt

pub answers_legal : {E : Type 0} (initial : ℕ → ℕ) (t : Trace) (r : Result Judged E) → InForm t
    → IfOk r (λ v. v ≡ answer initial t) → IfOk r (λ v. (v ≡ judged.Legal) ↔ Legal initial t)
answers_legal initial t (Ok v) f e = legal_is initial t v (subst (IsAnswer initial t) (sym e) (answer_is initial t f))
answers_legal initial t (Err x) f e = tt
