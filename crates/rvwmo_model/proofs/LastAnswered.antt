-- What the plain program answers at the newest step of a trace is what the definitions name.
use Rattle.std.proofs.Common.{ℕ, ◌≡◌, Option, Some, None, Result, Ok, Err, refl, sym, subst}
use Rattle.std.specs.Prelude.{◌↔◌, IfOk}
use Rattle.tandem_base.specs.FirstFault.{◌or_else◌}
use Rattle.rvwmo_model.specs.declared.answers.Last.{Last}
use Rattle.rvwmo_model.specs.declared.answers.Last.TheVariants as last
use Rattle.rvwmo_model.specs.declared.traces.Trace.{Trace}
use Rattle.rvwmo_model.specs.InForm.{InForm}
use Rattle.rvwmo_model.specs.Report.{AllOrdered}
use Rattle.rvwmo_model.specs.Last.{RetiresRight, IsFine, IsLast}
use Rattle.rvwmo_model.specs.LastAnswer.{last_value, last_order, last_atomicity, fine_unless, newest_answer}
use Rattle.rvwmo_model.proofs.FoundLast.{value_found, value_none, order_answered, order_right}
use Rattle.rvwmo_model.proofs.FoundLast.{atomicity_found, atomicity_none}

-- the function's answer is the answer
pub last_is : (initial : ℕ → ℕ) (t : Trace) (hart : ℕ) (tag : Option ℕ) → InForm t
    → IsLast initial t hart tag (newest_answer initial t hart tag)
last_is initial t hart tag f = at_value (last_value initial t hart tag) refl
  where
    at_atomicity : RetiresRight initial t hart tag → AllOrdered t → (o : Option Last) → last_atomicity t hart tag ≡ o
        → IsLast initial t hart tag (fine_unless o)
    at_atomicity v q None e = record { right = v; ordered = q; atomic = atomicity_none t f initial hart tag e }
    at_atomicity v q (Some l) e = atomicity_found t f initial hart tag l v q e

    at_order : RetiresRight initial t hart tag → (o : Option Last) → last_order t ≡ o
        → IsLast initial t hart tag (fine_unless (o or_else last_atomicity t hart tag))
    at_order v None e = at_atomicity v (order_right t f e) (last_atomicity t hart tag) refl
    at_order v (Some l) e = order_answered t f initial hart tag l v e

    at_value : (o : Option Last) → last_value initial t hart tag ≡ o
        → IsLast initial t hart tag (fine_unless (o or_else (last_order t or_else last_atomicity t hart tag)))
    at_value None e = at_order (value_none t f initial hart tag e) (last_order t) refl
    at_value (Some l) e = value_found t f initial hart tag l e

-- the answer is Fine exactly where nothing asked stands
pub fine_is : (initial : ℕ → ℕ) (t : Trace) (hart : ℕ) (tag : Option ℕ) (l : Last) → IsLast initial t hart tag l
    → (l ≡ last.Fine) ↔ IsFine initial t hart tag
fine_is initial t hart tag last.Fine h = ((λ e. h), λ f. refl)
fine_is initial t hart tag (last.Value x want got) h =
    ((λ e. absurd (cc)), λ f. absurd (f.right x h.lowest.here.0 h.lowest.here.1))
fine_is initial t hart tag (last.Order rule first second) h =
    ((λ e. absurd (cc)), λ f. absurd (f.ordered h.broken h.before h.after h.reported.first.here))
fine_is initial t hart tag (last.Atomicity x store) h = ((λ e. absurd (cc)), λ f. absurd (f.atomic h.lr h.sc h.torn))

-- what answers with it answers rightly, and Fine exactly where nothing asked stands
pub lasts_is : {E : Type 0} (initial : ℕ → ℕ) (t : Trace) (hart : ℕ) (tag : Option ℕ) (r : Result Last E) → InForm t
    → IfOk r (λ v. v ≡ newest_answer initial t hart tag) → IfOk r (IsLast initial t hart tag)
lasts_is initial t hart tag (Ok v) f e = subst (IsLast initial t hart tag) (sym e) (last_is initial t hart tag f)
lasts_is initial t hart tag (Err x) f e = tt

pub lasts_fine : {E : Type 0} (initial : ℕ → ℕ) (t : Trace) (hart : ℕ) (tag : Option ℕ) (r : Result Last E)
    → InForm t → IfOk r (λ v. v ≡ newest_answer initial t hart tag)
    → IfOk r (λ v. (v ≡ last.Fine) ↔ IsFine initial t hart tag)
lasts_fine initial t hart tag (Ok v) f e =
    fine_is initial t hart tag v (subst (IsLast initial t hart tag) (sym e) (last_is initial t hart tag f))
lasts_fine initial t hart tag (Err x) f e = tt
