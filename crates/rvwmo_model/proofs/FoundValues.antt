-- The search for a wrong value.
use Rattle.std.proofs.Common.{ℕ, ◌≡◌, not, eqb, Option, Some, None, refl, ap, subst}
use Rattle.std.specs.Prelude.{is_some}
use Rattle.std.proofs.lemmas.Bool.{both_ways, eqb-true, eq-eqb, and_parts, and_from}
use Rattle.std.specs.List.{Contains}
use Rattle.rvwmo_model.specs.declared.answers.Judged.{Judged}
use Rattle.rvwmo_model.specs.declared.answers.Judged.TheVariants as judged
use Rattle.rvwmo_model.specs.declared.operations.Op.{Op}
use Rattle.rvwmo_model.specs.declared.traces.Trace.{Trace}
use Rattle.rvwmo_model.specs.Order.{op_loads, has_byte, reads, got_at}
use Rattle.rvwmo_model.specs.Sources.{source, byte_from}
use Rattle.rvwmo_model.specs.Legal.{WrongValue}
use Rattle.rvwmo_model.specs.InForm.{InForm}
use Rattle.rvwmo_model.specs.Report.{IsLeast, HasWrong, AllPaired, AllRight, IsAnswer}
use Rattle.rvwmo_model.specs.Tests.{is_wrong, wrong_byte}
use Rattle.rvwmo_model.specs.Answer.{least_of, value_at, value_of, value_answer}
use Rattle.rvwmo_model.proofs.Searches.{not_true, not_false}
use Rattle.rvwmo_model.proofs.Choices.{Computes, least_member, no_member, ComputesByte, lowest_byte, no_byte}
use Rattle.rvwmo_model.proofs.Choices.{some_lowest}

module _ (t : Trace) (form : InForm t) where
  module _ (initial : ℕ → ℕ) where
    pub wrong_computes : (i : Op) → Contains t.ops i → ComputesByte (is_wrong initial t i) (WrongValue initial t i) i
    wrong_computes i hi = record {
      on = λ x. (
        (λ e.
            let p = and_parts (reads x i) (not (eqb (got_at i x) (byte_from initial (source t i x) x))) e in
            record { load_in = hi; loads = p.0; wrong = λ q. both_ways _ (not_false _ p.1) (eq-eqb _ _ q) }),
        λ h. and_from _ _ h.loads (ap not (not_true _ (λ q. h.wrong (eqb-true _ _ q)))),
      );
      own = λ x e. (and_parts (op_loads i) (has_byte x i) (and_parts (reads x i) _ e).0).1;
    }

    has_wrong_computes : Computes (λ i. is_some (wrong_byte initial t i)) (HasWrong initial t) t.ops
    has_wrong_computes =
        record {
          on = λ i hi. some_lowest (is_wrong initial t i) (WrongValue initial t i) i (wrong_computes i hi);
          only = λ i h. h.1.load_in;
        }

    pub value_found : (j : Judged) → AllPaired t → value_answer initial t ≡ Some j → IsAnswer initial t j
    value_found j all e = at (least_of (λ i. is_some (wrong_byte initial t i)) t.ops) refl e
      where
        found : (i : Op) → IsLeast (HasWrong initial t) i → (m : Option ℕ) → wrong_byte initial t i ≡ m
            → value_at initial t i m ≡ Some j → IsAnswer initial t j
        found i l None f g = absurd (cc)
        found i l (Some x) f g =
            let same : judged.Value i.name x (byte_from initial (source t i x) x) (got_at i x) ≡ j = cc in
            subst (IsAnswer initial t) same (record {
              paired = all;
              load = i;
              named = refl;
              least = l;
              lowest = lowest_byte (is_wrong initial t i) (WrongValue initial t i) i x
                  (wrong_computes i l.offends.1.load_in) f;
              wanted = refl;
              loaded = refl;
            })

        at : (o : Option Op) → least_of (λ i. is_some (wrong_byte initial t i)) t.ops ≡ o
            → value_of initial t o ≡ Some j → IsAnswer initial t j
        at None f g = absurd (cc)
        at (Some i) f g = found i (least_member _ (HasWrong initial t) t.ops i has_wrong_computes f)
            (wrong_byte initial t i) refl g

    pub value_none : value_answer initial t ≡ None → AllRight initial t
    value_none e = at (least_of (λ i. is_some (wrong_byte initial t i)) t.ops) refl e
      where
        found : (i : Op) → IsLeast (HasWrong initial t) i → (m : Option ℕ) → wrong_byte initial t i ≡ m
            → value_at initial t i m ≡ None → ⊥
        found i l None f g = no_byte (is_wrong initial t i) (WrongValue initial t i) i
            (wrong_computes i l.offends.1.load_in) f l.offends.0 l.offends.1
        found i l (Some x) f g = cc

        at : (o : Option Op) → least_of (λ i. is_some (wrong_byte initial t i)) t.ops ≡ o
            → value_of initial t o ≡ None → AllRight initial t
        at None f g = λ i x h. no_member _ (HasWrong initial t) t.ops has_wrong_computes f i (x, h)
        at (Some i) f g =
            absurd (found i (least_member _ (HasWrong initial t) t.ops i has_wrong_computes f)
            (wrong_byte initial t i) refl g)
