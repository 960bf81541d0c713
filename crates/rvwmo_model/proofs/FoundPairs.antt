-- The search for an SC without a pair.
use Rattle.std.proofs.Common.{ℕ, ◌≡◌, inl, inr, true, not, eqb, ltb, ◌&&◌, Option, Some, None, refl, ap, subst}
use Rattle.std.specs.Bool.{Decides}
use Rattle.std.proofs.lemmas.Bool.{cases_Bool, both_ways, eqb-true, eq-eqb, ltb-true, lt-ltb, and_parts, and_from}
use Rattle.std.specs.List.{Contains, list_any}
use Rattle.rvwmo_model.specs.declared.answers.Judged.{Judged}
use Rattle.rvwmo_model.specs.declared.answers.Judged.TheVariants as judged
use Rattle.rvwmo_model.specs.declared.operations.Op.{Op}
use Rattle.rvwmo_model.specs.declared.traces.Trace.{Trace}
use Rattle.rvwmo_model.specs.Order.{has_byte}
use Rattle.rvwmo_model.specs.ProgramOrder.{insn_of}
use Rattle.rvwmo_model.specs.Atomicity.{IsPair, IsCoveredBy, Unpaired}
use Rattle.rvwmo_model.specs.InForm.{InForm}
use Rattle.rvwmo_model.specs.Report.{AllPaired, IsAnswer}
use Rattle.rvwmo_model.specs.Search.{some_byte}
use Rattle.rvwmo_model.specs.Tests.{is_pair_of, is_pair, is_covered_by, is_unpaired}
use Rattle.rvwmo_model.specs.Answer.{least_of, pair_of, pair_answer}
use Rattle.rvwmo_model.proofs.Searches.{some_byte_is, not_true, not_false}
use Rattle.rvwmo_model.proofs.Tested.{both_is, paired_is}
use Rattle.rvwmo_model.proofs.Choices.{Computes, some_member, least_member, no_member}
use Rattle.rvwmo_model.specs.InsnKinds.{has_stored}

within_is : (w r : Op) → Decides (is_covered_by w r) (IsCoveredBy w r)
within_is w r = (
  (λ e x c.
      elim (cases_Bool (has_byte x r)) [
        | inl q ↦ q
        | inr q ↦ absurd (both_ways _ (not_false _ e) ((bytes).1 (x, and_from _ _ c (ap not q))))
      ]),
  λ h. ap not (not_true _ (λ e.
      let x = bytes.0 e in
      let p = and_parts (has_byte x.0 w) (not (has_byte x.0 r)) x.1 in
      both_ways _ (not_false _ p.1) (h x.0 p.0))),
)
  where
    bytes : Decides (some_byte (λ x. has_byte x w && not (has_byte x r)) w)
        ((x : ℕ) × ((has_byte x w && not (has_byte x r)) ≡ true))
    bytes = some_byte_is (λ x. has_byte x w && not (has_byte x r)) w
        (λ x q. (and_parts (has_byte x w) (not (has_byte x r)) q).0)

module _ (t : Trace) (form : InForm t) where
  pub pair_is : (r w : Op) → Contains t.ops r → Contains t.ops w → Decides (is_pair t r w) (IsPair t r w)
  pair_is r w hr hw = (
    (λ e.
        let p = and_parts ((eqb w.name.hart r.name.hart && ltb r.name.tag w.name.tag) && is_pair_of t r w)
        (has_stored (insn_of t w)) e in
        let q = and_parts (eqb w.name.hart r.name.hart && ltb r.name.tag w.name.tag) (is_pair_of t r w) p.0 in
        let s = and_parts (eqb w.name.hart r.name.hart) (ltb r.name.tag w.name.tag) q.0 in
        record {
          lr_in = hr;
          sc_in = hw;
          one_hart = eqb-true _ _ s.0;
          in_order = ltb-true _ _ s.1;
          paired = (paired_is t r w form.rising).0 q.1;
          stored = p.1;
        }),
    λ h. and_from _ _
        (and_from _ _ (and_from _ _ (eq-eqb _ _ h.one_hart) (lt-ltb _ _ h.in_order))
        ((paired_is t r w form.rising).1 h.paired)) h.stored,
  )

  unpaired_is : (w : Op) → Contains t.ops w → Decides (is_unpaired t w) (Unpaired t w)
  unpaired_is w hw = (
    (λ e.
        let p = and_parts (has_stored (insn_of t w)) (not (list_any (λ r. is_pair t r w && is_covered_by w r) t.ops))
        e in
        record { sc_in = hw; stored = p.0; alone = λ r h c. both_ways _ (not_false _ p.1) (found.1 (r, (h, c))) }),
    λ h. and_from _ _ h.stored (ap not (not_true _ (λ e. let f = found.0 e in h.alone f.0 f.1.0 f.1.1))),
  )
    where
      found : Decides (list_any (λ r. is_pair t r w && is_covered_by w r) t.ops)
          ((r : Op) × (IsPair t r w × IsCoveredBy w r))
      found = some_member (λ r. is_pair t r w && is_covered_by w r) (λ r. IsPair t r w × IsCoveredBy w r) t.ops
          (record { on = λ r hr. both_is _ _ _ _ (pair_is r w hr hw) (within_is w r); only = λ r h. h.0.lr_in })

  unpaired_computes : Computes (is_unpaired t) (Unpaired t) t.ops
  unpaired_computes = record { on = unpaired_is; only = λ w h. h.sc_in }

  pub pair_found : (initial : ℕ → ℕ) (j : Judged) → pair_answer t ≡ Some j → IsAnswer initial t j
  pair_found initial j e = at (least_of (is_unpaired t) t.ops) refl e
    where
      at : (o : Option Op) → least_of (is_unpaired t) t.ops ≡ o → pair_of o ≡ Some j → IsAnswer initial t j
      at None f g = absurd (cc)
      at (Some w) f g = let same : judged.Pair w.name ≡ j =
          cc in subst (IsAnswer initial t) same
          (record {
            sc = w;
            named = refl;
            least = least_member (is_unpaired t) (Unpaired t) t.ops w unpaired_computes f;
          })

  pub pair_none : pair_answer t ≡ None → AllPaired t
  pair_none e = at (least_of (is_unpaired t) t.ops) refl e
    where
      at : (o : Option Op) → least_of (is_unpaired t) t.ops ≡ o → pair_of o ≡ None → AllPaired t
      at None f g = no_member (is_unpaired t) (Unpaired t) t.ops unpaired_computes f
      at (Some w) f g = absurd (cc)
