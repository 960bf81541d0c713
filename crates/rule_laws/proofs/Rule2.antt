-- Rule 2 by the two marks of each byte.
use Rattle.std.proofs.Common.{ℕ, ◌<◌, ◌≡◌, inl, inr, true, false, List, Option, None, refl, sym, ◌∙◌, arith}
use Rattle.std.specs.Prelude.{◌≢◌}
use Rattle.std.specs.List.{Contains}
use Rattle.std.proofs.lemmas.Bool.{both_ways, and_parts, cases_Bool}
use Rattle.rvwmo_model.specs.declared.instructions.Retired.{Retired}
use Rattle.rvwmo_model.specs.declared.operations.Op.{Op}
use Rattle.rvwmo_model.specs.declared.preserved.Rule.TheVariants.{R2}
use Rattle.rvwmo_model.specs.declared.traces.Trace.{Trace}
use Rattle.rvwmo_model.specs.Order.{Standing, stands_before, standing, op_loads, has_byte, reads, writes}
use Rattle.rvwmo_model.specs.Sources.{origin}
use Rattle.rvwmo_model.specs.Rules.{SomeBetween, StoresTo, Broken}
use Rattle.rvwmo_model.specs.InForm.{IsPlaced}
use Rattle.growth_laws.specs.Kinds.{WellKinded}
use Rattle.growth_laws.specs.Growth.{AddInsn}
use Rattle.growth_laws.proofs.Places.{not_both}
use Rattle.growth_laws.proofs.Facts.{load_placed}
use Rattle.growth_laws.proofs.Quiet.{sources_rest}
use Rattle.window_laws.specs.Latest.{IsLatestIfAny}
use Rattle.window_laws.proofs.Latests.{latest_same}
use Rattle.rule_laws.specs.Above.{Over, if_over, latest_of_bytes}
use Rattle.rule_laws.specs.Own.{IsOwn}
use Rattle.rule_laws.specs.TwoMarks.{LoadsLast, LoadsOther, TwoMarks, other_mark}
use Rattle.rule_laws.proofs.LatestOver.{mark_over, over_both, mark_over_bytes}
use Rattle.rule_laws.proofs.TwoMarkLaws.{two_answer}
use Rattle.rule_laws.proofs.Candidates.{IsToPrecede, broken_mark, own_older, older_old}

module _ (t t' : Trace) (r : Retired) (new : List Op) (k : WellKinded t) (s : AddInsn t t' r new) (b : Op)
    (mine : Contains new b) (pb : IsPlaced b) where
  abbrev H : ℕ
  H = b.name.hart

  source_rests : (v : Op) (x : ℕ) → Contains t.ops v → reads x v ≡ true → origin t' v x ≡ origin t v x
  source_rests v x i q = (sources_rest t t' v x k (inr (inr (r, new, s))) i q).store

  -- what rule 2 puts before b, by bytes
  pub to_apart : (v : Op) (x : ℕ) → reads x b ≡ true → LoadsOther t H x (origin t' b x) v → IsToPrecede R2 t t' b v
  to_apart v x q p = (
    p.0.0,
    (
      x,
      p.0.1,
      q,
      none,
      λ e. p.1 (sym (source_rests v x p.0.0.0 p.0.1) ∙ e),
    ),
  )
    where
      none : SomeBetween (StoresTo t' v.name.hart x) v b → ⊥
      none z =
          let o = z.3.0 in
          let one : o.name.hart ≡ b.name.hart = z.3.2 ∙ p.0.0.1 in
          let lo : v.name.tag < o.name.tag = omega (arith, z.1, z.3.3) in
          let hi : o.name.tag < b.name.tag = omega (arith, z.2, z.3.3) in
          both_ways _ (p.0.2 o (older_old t t' r new k s o b z.3.1 mine (sym one) hi, one) lo) z.3.4

  pub from_apart : (v : Op) → IsToPrecede R2 t t' b v → (x : ℕ) × (reads x b ≡ true) × LoadsOther t H x
      (origin t' b x) v
  from_apart v p = let f = p.1 in (f.0, f.2, ((p.0, f.1, none), λ e. f.4 (source_rests v f.0 p.0.0 f.1 ∙ e)))
    where
      none : (o : Op) → IsOwn t H o → v.name.tag < o.name.tag → writes p.1.0 o ≡ false
      none o own l = elim (cases_Bool (writes p.1.0 o)) [
        | inr e ↦ e
        | inl e ↦ absurd (p.1.3 (
          o.name.tag,
          l,
          own_older t t' r new k s o b own.0 mine own.1,
          (o, s.ops_on o own.0, own.1 ∙ sym p.0.1, refl, e),
        ))
      ]

  -- the marks of each byte that b loads, as far as they come after a standing p that b isn't before
  module _ (p : Standing) (below : stands_before (standing b) p ≡ false) (xs : List ℕ)
      (all : (x : ℕ) → reads x b ≡ true → Contains xs x) (some : (x : ℕ) → Contains xs x → reads x b ≡ true)
      (one two : ℕ → Option Op)
      (are : (x : ℕ) → Contains xs x → TwoMarks (Over (LoadsLast t H x) p) (λ v. origin t v x) (one x) (two x)) where
    pub rule2 : IsLatestIfAny (λ v. Broken R2 t' v b) (if_over (standing b)
        (latest_of_bytes (λ x. other_mark (λ v. origin t v x) (origin t' b x) (one x) (two x)) xs))
    rule2 = broken_mark t t' r new k s R2 b None (if_over (standing b)
        (latest_of_bytes (λ x. other_mark (λ v. origin t v x) (origin t' b x) (one x) (two x)) xs)) mine pb
        (λ v d. let f = d.0.1 in not_both v (load_placed t v k d.0.0.0 (and_parts (op_loads v) (has_byte f.0 v) f.1).0)
        d.1)
        (λ e. latest_same (Over (λ v. (x : ℕ) × Contains xs x
        × (Over (LoadsLast t H x) p v × (origin t v x ≢ origin t' b x))) (standing b))
        (Over (λ v. IsToPrecede R2 t t' b v × IsPlaced v) (standing b))
        (if_over (standing b) (latest_of_bytes (λ x. other_mark (λ v. origin t v x) (origin t' b x) (one x)
        (two x)) xs))
        (λ v d. let f = d.0 in (
          (
            to_apart v f.0 (some f.0 f.1) (f.2.0.0, f.2.1),
            load_placed t v k f.2.0.0.0.0
                (and_parts (op_loads v) (has_byte f.0 v) f.2.0.0.1).0,
          ),
          d.1,
        ))
        (λ v d. let f = from_apart v d.0.0 in (
          (
            f.0,
            all f.0 f.1,
            ((f.2.0, over_both p (standing b) (standing v) below d.1), f.2.1),
          ),
          d.1,
        ))
        (mark_over (λ v. (x : ℕ) × Contains xs x × (Over (LoadsLast t H x) p v × (origin t v x ≢ origin t' b x)))
        (latest_of_bytes (λ x. other_mark (λ v. origin t v x) (origin t' b x) (one x) (two x)) xs) (standing b)
        (mark_over_bytes (λ x v. Over (LoadsLast t H x) p v × (origin t v x ≢ origin t' b x))
        (λ x. other_mark (λ v. origin t v x) (origin t' b x) (one x) (two x)) xs
        (λ x i. two_answer (Over (LoadsLast t H x) p) (λ v. origin t v x) (one x) (two x) (origin t' b x) (are x i)))))
