-- How a growth changes the latest FENCE of an order.
use Rattle.std.proofs.Common.{ℕ, ◌<◌, ◌≡◌, ◌⊎◌, inl, inr, Bool, true, false, List, [], ◌∷◌, eqb, ◌&&◌, cond}
use Rattle.std.proofs.Common.{Option, Some, None, refl, sym, ap, subst, ◌∙◌, arith}
use Rattle.std.specs.Prelude.{◌≢◌}
use Rattle.std.specs.List.{Contains}
use Rattle.std.proofs.lemmas.Bool.{false≢true, both_ways, and_parts, eqb-true, false_from_ne_true}
use Rattle.rv_decode.specs.declared.instruction.Insn.{Insn}
use Rattle.rv_decode.specs.declared.instruction.Insn.TheVariants.{Fence}
use Rattle.rv_decode.specs.Kinds.{is_store, is_amo_or_sc}
use Rattle.rvwmo_model.specs.declared.instructions.Retired.{Retired}
use Rattle.rvwmo_model.specs.declared.operations.Op.{Op}
use Rattle.rvwmo_model.specs.declared.traces.Trace.{Trace}
use Rattle.rvwmo_model.specs.ProgramOrder.{insn_at, is_one}
use Rattle.rvwmo_model.specs.InForm.{IsPlaced}
use Rattle.rvwmo_model.proofs.LookUp.{found_in}
use Rattle.rvwmo_model.proofs.Membership.{nothing_in, first_in, in_cases}
use Rattle.rvwmo_model.proofs.Tested.{one_some}
use Rattle.growth_laws.specs.Kinds.{WellKinded, kind_of_insn}
use Rattle.growth_laws.specs.Growth.{with_insn, Keeps, AddInsn, Adds, adds_loads, adds_store, adds_atomic, adds_nothing}
use Rattle.growth_laws.proofs.Insns.{more_new}
use Rattle.growth_laws.proofs.Steps.{only}
use Rattle.rule_laws.specs.Fences.{Class, class_orders, IsLatestFence}

-- where the same instructions are FENCEs of the order
pub fences_same : (t t' : Trace) (h : ℕ) (c d : Class) (f : Option ℕ)
    → ((n : ℕ) → is_one (class_orders c d) (insn_at t'.insns h n) ≡ is_one (class_orders c d) (insn_at t.insns h n))
    → IsLatestFence t h c d f → IsLatestFence t' h c d f
fences_same t t' h c d None same l = λ n. same n ∙ l n
fences_same t t' h c d (Some f) same l = (same f ∙ l.0, λ n m. same n ∙ l.1 n m)

pub fences_kept : (t t' : Trace) (h : ℕ) (c d : Class) (f : Option ℕ) → Keeps t t' None → IsLatestFence t h c d f
    → IsLatestFence t' h c d f
fences_kept t t' h c d f s l = fences_same t t' h c d f (λ n. ap (is_one (class_orders c d)) (s.insns h n)) l

-- a FENCE is no instruction of memory
fence_only : (i : Insn) (c d : Class) (stored : Bool) → class_orders c d i ≡ true → kind_of_insn i stored ≡ None
fence_only (Fence fm before after rd rs1) c d stored e = refl
fence_only _ c d stored e = absurd (false≢true e)

fence_no_store : (i : Insn) (c d : Class) → class_orders c d i ≡ true → is_store i ≡ false
fence_no_store (Fence fm before after rd rs1) c d e = refl
fence_no_store _ c d e = absurd (false≢true e)

fence_no_atomic : (i : Insn) (c d : Class) → class_orders c d i ≡ true → is_amo_or_sc i ≡ false
fence_no_atomic (Fence fm before after rd rs1) c d e = refl
fence_no_atomic _ c d e = absurd (false≢true e)

module _ (t t' : Trace) (r : Retired) (new : List Op) (k : WellKinded t) (s : AddInsn t t' r new) where
  -- no instruction of t is under the tag of r, or after it
  nothing_past : (test : Insn → Bool) (n : ℕ) → (n < r.tag → ⊥) → is_one test (insn_at t.insns r.hart n) ≡ false
  nothing_past test n l = false_from_ne_true (is_one test (insn_at t.insns r.hart n)) (λ e.
      let w = one_some test (insn_at t.insns r.hart n) e in
      let g = found_in t.insns r.hart n w.0 w.1 in
      let y : w.0.tag < r.tag = s.younger w.0 g.0 g.1 in
      l (omega (arith, y, g.2)))

  -- an instruction that is no FENCE of the order, or of another hart
  pub fences_other : (h : ℕ) (c d : Class) (f : Option ℕ) → (r.hart ≢ h) ⊎ (class_orders c d r.insn ≡ false)
      → IsLatestFence t h c d f → IsLatestFence t' h c d f
  fences_other h c d f why l = fences_same t t' h c d f
      (λ n. ap (is_one (class_orders c d)) (s.keeps.insns h n) ∙ at n (eqb r.hart h && eqb r.tag n) refl) l
    where
      at : (n : ℕ) (z : Bool) → (eqb r.hart h && eqb r.tag n) ≡ z
          → is_one (class_orders c d) (cond z (Some r) (insn_at t.insns h n))
          ≡ is_one (class_orders c d) (insn_at t.insns h n)
      at n false e = refl
      at n true e =
          let p = and_parts (eqb r.hart h) (eqb r.tag n) e in
          let own : r.hart ≡ h = eqb-true r.hart h p.0 in
          let tag : r.tag ≡ n = eqb-true r.tag n p.1 in
          elim why [
            | inl z ↦ absurd (z own)
            | inr z ↦ z ∙ sym (subst (λ (g : ℕ). is_one (class_orders c d) (insn_at t.insns g n) ≡ false) own
                (nothing_past (class_orders c d) n (λ m. omega (arith, m, tag))))
          ]

  -- a FENCE of the order
  pub fences_new : (c d : Class) → class_orders c d r.insn ≡ true → IsLatestFence t' r.hart c d (Some r.tag)
  fences_new c d e = (
    ap (is_one (class_orders c d)) (more_new t t' r s.keeps) ∙ e,
    λ n l. ap (is_one (class_orders c d)) (s.keeps.insns r.hart n)
        ∙ at n l (eqb r.hart r.hart && eqb r.tag n) refl,
  )
    where
      at : (n : ℕ) → r.tag < n → (z : Bool) → (eqb r.hart r.hart && eqb r.tag n) ≡ z
          → is_one (class_orders c d) (cond z (Some r) (insn_at t.insns r.hart n)) ≡ false
      at n l false q = nothing_past (class_orders c d) n (λ m. omega (arith, m, l))
      at n l true q = absurd (
          let p = and_parts (eqb r.hart r.hart) (eqb r.tag n) q in
          let tag : r.tag ≡ n = eqb-true r.tag n p.1 in
          omega (arith, tag, l))

  -- a FENCE has no operation
  pub fence_none : (c d : Class) → class_orders c d r.insn ≡ true → new ≡ []
  fence_none c d e = at s.adds
    where
      no_kind : kind_of_insn r.insn r.stored ≡ None
      no_kind = fence_only r.insn c d r.stored e

      at : Adds t t' r new → new ≡ []
      at (adds_loads l) = absurd (let q = sym no_kind ∙ l.loads in cc)
      at (adds_store o l) = absurd (both_ways _ (fence_no_store r.insn c d e) l.stores)
      at (adds_atomic i o l) = absurd (both_ways _ (fence_no_atomic r.insn c d e) l.atomic)
      at (adds_nothing l) = l.none

  -- all operations of an instruction were performed, or none
  pub all_or_none : ((v : Op) → Contains new v → IsPlaced v) ⊎ ((v : Op) → Contains new v → v.place ≡ None)
  all_or_none = at s.adds
    where
      at : Adds t t' r new → ((v : Op) → Contains new v → IsPlaced v) ⊎ ((v : Op) → Contains new v → v.place ≡ None)
      at (adds_loads l) = inl l.placed
      at (adds_store o l) =
          inr (λ v i. ap (λ (z : Op). z.place) (only o v new l.one i) ∙ l.unperformed)
      at (adds_atomic e o l) =
          inl (λ v i. let p = k.form.early e l.was in
          (p.0, ap (λ (z : Op). z.place) (only o v new l.one i) ∙ l.place ∙ p.1))
      at (adds_nothing l) = inl (λ v i. absurd (nothing_in v (subst (λ (xs : List Op). Contains xs v) l.none i)))
