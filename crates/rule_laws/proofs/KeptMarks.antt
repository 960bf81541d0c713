-- How a growth changes the marks of rules 4 to 7.
use Rattle.std.proofs.Common.{ℕ, ◌<◌, ◌≡◌, ◌⊎◌, inl, inr, Bool, true, false, List, [], eqb, ◌&&◌, cond, Option, Some}
use Rattle.std.proofs.Common.{None, refl, sym, ap, subst, ◌∙◌, arith}
use Rattle.std.specs.List.{Contains, filter}
use Rattle.std.specs.Prelude.{◌≢◌}
use Rattle.std.proofs.lemmas.Bool.{both_ways, and_parts, eqb-true}
use Rattle.rvwmo_model.specs.declared.instructions.Retired.{Retired}
use Rattle.rvwmo_model.specs.declared.operations.Op.{Op}
use Rattle.rvwmo_model.specs.declared.traces.Trace.{Trace}
use Rattle.rvwmo_model.specs.ProgramOrder.{insn_at, is_one}
use Rattle.rvwmo_model.specs.Sources.{later, latest_from}
use Rattle.rvwmo_model.specs.InForm.{IsPlaced}
use Rattle.rvwmo_model.proofs.LookUp.{found_in}
use Rattle.rvwmo_model.proofs.Membership.{nothing_in}
use Rattle.rvwmo_model.proofs.Tested.{one_some}
use Rattle.growth_laws.specs.Kinds.{WellKinded}
use Rattle.growth_laws.specs.Growth.{with_insn, AddInsn, PerformsPart}
use Rattle.growth_laws.proofs.Places.{not_both}
use Rattle.growth_laws.proofs.Insns.{with_same}
use Rattle.growth_laws.proofs.Operations.{op_older, part_ops}
use Rattle.window_laws.specs.Latest.{IsLatestIfAny}
use Rattle.window_laws.proofs.Latests.{latest_same}
use Rattle.rule_laws.specs.Own.{IsOwnPerformed}
use Rattle.rule_laws.specs.Fences.{Class, kind_in, class_orders, FenceAfter, FencedOff}
use Rattle.rule_laws.proofs.LatestOver.{mark_more, mark_list}

-- ---- an instruction more

module _ (t t' : Trace) (r : Retired) (new : List Op) (k : WellKinded t) (s : AddInsn t t' r new) (h : ℕ) where
  done_on : (v : Op) → IsOwnPerformed t h v → IsOwnPerformed t' h v
  done_on v p = ((s.ops_on v p.0.0, p.0.1), p.1)

  done_back : (v : Op) → IsOwnPerformed t' h v → (Contains new v × (r.hart ≡ h)) ⊎ IsOwnPerformed t h v
  done_back v p = elim (s.ops_back v p.0.0) [
    | inl m ↦ inl (m, sym (s.are_of.own v m).0 ∙ p.0.1)
    | inr i ↦ inr
        ((i, p.0.1), p.1)
  ]

  -- its operations are performed
  pub run_more : (q : Op → Bool) (m : Option Op) → r.hart ≡ h → ((v : Op) → Contains new v → IsPlaced v)
      → IsLatestIfAny (λ v. IsOwnPerformed t h v × (q v ≡ true)) m → IsLatestIfAny
      (λ v. IsOwnPerformed t' h v × (q v ≡ true)) (latest_from m (filter q new))
  run_more q m own placed a = latest_same (λ v. (IsOwnPerformed t h v × (q v ≡ true))
      ⊎ (Contains new v × (q v ≡ true))) (λ v. IsOwnPerformed t' h v × (q v ≡ true)) (latest_from m (filter q new))
      (λ v d. elim d [
        | inl p ↦ (done_on v p.0, p.1)
        | inr p
            ↦ (((s.added v p.0, (s.are_of.own v p.0).0 ∙ own), placed v p.0), p.1)
      ])
      (λ v d. elim (done_back v d.0) [ inl p ↦ inr (p.0, d.1) | inr p ↦ inl (p, d.1) ])
      (mark_list (λ v. IsOwnPerformed t h v × (q v ≡ true)) q new m a)

  -- they aren't, or are of another hart
  pub run_same : (q : Op → Bool) (m : Option Op) → (r.hart ≢ h) ⊎ ((v : Op) → Contains new v → v.place ≡ None)
      → IsLatestIfAny (λ v. IsOwnPerformed t h v × (q v ≡ true)) m → IsLatestIfAny
      (λ v. IsOwnPerformed t' h v × (q v ≡ true)) m
  run_same q m why a = latest_same (λ v. IsOwnPerformed t h v × (q v ≡ true))
      (λ v. IsOwnPerformed t' h v × (q v ≡ true)) m (λ v p. (done_on v p.0, p.1))
      (λ v d. elim (done_back v d.0) [
        | inr p ↦ (p, d.1)
        | inl p ↦ absurd
            (elim why [ inl z ↦ z p.1 | inr z ↦ not_both v d.0.1 (z v p.0) ])
      ]) a

  fence_on : (c d : Class) (i : ℕ) → FenceAfter t h c d i → FenceAfter t' h c d i
  fence_on c d i f = (
    f.0,
    f.1,
    ap (is_one (class_orders c d))
        (s.keeps.insns h f.0 ∙ other f.0 f.2 (eqb r.hart h && eqb r.tag f.0) refl) ∙ f.2,
  )
    where
      other : (n : ℕ) → is_one (class_orders c d) (insn_at t.insns h n) ≡ true → (z : Bool)
          → (eqb r.hart h && eqb r.tag n) ≡ z → with_insn t (Some r) h n ≡ insn_at t.insns h n
      other n q false e = rw e refl
      other n q true e = absurd (
          let p = and_parts (eqb r.hart h) (eqb r.tag n) e in
          let w = one_some (class_orders c d) (insn_at t.insns h n) q in
          let g = found_in t.insns h n w.0 w.1 in
          let l : w.0.tag < r.tag = s.younger w.0 g.0 (g.1 ∙ sym (eqb-true _ _ p.0)) in
          omega (arith, l, g.2, eqb-true r.tag n p.1))

  fence_back : (c d : Class) (i : ℕ) → FenceAfter t' h c d i → FenceAfter t h c d i
      ⊎ ((r.hart ≡ h) × (i < r.tag) × (class_orders c d r.insn ≡ true))
  fence_back c d i f = at (eqb r.hart h && eqb r.tag f.0) refl
      (sym (ap (is_one (class_orders c d)) (s.keeps.insns h f.0)) ∙ f.2)
    where
      at : (z : Bool) → (eqb r.hart h && eqb r.tag f.0) ≡ z → is_one (class_orders c d)
          (cond z (Some r) (insn_at t.insns h f.0)) ≡ true → FenceAfter t h c d i
          ⊎ ((r.hart ≡ h) × (i < r.tag) × (class_orders c d r.insn ≡ true))
      at false e q = inl (f.0, f.1, q)
      at true e q = let p = and_parts (eqb r.hart h) (eqb r.tag f.0) e in inr
          (eqb-true _ _ p.0, (let l = f.1 in omega (arith, l, eqb-true r.tag f.0 p.1)), q)

  -- a FENCE of the order: the mark is what the class has come to
  pub fence_set : (c d : Class) (run : Option Op) → r.hart ≡ h → class_orders c d r.insn ≡ true → new ≡ []
      → IsLatestIfAny (λ v. IsOwnPerformed t h v × (kind_in c v.kind ≡ true)) run → IsLatestIfAny
      (λ v. IsOwnPerformed t' h v × FencedOff t' h c d v) run
  fence_set c d run own f none a = latest_same (λ v. IsOwnPerformed t h v × (kind_in c v.kind ≡ true))
      (λ v. IsOwnPerformed t' h v × FencedOff t' h c d v) run
      (λ v p. (
        done_on v p.0,
        (
          p.1,
          (
            r.tag,
            op_older t t' r new v k s p.0.0.0 (p.0.0.1 ∙ sym own),
            ap
                (is_one (class_orders c d)) (subst (λ (z : ℕ). insn_at t'.insns z r.tag ≡ Some r) own
                (s.keeps.insns r.hart r.tag ∙ with_same t r)) ∙ f,
          ),
        ),
      ))
      (λ v p. elim (done_back v p.0) [
        | inl q ↦ absurd (nothing_in v (subst (λ (l : List Op). Contains l v) none q.0))
        | inr q ↦ (q, p.1.0)
      ])
      a

  -- no FENCE of the order
  pub fence_same : (c d : Class) (m : Option Op) → (r.hart ≢ h) ⊎ (class_orders c d r.insn ≡ false) → IsLatestIfAny
      (λ v. IsOwnPerformed t h v × FencedOff t h c d v) m → IsLatestIfAny
      (λ v. IsOwnPerformed t' h v × FencedOff t' h c d v) m
  fence_same c d m why a = latest_same (λ v. IsOwnPerformed t h v × FencedOff t h c d v)
      (λ v. IsOwnPerformed t' h v × FencedOff t' h c d v) m
      (λ v p. (done_on v p.0, (p.1.0, fence_on c d v.name.tag p.1.1)))
      (λ v p. elim (fence_back c d v.name.tag p.1.1) [
        | inr f ↦ absurd (elim why [ inl z ↦ z f.0 | inr z ↦ both_ways _ z f.2 ])
        | inl f ↦ elim (done_back v p.0) [
          | inr q ↦ (q, (p.1.0, f))
          | inl q ↦ absurd (
              let w = one_some (class_orders c d) (insn_at t.insns h f.0) f.2 in
              let g = found_in t.insns h f.0 w.0 w.1 in
              let l : w.0.tag < r.tag = s.younger w.0 g.0 (g.1 ∙ sym q.1) in
              let e = (s.are_of.own v q.0).1 in
              let y = f.1 in
              omega (arith, l, g.2, e, y))
        ]
      ])
      a

-- ---- a part is performed

module _ (t t' : Trace) (o n : Op) (rest : Option Op) (s : PerformsPart t t' o n rest) (h : ℕ) where
  part_done_on : (v : Op) → IsOwnPerformed t h v → IsOwnPerformed t' h v
  part_done_on v p = (((part_ops t t' o n rest s).stays v p.0.0 p.1, p.0.1), p.1)

  part_done_back : (v : Op) → IsOwnPerformed t' h v → (v ≡ n) ⊎ IsOwnPerformed t h v
  part_done_back v p = elim (s.ops_back v p.0.0) [
    | inl e ↦ inl e
    | inr d ↦ elim d [ inl e ↦ absurd (not_both v p.1 (s.left v e).1) | inr i ↦ inr ((i, p.0.1), p.1) ]
  ]

  -- the properties that a part may take on: of the operation, and of the instructions
  module _ (P P' : Op → Type 0) (on : (v : Op) → P v → P' v) (back : (v : Op) → P' v → P v) where
    pub part_more : (m : Option Op) → n.name.hart ≡ h → P' n → IsLatestIfAny (λ v. IsOwnPerformed t h v × P v) m
        → IsLatestIfAny (λ v. IsOwnPerformed t' h v × P' v) (later m n)
    part_more m own p a = mark_more (λ v. IsOwnPerformed t h v × P v) (λ v. IsOwnPerformed t' h v × P' v) m n
        (λ v q. (part_done_on v q.0, on v q.1)) (((s.added, own), s.placed), p)
        (λ v q. elim (part_done_back v q.0) [ inl e ↦ inl e | inr d ↦ inr (d, back v q.1) ]) a

    pub part_same : (m : Option Op) → ((n.name.hart ≡ h) × P' n → ⊥) → IsLatestIfAny
        (λ v. IsOwnPerformed t h v × P v) m → IsLatestIfAny (λ v. IsOwnPerformed t' h v × P' v) m
    part_same m why a = latest_same (λ v. IsOwnPerformed t h v × P v) (λ v. IsOwnPerformed t' h v × P' v) m
        (λ v q. (part_done_on v q.0, on v q.1))
        (λ v q. elim (part_done_back v q.0) [
          | inr d ↦ (d, back v q.1)
          | inl e ↦ absurd
              (why (subst (λ (z : Op). (z.name.hart ≡ h) × P' z) e (q.0.0.1, q.1)))
        ]) a

  -- FENCEs are the same
  pub part_fence : (c d : Class) (i : ℕ) → (FenceAfter t h c d i → FenceAfter t' h c d i)
      × (FenceAfter t' h c d i → FenceAfter t h c d i)
  part_fence c d i = (
    (λ f. (f.0, f.1, ap (is_one (class_orders c d)) (s.keeps.insns h f.0) ∙ f.2)),
    λ f. (f.0, f.1, sym (ap (is_one (class_orders c d)) (s.keeps.insns h f.0)) ∙ f.2),
  )
