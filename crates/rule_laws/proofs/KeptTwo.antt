-- How a growth changes the two marks of a byte.
use Rattle.std.proofs.Common.{ℕ, ◌<◌, ◌≡◌, ◌⊎◌, inl, inr, true, false, List, Option, Some, None, refl, sym, ap, subst}
use Rattle.std.proofs.Common.{◌∙◌, arith}
use Rattle.std.specs.List.{Contains}
use Rattle.std.proofs.lemmas.Bool.{both_ways, and_parts, and_from, cases_Bool}
use Rattle.rvwmo_model.specs.declared.instructions.Retired.{Retired}
use Rattle.rvwmo_model.specs.declared.operations.Op.{Op}
use Rattle.rvwmo_model.specs.declared.operations.OpKind.TheVariants as kind
use Rattle.rvwmo_model.specs.declared.traces.Trace.{Trace}
use Rattle.rvwmo_model.specs.Order.{kind_loads, kind_stores, op_loads, op_stores, has_byte, reads, writes}
use Rattle.rvwmo_model.specs.Sources.{origin}
use Rattle.growth_laws.specs.Kinds.{WellKinded, SameInsn}
use Rattle.growth_laws.specs.Growth.{AddInsn, IsPartOf, PerformsPart, Performs, no_parts, more_parts}
use Rattle.growth_laws.proofs.Facts.{plain_kind}
use Rattle.growth_laws.proofs.Growths.{performs_chain, chain_kinded}
use Rattle.growth_laws.proofs.Steps.{part_lift}
use Rattle.rule_laws.specs.TwoMarks.{LoadsLast, TwoMarks}
use Rattle.rule_laws.proofs.TwoMarkLaws.{two_none, two_grow}
use Rattle.rule_laws.proofs.Candidates.{own_older}

-- ---- an instruction more

module _ (t t' : Trace) (r : Retired) (new : List Op) (k : WellKinded t) (s : AddInsn t t' r new) (h x : ℕ) where
  -- no new operation of h stores to x
  abbrev pub NoNewStore : Type 0
  NoNewStore = (o : Op) → Contains new o → o.name.hart ≡ h → writes x o ≡ false

  -- v is new, and loads x
  abbrev pub NewLoad : Op → Type 0
  NewLoad v = Contains new v × (v.name.hart ≡ h) × (reads x v ≡ true)

  older : (v o : Op) → Contains t.ops v → v.name.hart ≡ h → Contains new o → o.name.hart ≡ h → v.name.tag < o.name.tag
  older v o i e j f = own_older t t' r new k s v o i j (e ∙ sym f)

  pub last_after : (v : Op) → LoadsLast t' h x v → (LoadsLast t h x v × NoNewStore) ⊎ NewLoad v
  last_after v p = elim (s.ops_back v p.0.0) [
    | inl m ↦ inr (m, p.0.1, p.1)
    | inr i ↦ inl (
      ((i, p.0.1), p.1, λ o own l. p.2 o (s.ops_on o own.0, own.1) l),
      λ o m e. p.2 o (s.added o m, e)
          (older v o i p.0.1 m e),
    )
  ]

  pub last_old : (v : Op) → LoadsLast t h x v → NoNewStore → LoadsLast t' h x v
  last_old v p none = (
    (s.ops_on v p.0.0, p.0.1),
    p.1,
    λ o own l. elim
        (s.ops_back o own.0) [ inl m ↦ none o m own.1 | inr i ↦ p.2 o (i, own.1) l ],
  )

  pub last_new : (v : Op) → NewLoad v → LoadsLast t' h x v
  last_new v p = (
    (s.added v p.0, p.1),
    p.2,
    λ o own l. absurd (elim (s.ops_back o own.0) [
      | inl m ↦ (let a = s.are_of.own o m in let b = s.are_of.own v p.0 in omega (arith, a.1, b.1, l))
      | inr i ↦ (let y = older o v i own.1 p.0 p.1 in omega (arith, y, l))
    ]),
  )

  abbrev Marks : Trace → Option Op → Option Op → Type 0
  Marks u one two = TwoMarks (LoadsLast u h x) (λ v. origin u v x) one two

  -- c stores to it, and loads nothing
  pub two_cleared : (c : Op) → Contains new c → c.name.hart ≡ h → writes x c ≡ true → op_loads c ≡ false
      → Marks t' None None
  two_cleared c i e q n = two_none (LoadsLast t' h x) (λ v. origin t' v x) (λ v p. elim (last_after v p) [
    | inl o ↦ both_ways _ (o.1 c i e) q
    | inr l ↦
        let same : v ≡ c = s.are_of.disjoint v c x l.0 i (and_parts (op_loads v) (has_byte x v) l.2).1
        (and_parts (op_stores c) (has_byte x c) q).1 in
        both_ways _ n (ap op_loads (sym same) ∙ (and_parts (op_loads v) (has_byte x v) l.2).0)
  ])

  -- c loads and stores: it is the one
  pub two_atomic : (c : Op) → NewLoad c → writes x c ≡ true → Marks t' (Some c) None
  two_atomic c load q = two_grow (λ (v : Op). ⊥) (λ v. origin t' v x) (LoadsLast t' h x) None None c (λ v p. absurd p)
      (last_new c load)
      (λ v p. elim (last_after v p) [
        | inl o ↦ absurd (both_ways _ (o.1 c load.0 load.1) q)
        | inr l ↦ inl (s.are_of.disjoint v c x l.0 load.0 (and_parts (op_loads v) (has_byte x v) l.2).1
            (and_parts (op_loads c) (has_byte x c) load.2).1)
      ])
      (two_none (λ (v : Op). ⊥) (λ v. origin t' v x) (λ v p. p))

-- ---- stores that are performed

module _ (t t' : Trace) (o n : Op) (rest : Option Op) (k : WellKinded t) (s : PerformsPart t t' o n rest)
    (h x : ℕ) where
  stores_only : o.kind ≡ kind.Store
  stores_only = plain_kind t o k s.was (k.unperformed o s.was s.unperformed)

  part_loads_not : (m : Op) → IsPartOf m o → reads x m ≡ true → ⊥
  part_loads_not m p q = both_ways _ (ap kind_loads (p.kind ∙ stores_only)) (and_parts (op_loads m) (has_byte x m) q).0

  load_back : (v : Op) → Contains t'.ops v → reads x v ≡ true → Contains t.ops v
  load_back v i q = elim (s.ops_back v i) [
    | inl e ↦ absurd (part_loads_not n s.part (subst (λ (z : Op). reads x z ≡ true) e q))
    | inr d ↦ elim d [ inl e ↦ absurd (part_loads_not v (s.left v e).2 q) | inr j ↦ j ]
  ]

  load_on : (v : Op) → Contains t.ops v → reads x v ≡ true → Contains t'.ops v
  load_on v i q = elim (s.ops_on v i) [
    | inl e ↦ absurd (both_ways _ (ap kind_loads (ap (λ (z : Op). z.kind) e ∙ stores_only))
        (and_parts (op_loads v) (has_byte x v) q).0)
    | inr j ↦ j
  ]

  -- a store to x is of an instruction that stored to it
  part_was : (m : Op) → IsPartOf m o → writes x m ≡ true → (w : Op) × Contains t.ops w × (writes x w ≡ true)
      × SameInsn m w
  part_was m p q = let c = and_parts (op_stores m) (has_byte x m) q in
      (o, s.was, and_from _ _ (sym (ap kind_stores p.kind) ∙ c.0) (p.bytes x c.1).0, p.same)

  store_back : (v : Op) → Contains t'.ops v → writes x v ≡ true → (w : Op) × Contains t.ops w × (writes x w ≡ true)
      × SameInsn v w
  store_back v i q = elim (s.ops_back v i) [
    | inl e ↦ subst (λ (z : Op). (w : Op) × Contains t.ops w × (writes x w ≡ true) × SameInsn z w) (sym e)
        (part_was n s.part (subst (λ (z : Op). writes x z ≡ true) e q))
    | inr d ↦ elim d [ inl e ↦ part_was v (s.left v e).2 q | inr j ↦ (v, j, q, (refl, refl)) ]
  ]

  store_on : (v : Op) → Contains t.ops v → writes x v ≡ true → (w : Op) × Contains t'.ops w × (writes x w ≡ true)
      × SameInsn w v
  store_on v i q = elim (s.ops_on v i) [
    | inr j ↦ (v, j, q, (refl, refl))
    | inl e ↦
        let c = and_parts (op_stores o) (has_byte x o) (subst (λ (z : Op). writes x z ≡ true) e q) in
        let l = part_lift t t' o n rest s x c.1 in (
          l.0,
          l.1,
          and_from _ _ (ap kind_stores l.4.kind ∙ c.0) l.2,
          subst (λ (z : Op). SameInsn l.0 z)
              (sym e) l.4.same,
        )
  ]

  pub part_last_on : (v : Op) → LoadsLast t h x v → LoadsLast t' h x v
  part_last_on v p = (
    (load_on v p.0.0 p.1, p.0.1),
    p.1,
    λ u own l. elim (cases_Bool (writes x u)) [
      | inr e ↦ e
      | inl e ↦ absurd (let w = store_back u own.0 e in both_ways _
          (p.2 w.0 (w.1, sym w.3.0 ∙ own.1) (omega (arith, l, w.3.1))) w.2)
    ],
  )

  pub part_last_back : (v : Op) → LoadsLast t' h x v → LoadsLast t h x v
  part_last_back v p = (
    (load_back v p.0.0 p.1, p.0.1),
    p.1,
    λ u own l. elim (cases_Bool (writes x u)) [
      | inr e ↦ e
      | inl e ↦ absurd (let w = store_on u own.0 e in both_ways _
          (p.2 w.0 (w.1, w.3.0 ∙ own.1) (omega (arith, l, w.3.1))) w.2)
    ],
  )

-- a whole message: the set is the same
pub stores_last : (g : ℕ) (t t' : Trace) (parts : List Op) (h x : ℕ) → WellKinded t → Performs g t parts t' → (v : Op)
    → (LoadsLast t h x v → LoadsLast t' h x v) × (LoadsLast t' h x v → LoadsLast t h x v)
stores_last g t _ _ h x k no_parts v = ((λ p. p), λ p. p)
stores_last g t _ _ h x k (more_parts parts u t' o n rest s e p) v =
    let l = stores_last g t u parts h x k s v in
    let ku = chain_kinded t u k (performs_chain g t u parts k s) in
    ((λ q. part_last_on u t' o n rest ku p h x v (l.0 q)), λ q. l.1 (part_last_back u t' o n rest ku p h x v q))
