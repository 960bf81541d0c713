-- What each step does to the stores of a byte.
use Rattle.std.proofs.Common.{ℕ, ◌<◌, ◌≡◌, ◌⊎◌, inl, inr, true, List, [], ◌∷◌, Option, Some, None, refl, sym, ap}
use Rattle.std.proofs.Common.{subst, ◌∙◌, arith}
use Rattle.std.proofs.lemmas.Bool.{both_ways, and_parts, and_from}
use Rattle.std.specs.List.{Contains}
use Rattle.std.proofs.lemmas.List.Elements.{Contains-append_cases, Contains-append_left, Contains-append_right}
use Rattle.rvwmo_model.specs.declared.instructions.Retired.{Retired}
use Rattle.rvwmo_model.specs.declared.operations.Op.{Op}
use Rattle.rvwmo_model.specs.declared.operations.OpKind.TheVariants as kind
use Rattle.rvwmo_model.specs.declared.traces.Trace.{Trace}
use Rattle.rvwmo_model.specs.Order.{kind_stores, op_stores, has_byte, writes, put_at, everything}
use Rattle.rvwmo_model.specs.InForm.{IsPlaced}
use Rattle.rvwmo_model.proofs.Membership.{nothing_in, head_in, in_cases}
use Rattle.growth_laws.specs.Kinds.{kind_of_retired, WellKinded}
use Rattle.growth_laws.specs.Growth.{SameMembers, IsAbove, IsYounger, Same, AddEarly, AddsStore, AddsAtomic, Adds}
use Rattle.growth_laws.specs.Growth.{adds_loads, adds_store, adds_atomic, adds_nothing, AddInsn, IsPartOf}
use Rattle.growth_laws.specs.Growth.{PerformsPart}
use Rattle.growth_laws.specs.Writers.{Becomes, GoesOn, WritersGo}
use Rattle.growth_laws.proofs.Places.{not_both, placed_first}
use Rattle.growth_laws.proofs.Facts.{atomic_stores}

pub itself : (t : Trace) (o : Op) → Becomes t o o
itself t o = record { same = (refl, refl); place = inl refl }

-- a store that stays
stays : (t t' : Trace) (x : ℕ) → ((v : Op) → Contains t.ops v → Contains t'.ops v) → (w : Op)
    → Contains (everything t) w → Contains (everything t') w → writes x w ≡ true → GoesOn t t' x w w
stays t t' x on w h i q =
    record { was = h; is = i; stored = q; stores = q; retired = on w; becomes = itself t w; byte = refl }

-- what there is stays
pub grows : (t t' : Trace) → ((v : Op) → Contains t.ops v → Contains t'.ops v)
    → ((v : Op) → Contains t.early v → Contains t'.early v) → (w : Op) → Contains (everything t) w
    → Contains (everything t') w
grows t t' f g w h =
    elim (Contains-append_cases t.ops t.early w h) [
      | inl a ↦ Contains-append_left t'.ops t'.early w (f w a)
      | inr b ↦ Contains-append_right t'.ops t'.early w (g w b)
    ]

-- a store is new
abbrev IsNew : Trace → Op → Type 0
IsNew t n = IsAbove t n × IsYounger t n

abbrev Back : Trace → Trace → ℕ → Op → Type 0
Back t t' x n = ((w : Op) × GoesOn t t' x w n) ⊎ IsNew t n

-- where all operations stay
module _ (t t' : Trace) (x : ℕ) (ops_on : (v : Op) → Contains t.ops v → Contains t'.ops v) where
  old_back : (n : Op) → Contains (everything t) n → Contains (everything t') n → writes x n ≡ true → Back t t' x n
  old_back n i h q = inl (n, stays t t' x ops_on n i h q)

  -- and so do early stores
  grown : ((v : Op) → Contains t.early v → Contains t'.early v)
      → ((n : Op) → Contains (everything t') n → writes x n ≡ true → Contains (everything t) n ⊎ IsNew t n)
      → WritersGo t t' x
  grown early_on back = record {
    on = λ w h q. (w, stays t t' x ops_on w h (grows t t' ops_on early_on w h) q);
    back = λ n h q. elim (back n h q) [ inl i ↦ old_back n i h q | inr m ↦ inr m ];
  }

pub same_writers : (t t' : Trace) (x : ℕ) → Same t t' → WritersGo t t' x
same_writers t t' x s = grown t t' x s.ops.on s.early.on (λ n h q. inl (grows t' t s.ops.back s.early.back n h))

pub early_writers : (t t' : Trace) (e : Op) (x : ℕ) → AddEarly t t' e → WritersGo t t' x
early_writers t t' e x s = grown t t' x s.ops.on s.early_on (λ n h q. elim (Contains-append_cases t'.ops t'.early n h) [
  | inl a ↦ inl (Contains-append_left t.ops t.early n (s.ops.back n a))
  | inr b ↦ elim (s.early_back n b) [
    | inl same ↦ inr (subst (λ (o : Op). IsNew t o) (sym same) (s.above, s.younger))
    | inr c ↦ inl (Contains-append_right t.ops t.early n c)
  ]
])

-- an instruction more whose early stores stay, and whose own stores are new
insn_grown : (t t' : Trace) (r : Retired) (new : List Op) (x : ℕ) → AddInsn t t' r new → SameMembers t.early t'.early
    → ((n : Op) → Contains new n → writes x n ≡ true → IsNew t n) → WritersGo t t' x
insn_grown t t' r new x s early fresh =
    grown t t' x s.ops_on early.on (λ n h q. elim (Contains-append_cases t'.ops t'.early n h) [
      | inr b ↦ inl (Contains-append_right t.ops t.early n (early.back n b))
      | inl a ↦
          elim (s.ops_back n a) [ inl m ↦ inr (fresh n m q) | inr c ↦ inl (Contains-append_left t.ops t.early n c) ]
    ])

load_stores_none : (t t' : Trace) (r : Retired) (new : List Op) (x : ℕ) (n : Op) → AddInsn t t' r new
    → kind_of_retired r ≡ Some kind.Load → Contains new n → writes x n ≡ true → ⊥
load_stores_none t t' r new x n s e m q =
    let c : Some n.kind ≡ Some kind.Load = sym (s.are_of.kinds n m) ∙ e in
    let same : n.kind ≡ kind.Load = cc in
    both_ways _ (ap kind_stores same) (and_parts (op_stores n) (has_byte x n) q).0

pub only : (o n : Op) (new : List Op) → new ≡ o ∷ [] → Contains new n → n ≡ o
only o n new e h =
    elim (in_cases o [] n (subst (λ (l : List Op). Contains l n) e h)) [ inl q ↦ q | inr f ↦ absurd (nothing_in n f) ]

pub there : (o : Op) (new : List Op) → new ≡ o ∷ [] → Contains new o
there o new e = subst (λ (l : List Op). Contains l o) (sym e) (head_in o [])

store_new : (t t' : Trace) (r : Retired) (new : List Op) (o : Op) → AddInsn t t' r new → AddsStore t t' r new o
    → IsNew t o
store_new t t' r new o s a =
    let mine = s.are_of.own o (there o new a.one) in (
      (λ v h p. placed_first v o p a.unperformed),
      λ w h e. (let l : w.tag < r.tag = s.younger w h (e ∙ mine.0) in
          omega (arith, mine.1)),
    )

-- the early store e retires as o
module _ (t t' : Trace) (r : Retired) (new : List Op) (e o : Op) (x : ℕ) (k : WellKinded t) (s : AddInsn t t' r new)
    (a : AddsAtomic t t' r new e o) where
  covers_same : has_byte x o ≡ has_byte x e
  covers_same = rw (a.extent, a.mask) refl

  retires : writes x e ≡ true → writes x o ≡ true → GoesOn t t' x e o
  retires q u = record {
    was = Contains-append_right t.ops t.early e a.was;
    is = Contains-append_left t'.ops t'.early o (s.added o (there o new a.one));
    stored = q;
    stores = u;
    retired = λ j. s.added o (there o new a.one);
    becomes = record { same = a.same; place = inl a.place };
    byte = a.put x (and_parts (op_stores o) (has_byte x o) u).1;
  }

  stores_both : (op_stores o ≡ true) × (op_stores e ≡ true)
  stores_both = (own_stores, ap kind_stores (k.early_stores e a.was))
    where
      own_stores : op_stores o ≡ true
      own_stores = atomic_stores r.insn r.stored o.kind a.atomic (s.are_of.kinds o (there o new a.one))

  forth : (w : Op) → Contains (everything t) w → writes x w ≡ true → Contains t.ops w ⊎ Contains t.early w → (m : Op)
      × GoesOn t t' x w m
  forth w h q (inl i) = (w, stays t t' x s.ops_on w h (Contains-append_left t'.ops t'.early w (s.ops_on w i)) q)
  forth w h q (inr b) = elim (a.early_on w b) [
    | inl same ↦
        let u = subst (λ (z : Op). writes x z ≡ true) same q in (
          o,
          subst (λ (z : Op). GoesOn t t' x z o) (sym same)
              (retires u (and_from _ _ stores_both.0 (covers_same ∙ (and_parts (op_stores e) (has_byte x e) u).1))),
        )
    | inr c ↦ (w, stays t t' x s.ops_on w h (Contains-append_right t'.ops t'.early w c) q)
  ]

  back : (n : Op) → Contains (everything t') n → writes x n ≡ true → Contains t'.ops n ⊎ Contains t'.early n
      → Back t t' x n
  back n h q (inr b) = inl (n, stays t t' x s.ops_on n (Contains-append_right t.ops t.early n (a.early_back n b)) h q)
  back n h q (inl i) = elim (s.ops_back n i) [
    | inl m ↦
        let same = only o n new a.one m in
        let u = subst (λ (z : Op). writes x z ≡ true) same q in
        inl (
          e,
          subst (λ (z : Op). GoesOn t t' x e z) (sym same)
              (retires (and_from _ _ stores_both.1 (sym covers_same ∙ (and_parts (op_stores o) (has_byte x o) u).1)) u),
        )
    | inr c ↦ inl (n, stays t t' x s.ops_on n (Contains-append_left t.ops t.early n c) h q)
  ]

  pub atomic_writers : WritersGo t t' x
  atomic_writers =
      record {
        on = λ w h q. forth w h q (Contains-append_cases t.ops t.early w h);
        back = λ n h q. back n h q (Contains-append_cases t'.ops t'.early n h);
      }

pub insn_writers : (t t' : Trace) (r : Retired) (new : List Op) (x : ℕ) → WellKinded t → AddInsn t t' r new
    → WritersGo t t' x
insn_writers t t' r new x k s = at s.adds
  where
    at : Adds t t' r new → WritersGo t t' x
    at (adds_loads a) =
        insn_grown t t' r new x s a.early (λ n m q. absurd (load_stores_none t t' r new x n s a.loads m q))
    at (adds_store o a) =
        insn_grown t t' r new x s a.early
        (λ n m q. subst (λ (z : Op). IsNew t z) (sym (only o n new a.one m)) (store_new t t' r new o s a))
    at (adds_atomic e o a) = atomic_writers t t' r new e o x k s a
    at (adds_nothing a) =
        insn_grown t t' r new x s a.early
        (λ n m q. absurd (nothing_in n (subst (λ (l : List Op). Contains l n) a.none m)))

-- ---- one part is performed

pub part_becomes : (t : Trace) (o n : Op) → IsPartOf n o → (n.place ≡ o.place)
    ⊎ ((o.place ≡ None) × IsPlaced n × IsAbove t n) → Becomes t o n
part_becomes t o n p m = record { same = p.same; place = m }

-- each byte of o is one of n or of what is left
pub part_lift : (t t' : Trace) (o n : Op) (rest : Option Op) → PerformsPart t t' o n rest → (x : ℕ)
    → has_byte x o ≡ true → (m : Op) × Contains t'.ops m × (has_byte x m ≡ true) × Becomes t o m × IsPartOf m o
part_lift t t' o n rest s x q = elim (s.all x q) [
  | inl c ↦ (n, s.added, c, part_becomes t o n s.part (inr (s.unperformed, s.placed, s.above)), s.part)
  | inr m ↦ let l = s.left m.0 m.1 in (m.0, l.0, m.2, part_becomes t o m.0 l.2 (inl (l.1 ∙ sym s.unperformed)), l.2)
]

module _ (t t' : Trace) (o n : Op) (rest : Option Op) (x : ℕ) (k : WellKinded t) (s : PerformsPart t t' o n rest) where
  goes : (w m : Op) → Contains (everything t) w → Contains t'.ops m → writes x w ≡ true → writes x m ≡ true
      → Becomes t w m → put_at m x ≡ put_at w x → GoesOn t t' x w m
  goes w m h i q u b e =
      record {
        was = h;
        is = Contains-append_left t'.ops t'.early m i;
        stored = q;
        stores = u;
        retired = λ j. i;
        becomes = b;
        byte = e;
      }

  -- an early store is not o
  retired_on : (v : Op) → Contains t.early v → Contains t.ops v → Contains t'.ops v
  retired_on v b i =
      elim (s.ops_on v i) [
        | inl same ↦ absurd (not_both v (k.form.early v b) (ap (λ (z : Op). z.place) same ∙ s.unperformed))
        | inr j ↦ j
      ]

  early_goes : (v : Op) → Contains t.early v → Contains t'.early v → writes x v ≡ true → GoesOn t t' x v v
  early_goes v b c q =
      record {
        was = Contains-append_right t.ops t.early v b;
        is = Contains-append_right t'.ops t'.early v c;
        stored = q;
        stores = q;
        retired = retired_on v b;
        becomes = itself t v;
        byte = refl;
      }

  was : Contains (everything t) o
  was = Contains-append_left t.ops t.early o s.was

  part_on : (m : Op) → Contains t'.ops m → IsPartOf m o → (m.place ≡ o.place)
      ⊎ ((o.place ≡ None) × IsPlaced m × IsAbove t m) → writes x m ≡ true → Back t t' x m
  part_on m i p e q =
      let c = and_parts (op_stores m) (has_byte x m) q in
      inl (
        o,
        goes o m was i (and_from _ _ (sym (ap kind_stores p.kind) ∙ c.0) (p.bytes x c.1).0) q
            (part_becomes t o m p e) (p.bytes x c.1).1,
      )

  part_forth : (w : Op) → Contains (everything t) w → writes x w ≡ true → Contains t.ops w ⊎ Contains t.early w
      → (m : Op) × GoesOn t t' x w m
  part_forth w h q (inr b) = (w, early_goes w b (s.early.on w b) q)
  part_forth w h q (inl a) = elim (s.ops_on w a) [
    | inl same ↦
        let c = and_parts (op_stores o) (has_byte x o) (subst (λ (z : Op). writes x z ≡ true) same q) in
        let l = part_lift t t' o n rest s x c.1 in (
          l.0,
          subst (λ (z : Op). GoesOn t t' x z l.0) (sym same)
              (goes o l.0 was l.1 (and_from _ _ c.0 c.1) (and_from _ _ (ap kind_stores l.4.kind ∙ c.0) l.2) l.3
              (l.4.bytes x l.2).1),
        )
    | inr i ↦ (w, goes w w h i q q (itself t w) refl)
  ]

  part_back : (v : Op) → Contains (everything t') v → writes x v ≡ true → Contains t'.ops v ⊎ Contains t'.early v
      → Back t t' x v
  part_back v h q (inr b) = inl (v, early_goes v (s.early.back v b) b q)
  part_back v h q (inl a) = elim (s.ops_back v a) [
    | inl same ↦ subst (λ (z : Op). Back t t' x z) (sym same)
        (part_on n s.added s.part (inr (s.unperformed, s.placed, s.above))
        (subst (λ (z : Op). writes x z ≡ true) same q))
    | inr r ↦ elim r [
      | inl e ↦ let l = s.left v e in part_on v l.0 l.2 (inl (l.1 ∙ sym s.unperformed)) q
      | inr i ↦ inl (v, goes v v (Contains-append_left t.ops t.early v i) a q q (itself t v) refl)
    ]
  ]

  pub part_writers : WritersGo t t' x
  part_writers =
      record {
        on = λ w h q. part_forth w h q (Contains-append_cases t.ops t.early w h);
        back = λ v h q. part_back v h q (Contains-append_cases t'.ops t'.early v h);
      }
