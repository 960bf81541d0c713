-- What passes the test is in form.
use Rattle.std.proofs.Common.{ℕ, ◌^◌, ◌%◌, ◌<◌, ◌≡◌, ◌≢◌, ◌⊎◌, inl, inr, Bool, true, false, not, List, [], ◌∷◌, ◌++◌}
use Rattle.std.proofs.Common.{length, eqb, ltb, ◌&&◌, ◌||◌, cond, Option, Some, None, refl, sym, ap, subst, ◌∙◌}
use Rattle.std.proofs.Common.{arith, is_some}
use Rattle.std.proofs.lemmas.Bool.{both_ways, false≢true, and_parts, and_from, or_cases, eqb-true, eq-eqb, ltb-true}
use Rattle.std.specs.List.{Contains, AllPairs, list_any, list_all}
use Rattle.std.proofs.lemmas.List.Elements.{Contains-append_left, Contains-get_or}
use Rattle.std.proofs.lemmas.List.Kept.{AllPairs-cons}
use Rattle.tandem_base.specs.Extents.{IsAligned}
use Rattle.tandem_base.specs.declared.names.OpName.{OpName}
use Rattle.tandem_base.specs.declared.names.Place.{Place}
use Rattle.rvwmo_model.specs.declared.instructions.Retired.{Retired}
use Rattle.rvwmo_model.specs.declared.operations.Op.{Op}
use Rattle.rvwmo_model.specs.declared.traces.Trace.{Trace}
use Rattle.rvwmo_model.specs.ProgramOrder.{insn_at, is_one}
use Rattle.rvwmo_model.specs.InForm.{AreRising, IsWhole, HasOne, InForm}
use Rattle.tandem_base.specs.Granules.{IsGranule}
use Rattle.rvwmo_model.proofs.Membership.{nothing_in, head_in, tail_in, in_cases}
use Rattle.rvwmo_model.proofs.Searches.{some_is}
use Rattle.memory_traces.specs.FormTest.{each_two, lone, follows, one_name, is_one_place, clash, apart, is_named}
use Rattle.memory_traces.specs.FormTest.{is_performed, fits, whole, is_of_insn, single, is_granule}
use Rattle.memory_traces.specs.FormTest.{lr_is_aligned, in_form}
use Rattle.rv_decode.specs.Kinds.{is_lr, is_sc}

all_in : {X : Type 0} (p : X → Bool) (xs : List X) (x : X) → list_all p xs ≡ true → Contains xs x → p x ≡ true
all_in p [] x e h = absurd (nothing_in x h)
all_in p (y ∷ ys) x e h = at (in_cases y ys x h) (all_in p ys x)
  where
    at : (x ≡ y) ⊎ Contains ys x → (list_all p ys ≡ true → Contains ys x → p x ≡ true) → p x ≡ true
    at (inl same) rec = ap p same ∙ (and_parts (p y) (list_all p ys) e).0
    at (inr i) rec = rec (and_parts (p y) (list_all p ys) e).1 i

-- what a test says of each two is so of each two entries
pairs_in : {X : Type 0} (p : X → X → Bool) (R : X → X → Type 0) → ((x y : X) → p x y ≡ true → R x y) → (xs : List X)
    → each_two p xs ≡ true → AllPairs R xs
pairs_in p R f [] e = λ i j d l m. absurd (omega arith)
pairs_in p R f (z ∷ zs) e =
    let q = and_parts (list_all (p z) zs) (each_two p zs) e in
    AllPairs-cons R z zs (λ k d l. f z _ (all_in (p z) zs _ q.0 (Contains-get_or zs k d l))) (pairs_in p R f zs q.1)

two_in : {X : Type 0} (p : X → X → Bool) (xs : List X) (x y : X) → each_two p xs ≡ true → Contains xs x
    → Contains xs y → (x ≡ y) ⊎ (p x y ≡ true) ⊎ (p y x ≡ true)
two_in p [] x y e h i = absurd (nothing_in x h)
two_in p (z ∷ zs) x y e h i = at (in_cases z zs x h) (in_cases z zs y i) (two_in p zs x y)
  where
    at : (x ≡ z) ⊎ Contains zs x → (y ≡ z) ⊎ Contains zs y
        → (each_two p zs ≡ true → Contains zs x → Contains zs y → (x ≡ y) ⊎ (p x y ≡ true) ⊎ (p y x ≡ true)) → (x ≡ y)
        ⊎ (p x y ≡ true) ⊎ (p y x ≡ true)
    at (inl a) (inl b) rec = inl (a ∙ sym b)
    at (inl a) (inr j) rec =
        inr (inl (subst (λ (w : _). p w y ≡ true) (sym a)
        (all_in (p z) zs y (and_parts (list_all (p z) zs) (each_two p zs) e).0 j)))
    at (inr k) (inl b) rec =
        inr (inr (subst (λ (w : _). p w x ≡ true) (sym b)
        (all_in (p z) zs x (and_parts (list_all (p z) zs) (each_two p zs) e).0 k)))
    at (inr k) (inr j) rec = rec (and_parts (list_all (p z) zs) (each_two p zs) e).1 k j

not_false : (b : Bool) → not b ≡ true → b ≡ true → ⊥
not_false true e f = false≢true e
not_false false e f = false≢true f

-- x passes, and no other
abbrev Lone : {X : Type 0} → (X → Bool) → List X → Type 0
Lone {X = X} p xs = (x : X) × Contains xs x × (p x ≡ true) × ((y : X) → Contains xs y → p y ≡ true → y ≡ x)

is_lone : {X : Type 0} (p : X → Bool) (xs : List X) → lone p xs ≡ true → Lone p xs
is_lone p [] e = absurd (false≢true e)
is_lone p (z ∷ zs) e = at (p z) refl e (is_lone p zs)
  where
    at : (b : Bool) → p z ≡ b → cond b (not (list_any p zs)) (lone p zs) ≡ true → (lone p zs ≡ true → Lone p zs)
        → Lone p (z ∷ zs)
    at true q f rec = (
      z,
      head_in z zs,
      q,
      λ y i r. elim (in_cases z zs y i) [
        | inl same ↦ same
        | inr j ↦ absurd (not_false (list_any p zs) f ((some_is p zs).1 (y, j, r)))
      ],
    )
    at false q f rec =
        let g = rec f in (
          g.0,
          tail_in z zs g.0 g.1,
          g.2,
          λ y i r. elim (in_cases z zs y i) [ inl same ↦ absurd (both_ways _ (ap p same ∙ q) r) | inr j ↦ g.3 y j r ],
        )

rising_is : (ws : List Retired) → each_two follows ws ≡ true → AreRising ws
rising_is ws e = pairs_in follows (λ (w v : Retired). v.hart ≡ w.hart → w.tag < v.tag)
    (λ w v q same. elim (or_cases (not (eqb v.hart w.hart)) (ltb w.tag v.tag) q) [
      | inl f ↦ absurd (not_false _ f (eq-eqb _ _ same))
      | inr l ↦ ltb-true _ _ l
    ]) ws e

some_found : {X : Type 0} (o : Option X) → is_some o ≡ true → (x : X) × (o ≡ Some x)
some_found None e = absurd (false≢true e)
some_found (Some x) e = (x, refl)

name_same : (m n : OpName) → m ≡ n → one_name m n ≡ true
name_same m n e =
    and_from _ _
    (and_from _ _ (eq-eqb _ _ (ap (λ (z : OpName). z.hart) e)) (eq-eqb _ _ (ap (λ (z : OpName). z.tag) e)))
    (eq-eqb _ _ (ap (λ (z : OpName). z.part) e))

place_same : (p : Place) → is_one_place p p ≡ true
place_same p = and_from _ _ (and_from _ _ (eq-eqb p.time p.time refl) (eq-eqb p.message p.message refl))
    (eq-eqb p.insert p.insert refl)

-- what must not be of two operations
abbrev Clashes : Op → Op → Type 0
Clashes a b = (one_name a.name b.name ≡ true)
    ⊎ (clash a.place b.place (eqb a.name.hart b.name.hart && eqb a.name.tag b.name.tag) ≡ true)

apart_not : (a b : Op) → apart a b ≡ true → Clashes a b → ⊥
apart_not a b e c =
    let q = and_parts (not (one_name a.name b.name))
    (not (clash a.place b.place (eqb a.name.hart b.name.hart && eqb a.name.tag b.name.tag))) e in
    elim c [ inl n ↦ not_false _ q.0 n | inr m ↦ not_false _ q.1 m ]

same_where : (os : List Op) (a b : Op) → each_two apart os ≡ true → Contains os a → Contains os b → Clashes a b
    → Clashes b a → a ≡ b
same_where os a b e i j c d =
    elim (two_in apart os a b e i j) [
      | inl s ↦ s
      | inr o ↦ absurd (elim o [ inl p ↦ apart_not a b p c | inr p ↦ apart_not b a p d ])
    ]

clash_waiting : (a b : Op) → a.name.hart ≡ b.name.hart → a.name.tag ≡ b.name.tag → a.place ≡ None → b.place ≡ None
    → Clashes a b
clash_waiting a b h k p q = inr (rw (p, q) (and_from _ _ (eq-eqb _ _ h) (eq-eqb _ _ k)))

clash_placed : (a b : Op) (p : Place) → a.place ≡ Some p → b.place ≡ Some p → Clashes a b
clash_placed a b p e f = inr (rw (e, f) (place_same p))

fits_is : (mask len : ℕ) → fits mask len ≡ true → mask < 2 ^ len
fits_is mask len e = at (eqb len 4) refl e
  where
    at : (b : Bool) → eqb len 4 ≡ b → cond b (ltb mask 16) (eqb len 8 && ltb mask 256) ≡ true → mask < 2 ^ len
    at true q f = let l : mask < 16 = ltb-true _ _ f in subst (λ (n : ℕ). mask < 2 ^ n) (sym (eqb-true _ _ q)) l
    at false q f = let p = and_parts (eqb len 8) (ltb mask 256) f in let l : mask < 256 = ltb-true _ _ p.1 in
        subst (λ (n : ℕ). mask < 2 ^ n) (sym (eqb-true _ _ p.0)) l

whole_is : (o : Op) → whole o ≡ true → IsWhole o
whole_is o e =
    let p = and_parts (ltb 0 o.mask && fits o.mask o.extent.len && eqb (length o.got) o.extent.len)
    (eqb (length o.put) o.extent.len) e in
    let q = and_parts (ltb 0 o.mask && fits o.mask o.extent.len) (eqb (length o.got) o.extent.len) p.0 in
    let r = and_parts (ltb 0 o.mask) (fits o.mask o.extent.len) q.0 in
    record {
      some = ltb-true _ _ r.0;
      within = fits_is o.mask o.extent.len r.1;
      got = eqb-true _ _ q.1;
      put = eqb-true _ _ p.1;
    }

single_is : (t : Trace) (w : Retired) → single t.ops w ≡ true → (is_lr w.insn || (is_sc w.insn && w.stored)) ≡ true
    → HasOne t w
single_is t w e s = elim (or_cases (not (is_lr w.insn || (is_sc w.insn && w.stored))) (lone (is_of_insn w) t.ops) e) [
  | inl f ↦ absurd (not_false _ f s)
  | inr l ↦
      let o = is_lone (is_of_insn w) t.ops l in
      let q = and_parts (eqb o.0.name.hart w.hart) (eqb o.0.name.tag w.tag) o.2 in (
        o.0,
        o.1,
        (eqb-true _ _ q.0, eqb-true _ _ q.1),
        λ v i m. o.3 v i (and_from _ _ (eq-eqb _ _ m.0) (eq-eqb _ _ m.1)),
      )
]

each_left : {X : Type 0} (p : X → X → Bool) (xs ys : List X) → each_two p (xs ++ ys) ≡ true → each_two p xs ≡ true
each_left p [] ys e = refl
each_left p (x ∷ xs) ys e =
    let q = and_parts (list_all (p x) (xs ++ ys)) (each_two p (xs ++ ys)) e in
    and_from _ _ (all_left (p x) xs ys q.0) (each_left p xs ys q.1)
  where
    all_left : {X : Type 0} (p : X → Bool) (xs ys : List X) → list_all p (xs ++ ys) ≡ true → list_all p xs ≡ true
    all_left p [] ys e = refl
    all_left p (x ∷ xs) ys e = let q = and_parts (p x) (list_all p (xs ++ ys)) e in
        and_from _ _ q.0 (all_left p xs ys q.1)

names_differ : (a b : Op) → apart a b ≡ true → a.name ≢ b.name
names_differ a b e n = apart_not a b e (inl (name_same a.name b.name n))

-- no operation stands twice where no two have one name
pub once_by : (ops : List Op) → each_two (λ a b. not (one_name a.name b.name)) ops ≡ true → AllPairs (λ a b. a ≢ b) ops
once_by ops e = pairs_in (λ (a b : Op). not (one_name a.name b.name)) (λ (a b : Op). a ≢ b)
    (λ a b f q. not_false _ f (name_same a.name b.name (ap (λ (z : Op). z.name) q))) ops e

granule_is : (g : ℕ) → is_granule g ≡ true → IsGranule g
granule_is g e = elim (or_cases ((((eqb g 0 || eqb g 8) || eqb g 16) || eqb g 32)) (eqb g 64) e) [
  | inr a ↦ inr (inr (inr (inr (eqb-true _ _ a))))
  | inl a ↦ elim (or_cases ((eqb g 0 || eqb g 8) || eqb g 16) (eqb g 32) a) [
    | inr b ↦ inr (inr (inr (inl (eqb-true _ _ b))))
    | inl b ↦ elim (or_cases (eqb g 0 || eqb g 8) (eqb g 16) b) [
      | inr c ↦ inr (inr (inl (eqb-true _ _ c)))
      | inl c ↦ elim (or_cases (eqb g 0) (eqb g 8) c) [
        | inl d ↦ inl (eqb-true _ _ d)
        | inr d ↦ inr (inl (eqb-true _ _ d))
      ]
    ]
  ]
]

length_is : (o : Op) → whole o ≡ true → (o.extent.len ≡ 1) ⊎ (o.extent.len ≡ 2) ⊎ (o.extent.len ≡ 4)
    ⊎ (o.extent.len ≡ 8)
length_is o e =
    let p = and_parts (ltb 0 o.mask && fits o.mask o.extent.len && eqb (length o.got) o.extent.len)
    (eqb (length o.put) o.extent.len) e in
    let q = and_parts (ltb 0 o.mask && fits o.mask o.extent.len) (eqb (length o.got) o.extent.len) p.0 in
    let r = and_parts (ltb 0 o.mask) (fits o.mask o.extent.len) q.0 in
    at (eqb o.extent.len 4) refl r.1
  where
    at : (b : Bool) → eqb o.extent.len 4 ≡ b → cond b (ltb o.mask 16) (eqb o.extent.len 8 && ltb o.mask 256) ≡ true
        → (o.extent.len ≡ 1) ⊎ (o.extent.len ≡ 2) ⊎ (o.extent.len ≡ 4) ⊎ (o.extent.len ≡ 8)
    at true q f = inr (inr (inl (eqb-true _ _ q)))
    at false q f = inr (inr (inr (eqb-true _ _ (and_parts (eqb o.extent.len 8) (ltb o.mask 256) f).0)))

aligned_is : (granule : ℕ) (insns : List Retired) (o : Op) → whole o ≡ true → lr_is_aligned granule insns o ≡ true
    → 0 < granule → is_one is_lr (insn_at insns o.name.hart o.name.tag) ≡ true → IsAligned o.extent
aligned_is granule insns o w e l r =
    elim (or_cases (eqb granule 0 || not (is_one is_lr (insn_at insns o.name.hart o.name.tag)))
    (eqb (o.extent.addr % o.extent.len) 0) e) [
      | inr a ↦ (length_is o w, eqb-true _ _ a)
      | inl a ↦ absurd (elim (or_cases (eqb granule 0) (not (is_one is_lr (insn_at insns o.name.hart o.name.tag))) a) [
        | inl z ↦ let q = eqb-true granule 0 z in omega (arith, l, q)
        | inr n ↦ not_false _ n r
      ])
    ]

pub formed : (granule : ℕ) (insns : List Retired) (ops early : List Op) → in_form granule insns ops early ≡ true
    → InForm (record { insns = insns; ops = ops; early = early; granule = granule })
formed granule insns ops early e = record {
  rising = rising_is insns p4.0;
  named = λ o i. some_found (insn_at insns o.name.hart o.name.tag) (all_in (is_named insns) ops o p2.1 i);
  apart = pairs_in apart (λ (a b : Op). a.name ≢ b.name) names_differ ops (each_left apart ops early p0.1);
  waiting = λ a b i j h k m n. same_where (ops ++ early) a b p0.1 (Contains-append_left ops early a i)
      (Contains-append_left ops early b j) (clash_waiting a b h k m n) (clash_waiting b a (sym h) (sym k) n m);
  early = λ o i. some_found o.place (all_in is_performed early o p1.1 i);
  places = λ a b p i j m n. same_where (ops ++ early) a b p0.1 i j (clash_placed a b p m n) (clash_placed b a p n m);
  whole = λ o i. whole_is o (all_in whole (ops ++ early) o p0.0 i);
  single = λ w i s. single_is (record { insns = insns; ops = ops; early = early; granule = granule }) w
      (all_in (single ops) insns w p4.1 i) s;
  granule = granule_is granule pg.0;
  aligned =
      λ o i l r. aligned_is granule insns o (all_in whole (ops ++ early) o p0.0 (Contains-append_left ops early o i))
      (all_in (lr_is_aligned granule insns) ops o pg.1 i) l r;
}
  where
    p : (each_two follows insns && list_all (single ops) insns && list_all (is_named insns) ops
        && list_all is_performed early && (list_all whole (ops ++ early) && each_two apart (ops ++ early)) ≡ true)
        × (is_granule granule && list_all (lr_is_aligned granule insns) ops ≡ true)
    p = and_parts _ _ e

    pg : (is_granule granule ≡ true) × (list_all (lr_is_aligned granule insns) ops ≡ true)
    pg = and_parts _ _ p.1

    pw : (each_two follows insns && list_all (single ops) insns && list_all (is_named insns) ops
        && list_all is_performed early ≡ true) × (list_all whole (ops ++ early) && each_two apart (ops ++ early) ≡ true)
    pw = and_parts _ _ p.0

    p0 : (list_all whole (ops ++ early) ≡ true) × (each_two apart (ops ++ early) ≡ true)
    p0 = and_parts _ _ pw.1

    p1 : (each_two follows insns && list_all (single ops) insns && list_all (is_named insns) ops ≡ true)
        × (list_all is_performed early ≡ true)
    p1 = and_parts _ _ pw.0

    p2 : (each_two follows insns && list_all (single ops) insns ≡ true) × (list_all (is_named insns) ops ≡ true)
    p2 = and_parts _ _ p1.0

    p4 : (each_two follows insns ≡ true) × (list_all (single ops) insns ≡ true)
    p4 = and_parts _ _ p2.0
