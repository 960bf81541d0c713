-- An instruction more keeps a trace well kinded.
use Rattle.std.proofs.Common.{◌<◌, ◌≡◌, ◌⊎◌, inl, inr, true, ◌||◌, List, [], ◌∷◌, Some, None, sym, ap, subst, ◌∙◌}
use Rattle.std.proofs.Common.{arith}
use Rattle.std.proofs.lemmas.Bool.{both_ways, or_cases}
use Rattle.std.specs.List.{Contains}
use Rattle.std.proofs.lemmas.List.Elements.{Contains-append_cases, Contains-append_left, Contains-append_right}
use Rattle.tandem_base.specs.declared.names.Place.{Place}
use Rattle.tandem_base.specs.Extents.{IsAligned}
use Rattle.rvwmo_model.specs.declared.instructions.Retired.{Retired}
use Rattle.rvwmo_model.specs.declared.operations.Op.{Op}
use Rattle.rvwmo_model.specs.declared.operations.OpKind.TheVariants as kind
use Rattle.rvwmo_model.specs.declared.traces.Trace.{Trace}
use Rattle.rvwmo_model.specs.ProgramOrder.{insn_of, is_one}
use Rattle.rvwmo_model.specs.InForm.{IsWhole, HasOne, InForm}
use Rattle.tandem_base.specs.Granules.{IsGranule}
use Rattle.rvwmo_model.proofs.Membership.{nothing_in}
use Rattle.growth_laws.proofs.Facts.{names_apart}
use Rattle.growth_laws.specs.Kinds.{WellKinded}
use Rattle.growth_laws.specs.Growth.{AddsAtomic, Adds, adds_loads, adds_store, adds_atomic, adds_nothing, AddInsn}
use Rattle.growth_laws.proofs.Places.{not_both}
use Rattle.growth_laws.proofs.Insns.{more_back}
use Rattle.growth_laws.proofs.KeptPart.{apart_by}
use Rattle.growth_laws.proofs.PlainStores.{store_lr}
use Rattle.growth_laws.proofs.Steps.{only, there}
use Rattle.growth_laws.proofs.AddedOps.{lr_kind, atomic_lr, stored_kind, older, new_insn, old_insn, early_back}
use Rattle.growth_laws.proofs.AddedOps.{unperformed_of, extents_of, disjoint_of, parts_of, waits_of, amo_of, named_of}
use Rattle.growth_laws.proofs.AddedOps.{kinds_of, cover_of, plain_of, paired_of, younger_of}
use Rattle.rvwmo_model.specs.Order.{everything}
use Rattle.rv_decode.specs.Kinds.{is_lr}
use Rattle.rvwmo_model.specs.InsnKinds.{has_stored}

module _ (t t' : Trace) (r : Retired) (new : List Op) (k : WellKinded t) (s : AddInsn t t' r new) where
  abbrev Is : Op → Type 0
  Is a = Contains new a ⊎ Contains t.ops a

  is : (a : Op) → Contains t'.ops a → Is a
  is a h = s.ops_back a h

  -- ---- places

  abbrev Stands : Op → Type 0
  Stands a = Contains new a ⊎ Contains (everything t) a

  stands : (a : Op) → Contains (everything t') a → Stands a
  stands a h = elim (Contains-append_cases t'.ops t'.early a h) [
    | inl i ↦ elim (is a i) [ inl n ↦ inl n | inr j ↦ inr (Contains-append_left t.ops t.early a j) ]
    | inr i ↦ inr (Contains-append_right t.ops t.early a (early_back t t' r new k s a i))
  ]

  -- what was there at the place of an early store is that store
  was_early : (e o : Op) → AddsAtomic t t' r new e o → (b : Op) (p : Place) → Contains (everything t) b
      → o.place ≡ Some p → b.place ≡ Some p → b ≡ e
  was_early e o q b p h f g = k.form.places b e p h (Contains-append_right t.ops t.early e q.was) g (sym q.place ∙ f)

  -- an early store is no operation of an instruction that retired
  not_op : (e o b : Op) → AddsAtomic t t' r new e o → Contains t.ops b → b ≡ e → ⊥
  not_op e o b q m same =
      let f = s.are_of.own o (there o new q.one) in
      let c : b.name.tag < r.tag = older t t' r new k s b m (ap (λ (z : Op). z.name.hart) same ∙ sym q.same.0 ∙ f.0) in
      omega (arith, f.1, q.same.1, ap (λ (z : Op). z.name.tag) same)

  -- the operation of an early store that retires has its place, and no other has it
  atomic_place : (e o : Op) → AddsAtomic t t' r new e o → (b : Op) (p : Place) → Contains (everything t') b
      → o.place ≡ Some p → b.place ≡ Some p → o ≡ b
  atomic_place e o q b p h f g = elim (Contains-append_cases t'.ops t'.early b h) [
    | inr j ↦ absurd (q.gone (subst (λ (z : Op). Contains t'.early z)
        (was_early e o q b p (Contains-append_right t.ops t.early b (q.early_back b j)) f g) j))
    | inl j ↦ elim (is b j) [
      | inl n ↦ sym (only o b new q.one n)
      | inr m ↦ absurd (not_op e o b q m (was_early e o q b p (Contains-append_left t.ops t.early b m) f g))
    ]
  ]

  place_new : (a b : Op) (p : Place) → Contains new a → Contains (everything t') b → a.place ≡ Some p
      → b.place ≡ Some p → a ≡ b
  place_new a b p h i f g = at s.adds
    where
      at : Adds t t' r new → a ≡ b
      at (adds_loads l) = l.places a b p h i f g
      at (adds_store o q) = absurd (not_both a (p, f) (ap (λ (z : Op). z.place) (only o a new q.one h) ∙ q.unperformed))
      at (adds_atomic e o q) = let same = only o a new q.one h in
          same ∙ atomic_place e o q b p i (sym (ap (λ (z : Op). z.place) same) ∙ f) g
      at (adds_nothing n) = absurd (nothing_in a (subst (λ (l : List Op). Contains l a) n.none h))

  place_of : (a b : Op) (p : Place) → Contains (everything t') a → Contains (everything t') b → a.place ≡ Some p
      → b.place ≡ Some p → a ≡ b
  place_of a b p h i f g = elim (stands a h) [
    | inl n ↦ place_new a b p n i f g
    | inr x ↦ elim (stands b i) [ inl n ↦ sym (place_new b a p n h g f) | inr y ↦ k.form.places a b p x y f g ]
  ]

  whole_of : (a : Op) → Stands a → IsWhole a
  whole_of a (inl n) = s.are_of.whole a n
  whole_of a (inr h) = k.form.whole a h

  -- ---- instructions with one operation

  one_new : (is_one is_lr (Some r) || has_stored (Some r)) ≡ true → (o : Op) × (new ≡ o ∷ [])
  one_new q = at s.adds
    where
      at : Adds t t' r new → (o : Op) × (new ≡ o ∷ [])
      at (adds_loads l) = elim (or_cases (is_lr r.insn) (has_stored (Some r)) q) [
        | inl e ↦ let o = l.reserves e in (o.0, o.1)
        | inr e ↦ absurd (let c : Some kind.Load ≡ Some kind.Store = sym l.loads ∙ stored_kind r e in cc)
      ]
      at (adds_store o a) = (o, a.one)
      at (adds_atomic e o a) = (o, a.one)
      at (adds_nothing n) = absurd (elim (or_cases (is_lr r.insn) (has_stored (Some r)) q) [
        | inl e ↦ (let c : None ≡ Some kind.Load = sym n.nothing ∙ lr_kind r.insn r.stored e in cc)
        | inr e ↦ (let c : None ≡ Some kind.Store = sym n.nothing ∙ stored_kind r e in cc)
      ])

  single_new : (is_one is_lr (Some r) || has_stored (Some r)) ≡ true → HasOne t' r
  single_new q =
      let o = one_new q in
      let m = there o.0 new o.1 in (
        o.0,
        s.added o.0 m,
        s.are_of.own o.0 m,
        λ v i f. elim (is v i) [
          | inl n ↦ only o.0 v new o.1 n
          | inr j ↦ absurd (let l : v.name.tag < r.tag = older t t' r new k s v j f.0 in omega (arith, f.1))
        ],
      )

  single_old : (w : Retired) → Contains t.insns w → (is_one is_lr (Some w) || has_stored (Some w)) ≡ true → HasOne t' w
  single_old w h q =
      let o = k.form.single w h q in (
        o.0,
        s.ops_on o.0 o.1,
        o.2,
        λ v i f. elim (is v i) [
          | inr j ↦ o.3 v j f
          | inl n ↦ absurd (let e = s.are_of.own v n in let l : w.tag < r.tag = s.younger w h (sym f.0 ∙ e.0) in
              omega (arith, e.1, f.1))
        ],
      )

  aligned_new : (a : Op) → Contains new a → 0 < t.granule → is_lr r.insn ≡ true → IsAligned a.extent
  aligned_new a h l e = at s.adds
    where
      at : Adds t t' r new → IsAligned a.extent
      at (adds_loads b) = let o = b.reserves e in subst (λ (z : Op). IsAligned z.extent) (sym (only o.0 a new o.1 h))
          (o.2 l)
      at (adds_store o q) = absurd (both_ways _ (store_lr r.insn q.stores) e)
      at (adds_atomic x o q) = absurd (both_ways _ (atomic_lr r.insn q.atomic) e)
      at (adds_nothing n) = absurd (nothing_in a (subst (λ (z : List Op). Contains z a) n.none h))

  aligned_of : (a : Op) → Is a → 0 < t.granule → is_one is_lr (insn_of t' a) ≡ true → IsAligned a.extent
  aligned_of a (inl h) l q = aligned_new a h l (ap (is_one is_lr) (sym (new_insn t t' r new k s a h)) ∙ q)
  aligned_of a (inr h) l q = k.form.aligned a h l (ap (is_one is_lr) (sym (old_insn t t' r new k s a h)) ∙ q)

  insn_form : InForm t'
  insn_form = record {
    rising = s.keeps.rising;
    named = λ a h. named_of t t' r new k s a (is a h);
    apart = names_apart t'.ops s.keeps.once
        (apart_by t' (λ a h. parts_of t t' r new k s a (is a h))
        (λ a b h i e. extents_of t t' r new k s a b (is a h) (is b i) e)
        (λ a b x h i e c d. disjoint_of t t' r new k s a b x (is a h) (is b i) e c d));
    waiting = λ a b h i e f. waits_of t t' r new k s a b (is a h) (is b i) (e, f);
    early = λ a h. k.form.early a (early_back t t' r new k s a h);
    places = place_of;
    whole = λ a h. whole_of a (stands a h);
    single = λ w h q.
        elim (more_back t t' r s.keeps w h) [
          | inl e ↦ subst (HasOne t') (sym e)
              (single_new (subst (λ (z : Retired). (is_one is_lr (Some z) || has_stored (Some z)) ≡ true) e q))
          | inr i ↦ single_old w i q
        ];
    granule = subst IsGranule (sym s.keeps.granule) k.form.granule;
    aligned = λ a h l q. aligned_of a (is a h) (rw (← s.keeps.granule) l) q;
  }

  pub insn_kinded : WellKinded t'
  insn_kinded = record {
    form = insn_form;
    kinds = λ a w h q. kinds_of t t' r new k s a w (is a h) q;
    amo = λ a b h i. amo_of t t' r new k s a b (is a h) (is b i);
    early_stores = λ a h. k.early_stores a (early_back t t' r new k s a h);
    unperformed = λ a h. unperformed_of t t' r new k s a (is a h);
    extents = λ a b h i. extents_of t t' r new k s a b (is a h) (is b i);
    disjoint = λ a b x h i. disjoint_of t t' r new k s a b x (is a h) (is b i);
    parts = λ a h. parts_of t t' r new k s a (is a h);
    cover = λ a x h. cover_of t t' r new k s a x (is a h);
    plain = λ a h. plain_of t t' r new k s a (is a h);
    early_apart = λ a b h i. k.early_apart a b (early_back t t' r new k s a h) (early_back t t' r new k s b i);
    early_younger = λ o w h i. younger_of t t' r new k s o w h (more_back t t' r s.keeps w i);
    paired = λ w h. paired_of t t' r new k s w (is w h);
  }
