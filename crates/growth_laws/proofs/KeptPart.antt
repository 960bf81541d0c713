-- A part of a store that is performed keeps a trace well kinded.
use Rattle.std.proofs.Common.{ℕ, ◌+◌, ◌≡◌, ◌⊎◌, inl, inr, true, ◌||◌, Option, Some, None, refl, sym, ap, subst, ◌∙◌}
use Rattle.std.proofs.lemmas.Bool.{both_ways, or_cases}
use Rattle.std.specs.List.{Contains}
use Rattle.std.proofs.lemmas.List.Elements.{Contains-append_cases, Contains-append_left, Contains-append_right}
use Rattle.tandem_base.specs.declared.names.Place.{Place}
use Rattle.tandem_base.specs.declared.names.OpName.{OpName}
use Rattle.rvwmo_model.specs.declared.instructions.Retired.{Retired}
use Rattle.rvwmo_model.specs.declared.operations.Op.{Op}
use Rattle.rvwmo_model.specs.declared.operations.OpKind.TheVariants as kind
use Rattle.rvwmo_model.specs.declared.traces.Trace.{Trace}
use Rattle.tandem_base.specs.Extents.{Covers}
use Rattle.rvwmo_model.specs.Order.{has_byte, everything}
use Rattle.rvwmo_model.specs.ProgramOrder.{insn_at, insn_of, is_one}
use Rattle.rvwmo_model.specs.Atomicity.{IsPair, IsCoveredBy}
use Rattle.rvwmo_model.specs.InForm.{IsOf, IsWhole, HasOne, InForm}
use Rattle.tandem_base.specs.Granules.{IsGranule}
use Rattle.rvwmo_model.proofs.LookUp.{named_self}
use Rattle.rv_decode.specs.Kinds.{is_store, is_lr, is_sc}
use Rattle.growth_laws.specs.Kinds.{SameInsn, IsNamed, IsPlainStore, IsPlainAnnotated, WellKinded}
use Rattle.growth_laws.specs.Growth.{IsPartOf, PerformsPart}
use Rattle.growth_laws.proofs.Places.{not_both}
use Rattle.growth_laws.proofs.Facts.{plain_kind, names_apart}
use Rattle.growth_laws.proofs.Insns.{insns_back, insn_is, insn_same, one_place}
use Rattle.growth_laws.proofs.PlainStores.{store_lr, store_sc, plain_not}
use Rattle.growth_laws.proofs.Lawful.{stored_sc, pair_on}
use Rattle.growth_laws.proofs.Operations.{part_ops}
use Rattle.growth_laws.proofs.Steps.{part_lift}
use Rattle.rvwmo_model.specs.InsnKinds.{has_stored}
use Rattle.rvwmo_model.specs.Annotations.{is_rcsc}

-- names by lowest bytes tell operations of one instruction apart
pub apart_by : (t : Trace) → ((o : Op) → Contains t.ops o → IsNamed o)
    → ((a b : Op) → Contains t.ops a → Contains t.ops b → SameInsn a b → a.extent ≡ b.extent)
    → ((a b : Op) (x : ℕ) → Contains t.ops a → Contains t.ops b → SameInsn a b → has_byte x a ≡ true
    → has_byte x b ≡ true → a ≡ b) → (a b : Op) → Contains t.ops a → Contains t.ops b → a.name ≡ b.name → a ≡ b
apart_by t named extents disjoint a b ha hb e =
    let s : SameInsn a b = (ap (λ (n : OpName). n.hart) e, ap (λ (n : OpName). n.tag) e) in
    let x : a.extent.addr + a.name.part ≡ b.extent.addr + b.name.part = rw (extents a b ha hb s, e) refl in
    disjoint a b (a.extent.addr + a.name.part) ha hb s (named a ha).here
    (subst (λ (n : ℕ). has_byte n b ≡ true) (sym x) (named b hb).here)

-- the instruction of a plain store is neither an LR nor an SC
pub plain_not_single : (t : Trace) (o : Op) → IsPlainStore t o
    → (is_one is_lr (insn_of t o) || has_stored (insn_of t o)) ≡ true → ⊥
plain_not_single t o p e = elim (or_cases (is_one is_lr (insn_of t o)) (has_stored (insn_of t o)) e) [
  | inl a ↦ plain_not is_lr t o store_lr p a
  | inr b ↦ plain_not is_sc t o store_sc p (stored_sc (insn_of t o) b)
]

module _ (t t' : Trace) (o n : Op) (rest : Option Op) (k : WellKinded t) (s : PerformsPart t t' o n rest) where
  own : IsPlainStore t o
  own = k.unperformed o s.was s.unperformed

  -- an operation of t' is a part of o, or is of t and not o
  abbrev Is : Op → Type 0
  Is a = ((a ≡ n) ⊎ (rest ≡ Some a)) ⊎ (Contains t.ops a × (a ≡ o → ⊥))

  is : (a : Op) → Contains t'.ops a → Is a
  is a h = elim (s.ops_back a h) [
    | inl e ↦ inl (inl e)
    | inr r ↦ elim r [
      | inl e ↦ inl (inr e)
      | inr j ↦ inr (j, λ same. s.gone (subst (λ (z : Op). Contains t'.ops z) same h))
    ]
  ]

  of_o : (a : Op) → (a ≡ n) ⊎ (rest ≡ Some a) → IsPartOf a o
  of_o a (inl e) = subst (λ (z : Op). IsPartOf z o) (sym e) s.part
  of_o a (inr e) = (s.left a e).2

  -- what it was in t
  abbrev root : (a : Op) → Is a → Op
  root a (inl r) = o
  root a (inr i) = a

  root_in : (a : Op) (r : Is a) → Contains t.ops (root a r)
  root_in a (inl r) = s.was
  root_in a (inr i) = i.0

  root_same : (a : Op) (r : Is a) → SameInsn a (root a r)
  root_same a (inl r) = (of_o a r).same
  root_same a (inr i) = (refl, refl)

  root_extent : (a : Op) (r : Is a) → a.extent ≡ (root a r).extent
  root_extent a (inl r) = (of_o a r).extent
  root_extent a (inr i) = refl

  root_kind : (a : Op) (r : Is a) → a.kind ≡ (root a r).kind
  root_kind a (inl r) = (of_o a r).kind
  root_kind a (inr i) = refl

  root_plain : (a : Op) (r : Is a) → IsPlainAnnotated (root a r) → IsPlainAnnotated a
  root_plain a (inl r) p = ((of_o a r).acquire ∙ p.0, ap is_rcsc (of_o a r).release ∙ p.1)
  root_plain a (inr i) p = p

  root_covers : (a : Op) (r : Is a) (x : ℕ) → has_byte x a ≡ true → has_byte x (root a r) ≡ true
  root_covers a (inl r) x c = ((of_o a r).bytes x c).0
  root_covers a (inr i) x c = c

  root_unplaced : (a : Op) (r : Is a) → a.place ≡ None → (root a r).place ≡ None
  root_unplaced a (inl r) e = s.unperformed
  root_unplaced a (inr i) e = e

  same_roots : (a b : Op) (p : Is a) (q : Is b) → SameInsn a b → SameInsn (root a p) (root b q)
  same_roots a b p q e = let f = root_same a p in let g = root_same b q in (sym f.0 ∙ e.0 ∙ g.0, sym f.1 ∙ e.1 ∙ g.1)

  root_insn : (a : Op) (r : Is a) → insn_of t' a ≡ insn_of t (root a r)
  root_insn a r = insn_same t' a (root a r) (root_same a r) ∙ s.keeps.insns (root a r).name.hart (root a r).name.tag

  plain_root : (a : Op) (r : Is a) → IsPlainStore t' a → IsPlainStore t (root a r)
  plain_root a r p = ap (is_one is_store) (sym (root_insn a r)) ∙ p

  -- two parts with a common byte are one
  parts_one : (a b : Op) (x : ℕ) → (a ≡ n) ⊎ (rest ≡ Some a) → (b ≡ n) ⊎ (rest ≡ Some b) → has_byte x a ≡ true
      → has_byte x b ≡ true → a ≡ b
  parts_one a b x (inl e) (inl f) c d = e ∙ sym f
  parts_one a b x (inl e) (inr f) c d = absurd (s.disjoint b x f (subst (λ (z : Op). has_byte x z ≡ true) e c) d)
  parts_one a b x (inr e) (inl f) c d = absurd (s.disjoint a x e (subst (λ (z : Op). has_byte x z ≡ true) f d) c)
  parts_one a b x (inr e) (inr f) c d = let q : Some a ≡ Some b = sym e ∙ f in cc

  one_of : (a b : Op) (x : ℕ) → Is a → Is b → SameInsn a b → has_byte x a ≡ true → has_byte x b ≡ true → a ≡ b
  one_of a b x (inl p) (inl q) e c d = parts_one a b x p q c d
  one_of a b x (inl p) (inr i) e c d =
      absurd (i.1 (sym (k.disjoint o b x s.was i.0 (same_roots a b (inl p) (inr i) e) (root_covers a (inl p) x c) d)))
  one_of a b x (inr i) (inl q) e c d =
      absurd (i.1 (k.disjoint a o x i.0 s.was (same_roots a b (inr i) (inl q) e) c (root_covers b (inl q) x d)))
  one_of a b x (inr i) (inr j) e c d = k.disjoint a b x i.0 j.0 e c d

  -- an operation that isn't o stays
  stays_in : (v : Op) → Contains t.ops v → (v ≡ o → ⊥) → Contains t'.ops v
  stays_in v h ne = elim (s.ops_on v h) [ inl e ↦ absurd (ne e) | inr j ↦ j ]

  amo_one : (a b : Op) → Is a → Is b → SameInsn a b → a.kind ≡ kind.Both → a ≡ b
  amo_one a b (inl p) q e f =
      let c : kind.Store ≡ kind.Both = sym (plain_kind t o k s.was own) ∙ sym (of_o a p).kind ∙ f in
      absurd (cc)
  amo_one a b (inr i) (inl q) e f = absurd (i.1 (k.amo a o i.0 s.was (same_roots a b (inr i) (inl q) e) f))
  amo_one a b (inr i) (inr j) e f = k.amo a b i.0 j.0 e f

  waits_one : (a b : Op) → Is a → Is b → SameInsn a b → a.place ≡ None → b.place ≡ None → a ≡ b
  waits_one a b (inl (inl e)) q m f g = absurd (not_both n s.placed (sym (ap (λ (z : Op). z.place) e) ∙ f))
  waits_one a b (inl (inr e)) (inl (inl q)) m f g = absurd (not_both n s.placed (sym (ap (λ (z : Op). z.place) q) ∙ g))
  waits_one a b (inl (inr e)) (inl (inr q)) m f g = let c : Some a ≡ Some b = sym e ∙ q in cc
  waits_one a b (inl (inr e)) (inr i) m f g = let r = same_roots a b (inl (inr e)) (inr i) m in
      absurd (i.1 (sym (k.form.waiting o b s.was i.0 r.0 r.1 s.unperformed g)))
  waits_one a b (inr i) (inl (inl q)) m f g = absurd (not_both n s.placed (sym (ap (λ (z : Op). z.place) q) ∙ g))
  waits_one a b (inr i) (inl (inr q)) m f g = let r = same_roots a b (inr i) (inl (inr q)) m in
      absurd (i.1 (k.form.waiting a o i.0 s.was r.0 r.1 f s.unperformed))
  waits_one a b (inr i) (inr j) m f g = k.form.waiting a b i.0 j.0 m.0 m.1 f g

  -- performed operations of t' are n, or were there
  abbrev Stands : Op → Type 0
  Stands a = (a ≡ n) ⊎ Contains (everything t) a

  stands : (a : Op) (p : Place) → a.place ≡ Some p → Contains t'.ops a ⊎ Contains t'.early a → Stands a
  stands a p e (inr b) = inr (Contains-append_right t.ops t.early a (s.early.back a b))
  stands a p e (inl h) = elim (is a h) [
    | inl r ↦ elim r [ inl q ↦ inl q | inr q ↦ absurd (not_both a (p, e) (s.left a q).1) ]
    | inr i ↦ inr (Contains-append_left t.ops t.early a i.0)
  ]

  meets : (b : Op) (p : Place) → Contains (everything t) b → n.place ≡ Some p → b.place ≡ Some p → ⊥
  meets b p h f g = both_ways _ (one_place b n p g f) (s.above b h (p, g))

  place_one : (a b : Op) (p : Place) → Stands a → Stands b → a.place ≡ Some p → b.place ≡ Some p → a ≡ b
  place_one a b p (inl f) (inl g) q r = f ∙ sym g
  place_one a b p (inl f) (inr i) q r = absurd (meets b p i (sym (ap (λ (z : Op). z.place) f) ∙ q) r)
  place_one a b p (inr i) (inl g) q r = absurd (meets a p i (sym (ap (λ (z : Op). z.place) g) ∙ r) q)
  place_one a b p (inr i) (inr j) q r = k.form.places a b p i j q r

  whole_op : (a : Op) → Is a → IsWhole a
  whole_op a (inl r) = (of_o a r).whole
  whole_op a (inr i) = k.form.whole a (Contains-append_left t.ops t.early a i.0)

  named_op : (a : Op) → Is a → IsNamed a
  named_op a (inl r) = (of_o a r).named
  named_op a (inr i) = k.parts a i.0

  -- an instruction with one operation is not that of o
  not_o : (w : Retired) (a : Op) (r : (a ≡ n) ⊎ (rest ≡ Some a)) → insn_at t.insns w.hart w.tag ≡ Some w → IsOf w a
      → (is_one is_lr (Some w) || has_stored (Some w)) ≡ true → ⊥
  not_o w a r e f q =
      let p = of_o a r in
      let found : insn_of t o ≡ Some w = insn_is t w o e (sym p.same.0 ∙ f.0, sym p.same.1 ∙ f.1) in
      plain_not_single t o own (rw found q)

  one_left : (w : Retired) → Contains t.insns w → (is_one is_lr (Some w) || has_stored (Some w)) ≡ true → HasOne t' w
  one_left w h q =
      let e = named_self t.insns w k.form.rising h in
      let one = k.form.single w h q in
      let stay : Contains t'.ops one.0 =
      stays_in one.0 one.1
      (λ same. plain_not_single t o own (rw (insn_is t w o e (subst (λ (z : Op). IsOf w z) same one.2)) q)) in
      (one.0, stay, one.2, λ v i f. elim (is v i) [ inl r ↦ absurd (not_o w v r e f q) | inr j ↦ one.3 v j.0 f ])

  part_form : InForm t'
  part_form = record {
    rising = s.keeps.rising;
    named = λ a h. let r = is a h in let w = k.form.named (root a r) (root_in a r) in (w.0, root_insn a r ∙ w.1);
    apart = names_apart t'.ops s.keeps.once
        (apart_by t' (λ a h. named_op a (is a h))
        (λ a b h i e. root_extent a (is a h) ∙ k.extents (root a (is a h)) (root b (is b i)) (root_in a (is a h))
        (root_in b (is b i)) (same_roots a b (is a h) (is b i) e) ∙ sym (root_extent b (is b i)))
        (λ a b x h i e c d. one_of a b x (is a h) (is b i) e c d));
    waiting = λ a b h i e f. waits_one a b (is a h) (is b i) (e, f);
    early = λ a h. k.form.early a (s.early.back a h);
    places = λ a b p h i e f. place_one a b p (stands a p e (Contains-append_cases t'.ops t'.early a h))
        (stands b p f (Contains-append_cases t'.ops t'.early b i)) e f;
    whole = λ a h.
        elim (Contains-append_cases t'.ops t'.early a h) [
          | inl i ↦ whole_op a (is a i)
          | inr i ↦ k.form.whole a
              (Contains-append_right t.ops t.early a (s.early.back a i))
        ];
    single = λ w h q. one_left w (insns_back t t' s.keeps w h) q;
    granule = subst IsGranule (sym s.keeps.granule) k.form.granule;
    aligned = λ a h l q. let r =
        is a h in
        rw (root_extent a r)
        (k.form.aligned (root a r) (root_in a r) (rw (← s.keeps.granule) l)
        (ap (is_one is_lr) (sym (root_insn a r)) ∙ q));
  }

  -- a byte of the extent of a plain store is one of its operations'
  covered : (a : Op) (x : ℕ) → Is a → IsPlainStore t' a → Covers a.extent x → (v : Op) × Contains t'.ops v
      × SameInsn v a × (has_byte x v ≡ true)
  covered a x r p e =
      let f = root_same a r in
      let v = k.cover (root a r) x (root_in a r) (plain_root a r p) (rw (← root_extent a r) e) in
      elim (s.ops_on v.0 v.1) [
        | inr i ↦ (v.0, i, (v.2.0 ∙ sym f.0, v.2.1 ∙ sym f.1), v.3)
        | inl same ↦
            let m = part_lift t t' o n rest s x (subst (λ (z : Op). has_byte x z ≡ true) same v.3) in (
              m.0,
              m.1,
              (
                m.4.same.0 ∙ sym (ap (λ (z : Op). z.name.hart) same) ∙ v.2.0 ∙ sym f.0,
                m.4.same.1
                    ∙ sym (ap (λ (z : Op). z.name.tag) same) ∙ v.2.1 ∙ sym f.1,
              ),
              m.2,
            )
      ]

  paired_left : (w : Op) → Is w → has_stored (insn_of t' w) ≡ true → (l : Op) × IsPair t' l w × IsCoveredBy w l
  paired_left w (inl r) q =
      absurd (plain_not is_sc t o store_sc own
      (stored_sc (insn_of t o) (ap has_stored (sym (root_insn w (inl r))) ∙ q)))
  paired_left w (inr i) q = let l = k.paired w i.0 (ap has_stored (sym (root_insn w (inr i))) ∙ q) in
      (l.0, pair_on t t' k (part_ops t t' o n rest s) l.0 w l.1, l.2)

  pub part_kinded : WellKinded t'
  part_kinded = record {
    form = part_form;
    kinds = λ a w h q. let r = is a h in k.kinds (root a r) w (root_in a r) (sym (root_insn a r) ∙ q)
        ∙ ap Some (sym (root_kind a r));
    amo = λ a b h i. amo_one a b (is a h) (is b i);
    early_stores = λ a h. k.early_stores a (s.early.back a h);
    unperformed = λ a h q. let r = is a h in ap (is_one is_store) (root_insn a r)
        ∙ k.unperformed (root a r) (root_in a r) (root_unplaced a r q);
    extents = λ a b h i e. root_extent a (is a h) ∙ k.extents (root a (is a h)) (root b (is b i)) (root_in a (is a h))
        (root_in b (is b i)) (same_roots a b (is a h) (is b i) e) ∙ sym (root_extent b (is b i));
    disjoint = λ a b x h i e c d. one_of a b x (is a h) (is b i) e c d;
    parts = λ a h. named_op a (is a h);
    cover = λ a x h p e. covered a x (is a h) p e;
    plain = λ a h p. let r = is a h in root_plain a r (k.plain (root a r) (root_in a r) (plain_root a r p));
    early_apart = λ a b h i. k.early_apart a b (s.early.back a h) (s.early.back b i);
    early_younger = λ a w h i. k.early_younger a w (s.early.back a h) (insns_back t t' s.keeps w i);
    paired = λ w h q. paired_left w (is w h) q;
  }
