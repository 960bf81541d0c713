-- The operations of a trace that has an instruction more.
use Rattle.std.proofs.Common.{ℕ, ◌<◌, ◌≡◌, ◌⊎◌, inl, inr, Bool, true, false, List, Some, None, refl, sym, ap, subst}
use Rattle.std.proofs.Common.{◌∙◌, arith}
use Rattle.std.proofs.lemmas.Bool.{false≢true, both_ways, and_parts}
use Rattle.std.specs.List.{Contains}
use Rattle.rv_decode.specs.declared.instruction.Insn.{Insn}
use Rattle.rv_decode.specs.declared.instruction.Insn.TheVariants.{Store, Lr, Sc, Amo}
use Rattle.rvwmo_model.specs.declared.instructions.Retired.{Retired}
use Rattle.rvwmo_model.specs.declared.operations.Op.{Op}
use Rattle.rvwmo_model.specs.declared.operations.OpKind.TheVariants as kind
use Rattle.rvwmo_model.specs.declared.traces.Trace.{Trace}
use Rattle.tandem_base.specs.Extents.{Covers}
use Rattle.rvwmo_model.specs.Order.{has_byte}
use Rattle.rvwmo_model.specs.ProgramOrder.{insn_of, is_one}
use Rattle.rvwmo_model.specs.Atomicity.{IsPair, IsCoveredBy}
use Rattle.rvwmo_model.specs.InForm.{IsPlaced}
use Rattle.rvwmo_model.proofs.Membership.{nothing_in}
use Rattle.rv_decode.specs.Kinds.{is_store, is_lr, is_sc, is_amo_or_sc}
use Rattle.growth_laws.specs.Kinds.{kind_of_insn, kind_of_retired, SameInsn, IsNamed, IsPlainStore}
use Rattle.growth_laws.specs.Kinds.{IsPlainAnnotated, WellKinded}
use Rattle.growth_laws.specs.Growth.{AddsStore, Adds, adds_loads, adds_store, adds_atomic, adds_nothing, AddInsn}
use Rattle.growth_laws.proofs.Places.{not_both}
use Rattle.growth_laws.proofs.Insns.{more_new, insn_is}
use Rattle.growth_laws.proofs.Lawful.{stored_sc, pair_on}
use Rattle.growth_laws.proofs.PlainStores.{store_sc}
use Rattle.growth_laws.proofs.Operations.{op_older, insn_still, insn_ops}
use Rattle.growth_laws.proofs.Steps.{only}
use Rattle.rvwmo_model.specs.InsnKinds.{has_stored}

pub lr_kind : (i : Insn) (stored : Bool) → is_lr i ≡ true → kind_of_insn i stored ≡ Some kind.Load
lr_kind (Lr wide aq rl rd rs1) stored e = refl
lr_kind _ stored e = absurd (false≢true e)

pub sc_kind : (i : Insn) → is_sc i ≡ true → kind_of_insn i true ≡ Some kind.Store
sc_kind (Sc wide aq rl rd rs1 rs2) e = refl
sc_kind _ e = absurd (false≢true e)

pub atomic_lr : (i : Insn) → is_amo_or_sc i ≡ true → is_lr i ≡ false
atomic_lr (Sc wide aq rl rd rs1 rs2) e = refl
atomic_lr (Amo op wide aq rl rd rs1 rs2) e = refl
atomic_lr _ e = absurd (false≢true e)

pub atomic_store : (i : Insn) → is_amo_or_sc i ≡ true → is_store i ≡ false
atomic_store (Sc wide aq rl rd rs1 rs2) e = refl
atomic_store (Amo op wide aq rl rd rs1 rs2) e = refl
atomic_store _ e = absurd (false≢true e)

pub load_store : (i : Insn) (stored : Bool) → kind_of_insn i stored ≡ Some kind.Load → is_store i ≡ true → ⊥
load_store (Store op rs1 rs2 imm) stored e q = let c : Some kind.Store ≡ Some kind.Load = e in cc
load_store _ stored e q = false≢true q

pub stored_kind : (r : Retired) → has_stored (Some r) ≡ true → kind_of_retired r ≡ Some kind.Store
stored_kind r e =
    let p = and_parts (is_sc r.insn) r.stored e in
    ap (kind_of_insn r.insn) p.1 ∙ sc_kind r.insn p.0

module _ (t t' : Trace) (r : Retired) (new : List Op) (k : WellKinded t) (s : AddInsn t t' r new) where
  abbrev Is : Op → Type 0
  Is a = Contains new a ⊎ Contains t.ops a

  is : (a : Op) → Contains t'.ops a → Is a
  is a h = s.ops_back a h

  pub older : (a : Op) → Contains t.ops a → a.name.hart ≡ r.hart → a.name.tag < r.tag
  older a h e = op_older t t' r new a k s h e

  -- a new operation is of no old instruction
  unlike : (a b : Op) → Contains new a → Contains t.ops b → SameInsn a b → ⊥
  unlike a b h i e =
      let f = s.are_of.own a h in
      let l : b.name.tag < r.tag = older b i (sym e.0 ∙ f.0) in
      omega (arith, e.1, f.1)

  pub new_insn : (a : Op) → Contains new a → insn_of t' a ≡ Some r
  new_insn a h = insn_is t' r a (more_new t t' r s.keeps) (s.are_of.own a h)

  pub old_insn : (a : Op) → Contains t.ops a → insn_of t' a ≡ insn_of t a
  old_insn a h = insn_still t t' r new a a.name.tag k s h (inr refl)

  -- the instruction of a new operation, as found
  found : (a : Op) (w : Retired) → Contains new a → insn_of t' a ≡ Some w → r ≡ w
  found a w h e = let c : Some r ≡ Some w = sym (new_insn a h) ∙ e in cc

  -- each way of adding, by what the operations are
  placed_or_store : (a : Op) → Contains new a → IsPlaced a ⊎ ((o : Op) × AddsStore t t' r new o × (a ≡ o))
  placed_or_store a h = at s.adds
    where
      at : Adds t t' r new → IsPlaced a ⊎ ((o : Op) × AddsStore t t' r new o × (a ≡ o))
      at (adds_loads l) = inl (l.placed a h)
      at (adds_store o q) = inr (o, q, only o a new q.one h)
      at (adds_atomic e o q) = let p = k.form.early e q.was in
          inl (p.0, ap (λ (z : Op). z.place) (only o a new q.one h) ∙ q.place ∙ p.1)
      at (adds_nothing n) = absurd (nothing_in a (subst (λ (l : List Op). Contains l a) n.none h))

  -- a plain store's one operation
  plain_adds : (a : Op) → Contains new a → IsPlainStore t' a → (o : Op) × AddsStore t t' r new o × (a ≡ o)
  plain_adds a h p = at s.adds
    where
      store : is_store r.insn ≡ true
      store = ap (is_one is_store) (sym (new_insn a h)) ∙ p

      at : Adds t t' r new → (o : Op) × AddsStore t t' r new o × (a ≡ o)
      at (adds_loads l) = absurd (load_store r.insn r.stored l.loads store)
      at (adds_store o q) = (o, q, only o a new q.one h)
      at (adds_atomic e o q) = absurd (both_ways _ (atomic_store r.insn q.atomic) store)
      at (adds_nothing n) = absurd (nothing_in a (subst (λ (l : List Op). Contains l a) n.none h))

  -- an early store of t' is one of t
  pub early_back : (a : Op) → Contains t'.early a → Contains t.early a
  early_back a h = at s.adds
    where
      at : Adds t t' r new → Contains t.early a
      at (adds_loads l) = l.early.back a h
      at (adds_store o q) = q.early.back a h
      at (adds_atomic e o q) = q.early_back a h
      at (adds_nothing n) = n.early.back a h

  unperformed_new : (a : Op) → Contains new a → a.place ≡ None → IsPlainStore t' a
  unperformed_new a h e = elim (placed_or_store a h) [
    | inl p ↦ absurd (not_both a p e)
    | inr q ↦ ap (is_one is_store) (new_insn a h) ∙ q.1.stores
  ]

  two_new : (a b : Op) → Contains new a → Contains new b → a.place ≡ None → b.place ≡ None → a ≡ b
  two_new a b h i e f = elim (placed_or_store a h) [
    | inl p ↦ absurd (not_both a p e)
    | inr q ↦ q.2 ∙ sym (only q.0 b new q.1.one i)
  ]

  pub extents_of : (a b : Op) → Is a → Is b → SameInsn a b → a.extent ≡ b.extent
  extents_of a b (inl h) (inl i) e = s.are_of.extents a b h i
  extents_of a b (inl h) (inr i) e = absurd (unlike a b h i e)
  extents_of a b (inr h) (inl i) e = absurd (unlike b a i h (sym e.0, sym e.1))
  extents_of a b (inr h) (inr i) e = k.extents a b h i e

  pub disjoint_of : (a b : Op) (x : ℕ) → Is a → Is b → SameInsn a b → has_byte x a ≡ true → has_byte x b ≡ true → a ≡ b
  disjoint_of a b x (inl h) (inl i) e c d = s.are_of.disjoint a b x h i c d
  disjoint_of a b x (inl h) (inr i) e c d = absurd (unlike a b h i e)
  disjoint_of a b x (inr h) (inl i) e c d = absurd (unlike b a i h (sym e.0, sym e.1))
  disjoint_of a b x (inr h) (inr i) e c d = k.disjoint a b x h i e c d

  pub parts_of : (a : Op) → Is a → IsNamed a
  parts_of a (inl h) = s.are_of.parts a h
  parts_of a (inr h) = k.parts a h

  pub waits_of : (a b : Op) → Is a → Is b → SameInsn a b → a.place ≡ None → b.place ≡ None → a ≡ b
  waits_of a b (inl h) (inl i) e f g = two_new a b h i f g
  waits_of a b (inl h) (inr i) e f g = absurd (unlike a b h i e)
  waits_of a b (inr h) (inl i) e f g = absurd (unlike b a i h (sym e.0, sym e.1))
  waits_of a b (inr h) (inr i) e f g = k.form.waiting a b h i e.0 e.1 f g

  -- an AMO's operation is alone
  amo_new : (a b : Op) → Contains new a → Contains new b → a.kind ≡ kind.Both → a ≡ b
  amo_new a b h i f = at s.adds
    where
      at : Adds t t' r new → a ≡ b
      at (adds_loads l) =
          absurd (let c : Some kind.Load ≡ Some kind.Both = sym l.loads ∙ s.are_of.kinds a h ∙ ap Some f in cc)
      at (adds_store o q) = only o a new q.one h ∙ sym (only o b new q.one i)
      at (adds_atomic e o q) = only o a new q.one h ∙ sym (only o b new q.one i)
      at (adds_nothing n) = absurd (nothing_in a (subst (λ (l : List Op). Contains l a) n.none h))

  pub amo_of : (a b : Op) → Is a → Is b → SameInsn a b → a.kind ≡ kind.Both → a ≡ b
  amo_of a b (inl h) (inl i) e f = amo_new a b h i f
  amo_of a b (inl h) (inr i) e f = absurd (unlike a b h i e)
  amo_of a b (inr h) (inl i) e f = absurd (unlike b a i h (sym e.0, sym e.1))
  amo_of a b (inr h) (inr i) e f = k.amo a b h i e f

  pub named_of : (a : Op) → Is a → (w : Retired) × (insn_of t' a ≡ Some w)
  named_of a (inl h) = (r, new_insn a h)
  named_of a (inr h) = let w = k.form.named a h in (w.0, old_insn a h ∙ w.1)

  pub kinds_of : (a : Op) (w : Retired) → Is a → insn_of t' a ≡ Some w → kind_of_retired w ≡ Some a.kind
  kinds_of a w (inl h) q = ap kind_of_retired (sym (found a w h q)) ∙ s.are_of.kinds a h
  kinds_of a w (inr h) q = k.kinds a w h (sym (old_insn a h) ∙ q)

  pub unperformed_of : (a : Op) → Is a → a.place ≡ None → IsPlainStore t' a
  unperformed_of a (inl h) e = unperformed_new a h e
  unperformed_of a (inr h) e = ap (is_one is_store) (old_insn a h) ∙ k.unperformed a h e

  pub cover_of : (a : Op) (x : ℕ) → Is a → IsPlainStore t' a → Covers a.extent x → (v : Op) × Contains t'.ops v
      × SameInsn v a × (has_byte x v ≡ true)
  cover_of a x (inl h) p e =
      let q = plain_adds a h p in (
        a,
        s.added a h,
        (refl, refl),
        subst (λ (z : Op). has_byte x z ≡ true) (sym q.2)
            (q.1.all x (subst (λ (z : Op). Covers z.extent x) q.2 e)),
      )
  cover_of a x (inr h) p e =
      let v = k.cover a x h (ap (is_one is_store) (sym (old_insn a h)) ∙ p) e in
      (v.0, s.ops_on v.0 v.1, v.2, v.3)

  pub plain_of : (a : Op) → Is a → IsPlainStore t' a → IsPlainAnnotated a
  plain_of a (inl h) p = let q = plain_adds a h p in subst IsPlainAnnotated (sym q.2) q.1.plain
  plain_of a (inr h) p = k.plain a h (ap (is_one is_store) (sym (old_insn a h)) ∙ p)

  paired_new : (w : Op) → Contains new w → has_stored (Some r) ≡ true → (l : Op) × IsPair t' l w × IsCoveredBy w l
  paired_new w h q = at s.adds
    where
      at : Adds t t' r new → (l : Op) × IsPair t' l w × IsCoveredBy w l
      at (adds_loads a) = absurd (let c : Some kind.Load ≡ Some kind.Store = sym a.loads ∙ stored_kind r q in cc)
      at (adds_store o a) = absurd (both_ways _ (store_sc r.insn a.stores) (stored_sc (Some r) q))
      at (adds_atomic e o a) = let l = a.pair (stored_sc (Some r) q) in
          subst (λ (z : Op). (l : Op) × IsPair t' l z × IsCoveredBy z l) (sym (only o w new a.one h)) (l.0, l.1, l.2)
      at (adds_nothing n) = absurd (nothing_in w (subst (λ (z : List Op). Contains z w) n.none h))

  pub paired_of : (w : Op) → Is w → has_stored (insn_of t' w) ≡ true → (l : Op) × IsPair t' l w × IsCoveredBy w l
  paired_of w (inl h) q = paired_new w h (ap has_stored (sym (new_insn w h)) ∙ q)
  paired_of w (inr h) q = let l = k.paired w h (ap has_stored (sym (old_insn w h)) ∙ q) in
      (l.0, pair_on t t' k (insn_ops t t' r new k s) l.0 w l.1, l.2)

  pub younger_of : (o : Op) (w : Retired) → Contains t'.early o → (w ≡ r) ⊎ Contains t.insns w → w.hart ≡ o.name.hart
      → w.tag < o.name.tag
  younger_of o w h (inl e) q = let l : r.tag < o.name.tag = s.older o h (sym q ∙ ap (λ (z : Retired). z.hart) e) in
      omega (arith, ap (λ (z : Retired). z.tag) e)
  younger_of o w h (inr i) q = k.early_younger o w (early_back o h) i q
