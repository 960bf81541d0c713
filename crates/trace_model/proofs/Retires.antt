-- An instruction more.
use Rattle.std.proofs.Common.{ℕ, zero, suc, ◌-◌, ◌<◌, ◌≡◌, ◌≢◌, ◌⊎◌, inl, inr, Bool, true, false, eqb, ◌&&◌, cond, List}
use Rattle.std.proofs.Common.{[], ◌∷◌, ◌++◌, length, Option, Some, None, refl, sym, ap, subst, ◌∙◌, arith}
use Rattle.std.proofs.lemmas.Bool.{and_parts, eqb-true}
use Rattle.tandem_base.specs.declared.names.Place.{Place}
use Rattle.tandem_base.specs.Extents.{IsAligned}
use Rattle.rvwmo_model.specs.declared.instructions.Retired.{Retired}
use Rattle.rvwmo_model.specs.declared.operations.Op.{Op}
use Rattle.rvwmo_model.specs.declared.operations.OpKind.TheVariants as kind
use Rattle.rvwmo_model.specs.declared.traces.Trace.{Trace}
use Rattle.std.specs.List.{AllPairs, flat_map}
use Rattle.trace_model.proofs.Lists.{In, listed, contained, pairs_of, of_pairs, pairs_append}
use Rattle.rvwmo_model.specs.Order.{everything}
use Rattle.rvwmo_model.specs.Order.{has_byte}
use Rattle.rv_decode.specs.Kinds.{is_lr}
use Rattle.rvwmo_model.specs.ProgramOrder.{insn_at}
use Rattle.rvwmo_model.specs.InForm.{AreRising, IsPlaced, IsWhole}
use Rattle.trace_model.proofs.Lists.{in_left, in_right, in_cases}
use Rattle.rv_decode.specs.Kinds.{is_store}
use Rattle.growth_laws.specs.Kinds.{kind_of_retired, IsPlainAnnotated, IsNamed}
use Rattle.rvwmo_model.proofs.Extents.{bounds_of}
use Rattle.growth_laws.specs.Growth.{SameMembers, AreOf, AddsLoads, AddsStore, Adds, AddInsn}
use Rattle.trace_model.specs.Groups.{Access, same_place, part_at, parts_below, parts_of}
use Rattle.trace_model.specs.Entries.{Entry, Places, entry_ops, insns_of, built}
use Rattle.trace_model.proofs.Groups.{same_is, same_self, some_there, part_from, whole_op, named_op, covers_from}
use Rattle.trace_model.proofs.Groups.{covers_parts}

-- an instruction at the end is found where none before it is
pub insn_more : (ws : List Retired) (r : Retired) → ((w : Retired) → In w ws → w.hart ≡ r.hart → w.tag < r.tag)
    → (h k : ℕ) → insn_at (ws ++ r ∷ []) h k ≡ cond (eqb r.hart h && eqb r.tag k) (Some r) (insn_at ws h k)
insn_more [] r less h k = refl
insn_more (w ∷ ws) r less h k = at (eqb w.hart h && eqb w.tag k) refl (eqb r.hart h && eqb r.tag k) refl
    (insn_more ws r (λ v i. less v (inr i)) h k)
  where
    at : (c : Bool) → (eqb w.hart h && eqb w.tag k) ≡ c → (d : Bool) → (eqb r.hart h && eqb r.tag k) ≡ d
        → insn_at (ws ++ r ∷ []) h k ≡ cond (eqb r.hart h && eqb r.tag k) (Some r) (insn_at ws h k)
        → cond c (Some w) (insn_at (ws ++ r ∷ []) h k) ≡ cond d (Some r) (cond c (Some w) (insn_at ws h k))
    at true p true q rec =
        let a = and_parts (eqb w.hart h) (eqb w.tag k) p in
        let b = and_parts (eqb r.hart h) (eqb r.tag k) q in
        let l : w.tag < r.tag = less w (inl refl) (eqb-true _ _ a.0 ∙ sym (eqb-true _ _ b.0)) in
        let x = eqb-true _ _ a.1 in
        let y = eqb-true _ _ b.1 in
        absurd (omega (arith, l, x, y))
    at true p false q rec = refl
    at false p true q rec = rec ∙ rw q refl
    at false p false q rec = rec ∙ rw q refl

pub rising_more : (ws : List Retired) (r : Retired) → AreRising ws
    → ((w : Retired) → In w ws → w.hart ≡ r.hart → w.tag < r.tag) → AreRising (ws ++ r ∷ [])
rising_more ws r up less =
    of_pairs (λ w v. v.hart ≡ w.hart → w.tag < v.tag) _
    (pairs_append _ ws (r ∷ []) (pairs_of _ ws up) (λ v i. absurd i, tt) (λ w v i j. at w v i j))
  where
    at : (w v : Retired) → In w ws → In v (r ∷ []) → v.hart ≡ w.hart → w.tag < v.tag
    at w v i (inl s) e = rw s (less w i (sym e ∙ ap (λ (z : Retired). z.hart) s))
    at w v i (inr j) e = absurd j

-- ---- an instruction with operations that stay as they are, or a store

module _ (es : List Entry) (g : Places) (early early' : List Op) (granule : ℕ) (e : Entry)
    (rising : AreRising (insns_of es))
    (younger : (w : Retired) → In w (insns_of es) → w.hart ≡ e.insn.hart → w.tag < e.insn.tag)
    (once : AllPairs (λ u v. u ≢ v) (flat_map (entry_ops g) (e ∷ es))) where
  abbrev t : Trace
  t = built es g early granule

  abbrev t' : Trace
  t' = built (e ∷ es) g early' granule

  pub adds : ((v : Op) → In v early' → v.name.hart ≡ e.insn.hart → e.insn.tag < v.name.tag)
      → AreOf e.insn (entry_ops g e) → Adds t t' e.insn (entry_ops g e) → AddInsn t t' e.insn (entry_ops g e)
  adds older are how = record {
    keeps = record {
      insns = insn_more (insns_of es) e.insn younger;
      rising =
          rising_more (insns_of es) e.insn rising younger;
      once = once;
      granule = refl;
    };
    younger = λ w h. younger w (listed _ w h);
    older = λ v h. older v (listed _ v h);
    ops_on = λ v h. contained _ v (in_right (entry_ops g e) t.ops v (listed _ v h));
    ops_back = λ v h. elim (in_cases (entry_ops g e) t.ops v (listed _ v h)) [
      | inl i ↦ inl (contained _ v i)
      | inr i ↦
          inr (contained _ v i)
    ];
    added = λ v h. contained _ v (in_left (entry_ops g e) t.ops v (listed _ v h));
    are_of = are;
    adds = how;
  }

-- ---- the operations of one access

-- where all bytes are at one place there is one operation
pub one_place : (a : Access) (f : ℕ → Option Place) (q : Option Place) (n : ℕ) → ((k : ℕ) → k < n → f k ≡ q) → 0 < n
    → parts_below a f n ≡ part_at a f q ∷ []
one_place a f q zero all some = absurd (omega (arith, some))
one_place a f q (suc zero) all some = ap (λ z. part_at a f z ∷ []) (all 0 (omega arith))
one_place a f q (suc (suc n)) all some =
    let same : same_place (f 0) (f (suc n)) ≡ true = rw (all 0 (omega arith), all (suc n) (omega arith)) (same_self q)
    in
    rw (some_there (λ k. same_place (f k) (f (suc n))) (suc n) 0 (omega arith) same)
    (one_place a f q (suc n) (λ k l. all k (omega (arith, l))) (omega arith))

module _ (a : Access) (f : ℕ → Option Place) (r : Retired) (hart : a.hart ≡ r.hart) (tag : a.tag ≡ r.tag)
    (kinds : kind_of_retired r ≡ Some a.kind)
    (got : length a.got ≡ a.extent.len) (put : length a.put ≡ a.extent.len) where
  -- what holds of each part holds of each operation
  each : (P : Op → Type 0) → ((k : ℕ) → k < a.extent.len → P (part_at a f (f k))) → (v : Op) → In v (parts_of a f) → P v
  each P all v h = let y = part_from a f a.extent.len v h in subst P (sym y.2) (all y.0 y.1)

  passes : (k : ℕ) → same_place (f k) (f k) ≡ true
  passes k = same_self (f k)

  pub same_part : (u v : Op) → In u (parts_of a f) → In v (parts_of a f) → u.place ≡ v.place → u ≡ v
  same_part u v i j e =
      let y = part_from a f a.extent.len u i in
      let z = part_from a f a.extent.len v j in
      let q : f y.0 ≡ f z.0 = sym (ap (λ (w : Op). w.place) y.2) ∙ e ∙ ap (λ (w : Op). w.place) z.2 in
      y.2 ∙ ap (part_at a f) q ∙ sym z.2

  at_byte : (u : Op) (x : ℕ) → In u (parts_of a f) → has_byte x u ≡ true → f (x - a.extent.addr) ≡ u.place
  at_byte u x i c =
      let y = part_from a f a.extent.len u i in
      same_is _ _ (covers_parts a (λ k. same_place (f k) (f y.0)) (f y.0) x
      (subst (λ (z : Op). has_byte x z ≡ true) y.2 c)).1 ∙ sym (ap (λ (w : Op). w.place) y.2)

  pub are_of : AreOf r (parts_of a f)
  are_of = record {
    own = λ v h. each (λ v. (v.name.hart ≡ r.hart) × (v.name.tag ≡ r.tag)) (λ k l. (hart, tag)) v (listed _ v h);
    kinds = λ v h. each (λ v. kind_of_retired r ≡ Some v.kind) (λ k l. kinds) v (listed _ v h);
    whole = λ v h. each IsWhole (λ k l. whole_op a (λ j. same_place (f j) (f k)) (f k) k l (passes k) got put) v
        (listed _ v h);
    parts = λ v h. each IsNamed (λ k l. named_op a (λ j. same_place (f j) (f k)) (f k) k l (passes k)) v (listed _ v h);
    extents = λ u v i j. each (λ v. v.extent ≡ a.extent) (λ k l. refl) u (listed _ u i)
        ∙ sym (each (λ v. v.extent ≡ a.extent) (λ k l. refl) v (listed _ v j));
    disjoint = λ u v x i j c d. same_part u v (listed _ u i) (listed _ v j)
        (sym (at_byte u x (listed _ u i) c) ∙ at_byte v x (listed _ v j) d);
  }

  -- a load: each byte was performed, at a place of no operation before
  module _ (t t' : Trace) (new_only : (v : Op) → In v (everything t') → In v (parts_of a f) ⊎ In v (everything t))
      (early : SameMembers t.early t'.early)
      (loads : kind_of_retired r ≡ Some kind.Load) (placed : (k : ℕ) → k < a.extent.len → (p : Place) × (f k ≡ Some p))
      (fresh : (v : Op) (k : ℕ) → In v (everything t) → k < a.extent.len → v.place ≡ f k → ⊥)
      (reserves : is_lr r.insn ≡ true → ((k : ℕ) → k < a.extent.len → f k ≡ f 0)
      × (0 < t'.granule → IsAligned a.extent)) (granule : t'.granule ≡ t.granule) where
    places_one : (u v : Op) (p : Place) → In u (parts_of a f) → In v (parts_of a f) ⊎ In v (everything t) → u.place
        ≡ Some p → v.place ≡ Some p → u ≡ v
    places_one u v p i (inl j) e d = same_part u v i j (e ∙ sym d)
    places_one u v p i (inr j) e d = let y = part_from a f a.extent.len u i in
        absurd (fresh v y.0 j y.1 (d ∙ sym e ∙ ap (λ (w : Op). w.place) y.2))

    pub adds_load : AddsLoads t t' r (parts_of a f)
    adds_load = record {
      loads = loads;
      early = early;
      placed = λ v h. each IsPlaced (λ k l. placed k l) v (listed _ v h);
      places = λ u v p i j e d. places_one u v p (listed _ u i) (new_only v (listed _ v j)) e d;
      reserves = λ q. (
        part_at a f (f 0),
        one_place a f (f 0) a.extent.len (reserves q).0 a.extent.sized.0,
        λ l. (reserves q).1 (rw granule l),
      );
    }

  -- a plain store: none of its bytes was performed
  module _ (t t' : Trace) (early : SameMembers t.early t'.early) (stores : is_store r.insn ≡ true)
      (none : (k : ℕ) → k < a.extent.len → f k ≡ None) (plain : IsPlainAnnotated (part_at a f None)) where
    pub adds_stores : AddsStore t t' r (parts_of a f) (part_at a f None)
    adds_stores = record {
      stores = stores;
      early = early;
      one = one_place a f None a.extent.len none a.extent.sized.0;
      unperformed = refl;
      all = λ x c. let i = bounds_of a.extent x c in covers_from a (λ k. same_place (f k) None) None x i
          (ap (λ z. same_place z None) (none (x - a.extent.addr) (omega (arith, i.0, i.1))));
      plain = plain;
    }
