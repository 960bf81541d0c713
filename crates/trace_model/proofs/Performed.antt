-- Bytes of one store are performed.
use Rattle.std.proofs.Common.{ℕ, ◌+◌, ◌-◌, ◌<◌, ◌≤◌, ◌≡◌, ◌⊎◌, inl, inr, Bool, true, false, eqb, List}
use Rattle.std.proofs.Common.{Option, Some, None, refl, sym, ap, subst, ◌∙◌, arith}
use Rattle.std.proofs.lemmas.Bool.{both_ways, eqb-true, eq-eqb}
use Rattle.tandem_base.specs.declared.names.Place.{Place}
use Rattle.rvwmo_model.specs.declared.operations.Op.{Op}
use Rattle.rvwmo_model.specs.declared.traces.Trace.{Trace}
use Rattle.trace_model.proofs.Lists.{In, listed, contained}
use Rattle.rvwmo_model.specs.Order.{everything}
use Rattle.std.specs.List.{Contains}
use Rattle.tandem_base.specs.Places.{earlier}
use Rattle.rvwmo_model.specs.Order.{has_byte, stands_before}
use Rattle.trace_model.proofs.Lists.{in_left}
use Rattle.std.proofs.lemmas.Bool.Decides.{nat_tests}
use Rattle.trace_model.proofs.Groups.{InExtent}
use Rattle.growth_laws.specs.Growth.{SameMembers, IsAbove, IsPartOf, PerformsPart}
use Rattle.trace_model.proofs.AreEntries.{AreEntries, one_store, ops_once}
use Rattle.growth_laws.proofs.Places.{not_both}
use Rattle.trace_model.specs.Groups.{Access, op_of, same_place, part_at, some_below}
use Rattle.trace_model.specs.Entries.{Stores, Entry, Places, byte_places, built}
use Rattle.trace_model.proofs.Groups.{fun_ext, same_is, same_self, some_yes, some_there, whole_op, named_op}
use Rattle.trace_model.proofs.Entries.{Comes, is_fixed, is_stored, comes, goes, key_back, covers_at, at_covers}
use Rattle.trace_model.proofs.Entries.{put_at_part}

-- the bytes of the store a that pass are performed at p, and all else stays
pub record Moves (g g' : Places) (a : Access) (p : Place) (b : ℕ → Bool) : Type 0 where
  pub others : (h t x : ℕ) → (h ≡ a.hart → t ≡ a.tag → ⊥) → g' h t x ≡ g h t x
  pub was : (x : ℕ) → b x ≡ true → g a.hart a.tag x ≡ None
  pub is : (x : ℕ) → b x ≡ true → g' a.hart a.tag x ≡ Some p
  pub stays : (x : ℕ) → b x ≡ false → g' a.hart a.tag x ≡ g a.hart a.tag x
  pub inside : (x : ℕ) → b x ≡ true → (a.extent.addr ≤ x) × (x < a.extent.addr + a.extent.len)
  pub some : (x : ℕ) × (b x ≡ true)

-- all places of a trace come before p
abbrev pub IsBelow : Trace → Place → Type 0
IsBelow t p = (v : Op) (q : Place) → In v (everything t) → v.place ≡ Some q → earlier q p ≡ true

place_self : (p : Place) → earlier p p ≡ false
place_self p = grind (arith, nat_tests)

pub is_above : (t : Trace) (n : Op) (p : Place) → IsBelow t p → n.place ≡ Some p → IsAbove t n
unfolding stands_before
is_above t n p below e v h q = rw (e, q.1) (below v q.0 (listed _ v h) q.1)

pub members_self : (xs : List Op) → SameMembers xs xs
members_self xs = record { on = λ v h. h; back = λ v h. h }

-- one part is performed at p
pub record IsStep (u v : Trace) (h k : ℕ) (p : Place) (b : ℕ → Bool) : Type 0 where
  pub old : Op
  pub new : Op
  pub rest : Option Op
  pub hart : new.name.hart ≡ h
  pub tag : new.name.tag ≡ k
  pub place : new.place ≡ Some p
  pub bytes : (x : ℕ) → has_byte x new ≡ b x
  pub performs : PerformsPart u v old new rest

abbrev pub rest_at : Bool → Op → Option Op
rest_at true m = Some m
rest_at false m = None

module _ (es : List Entry) (early : List Op) (granule : ℕ) (g g' : Places) (a : Access) (p : Place) (b : ℕ → Bool)
    (e : Entry)
    (good : AreEntries es) (there : In e es) (doing : e.memory ≡ Stores a) (m : Moves g g' a p b)
    (below : IsBelow (built es g early granule) p) where
  abbrev t : Trace
  t = built es g early granule

  abbrev t' : Trace
  t' = built es g' early granule

  abbrev o : Op
  o = part_at a (byte_places g a) None

  abbrev pub part : Op
  part = part_at a (byte_places g' a) (Some p)

  abbrev left : Op
  left = part_at a (byte_places g' a) None

  abbrev has_left : Bool
  has_left = some_below (λ k. same_place (byte_places g' a k) None) a.extent.len

  abbrev pub rest : Option Op
  rest = rest_at has_left left

  abbrev k0 : ℕ
  k0 = m.some.0 - a.extent.addr

  k0_in : k0 < a.extent.len
  k0_in = let i = m.inside m.some.0 m.some.1 in omega (arith, i.0, i.1)

  k0_was : byte_places g a k0 ≡ None
  k0_was = key_back g a None m.some.0 (m.inside m.some.0 m.some.1).0 ∙ m.was m.some.0 m.some.1

  k0_is : byte_places g' a k0 ≡ Some p
  k0_is = key_back g' a None m.some.0 (m.inside m.some.0 m.some.1).0 ∙ m.is m.some.0 m.some.1

  stored_in : (k : ℕ) (q : Option Place) → k < a.extent.len → byte_places g a k ≡ q
      → In (part_at a (byte_places g a) q) t.ops
  stored_in k q l f = goes g es (part_at a (byte_places g a) q)
      (is_stored e a k there doing l (ap (part_at a (byte_places g a)) (sym f)))

  stored_in' : (k : ℕ) (q : Option Place) → k < a.extent.len → byte_places g' a k ≡ q
      → In (part_at a (byte_places g' a) q) t'.ops
  stored_in' k q l f = goes g' es (part_at a (byte_places g' a) q)
      (is_stored e a k there doing l (ap (part_at a (byte_places g' a)) (sym f)))

  -- p is new
  new : (k : ℕ) → k < a.extent.len → byte_places g a k ≡ Some p → ⊥
  new k l f =
      let n : Op = part_at a (byte_places g a) (Some p) in
      both_ways _ (place_self p) (below n p (in_left t.ops early n (stored_in k (Some p) l f)) refl)

  -- the bytes at another place are the same
  same_test : (r : Place) (k : ℕ) → (Some p ≡ Some r → ⊥) → (c : Bool) → b (a.extent.addr + k) ≡ c
      → same_place (byte_places g a k) (Some r) ≡ same_place (byte_places g' a k) (Some r)
  same_test r k ne true f = rw (m.was (a.extent.addr + k) f, m.is (a.extent.addr + k) f)
      (at (same_place (Some p) (Some r)) refl)
    where
      at : (d : Bool) → same_place (Some p) (Some r) ≡ d → false ≡ same_place (Some p) (Some r)
      at true q = absurd (ne (same_is (Some p) (Some r) q))
      at false q = sym q
  same_test r k ne false f = ap (λ z. same_place z (Some r)) (sym (m.stays (a.extent.addr + k) f))

  same_part : (r : Place) → (Some p ≡ Some r → ⊥)
      → part_at a (byte_places g a) (Some r) ≡ part_at a (byte_places g' a) (Some r)
  same_part r ne = ap (λ (f : ℕ → Bool). op_of a f (Some r))
      (fun_ext _ _ (λ k. same_test r k ne (b (a.extent.addr + k)) refl))

  -- the store of an entry is a, or its bytes are where they were
  abbrev IsOther : Access → Type 0
  IsOther c = byte_places g c ≡ byte_places g' c

  which : (f : Entry) (c : Access) → In f es → f.memory ≡ Stores c → (c ≡ a) ⊎ IsOther c
  which f c i d = at (eqb c.hart a.hart) refl (eqb c.tag a.tag) refl
    where
      other : (c.hart ≡ a.hart → c.tag ≡ a.tag → ⊥) → IsOther c
      other ne = fun_ext (byte_places g c) (byte_places g' c) (λ k. sym (m.others c.hart c.tag (c.extent.addr + k) ne))

      at : (x : Bool) → eqb c.hart a.hart ≡ x → (y : Bool) → eqb c.tag a.tag ≡ y → (c ≡ a) ⊎ IsOther c
      at true q true r = inl (one_store es good e f a c there i doing d (eqb-true _ _ q) (eqb-true _ _ r))
      at true q false r = inr (other (λ u v. both_ways _ r (eq-eqb _ _ v)))
      at false q y r = inr (other (λ u v. both_ways _ q (eq-eqb _ _ u)))

  abbrev IsPart : Places → Access → Op → Type 0
  IsPart h c v = (k : ℕ) × (k < c.extent.len) × (v ≡ part_at c (byte_places h c) (byte_places h c k))

  -- an operation of a goes on: the bytes that are not performed are o
  on_part : (v : Op) → IsPart g a v → (v ≡ o) ⊎ In v t'.ops
  on_part v r = at (byte_places g a r.0) refl (b (a.extent.addr + r.0)) refl
    where
      at : (q : Option Place) → byte_places g a r.0 ≡ q → (c : Bool) → b (a.extent.addr + r.0) ≡ c
          → (v ≡ o) ⊎ In v t'.ops
      at None f c j = inl (r.2 ∙ ap (part_at a (byte_places g a)) f)
      at (Some q) f true j = absurd (let z : None ≡ Some q = sym (m.was (a.extent.addr + r.0) j) ∙ f in cc)
      at (Some q) f false j =
          let i : In (part_at a (byte_places g' a) (Some q)) t'.ops =
          stored_in' r.0 (Some q) r.1 (m.stays (a.extent.addr + r.0) j ∙ f) in
          let s : v ≡ part_at a (byte_places g' a) (Some q) = r.2 ∙ ap (part_at a (byte_places g a)) f
          ∙ same_part q (λ z. new r.0 r.1 (f ∙ sym z)) in
          inr (subst (λ (z : Op). In z t'.ops) (sym s) i)

  ops_on : (v : Op) → Comes g es v → (v ≡ o) ⊎ In v t'.ops
  ops_on v (is_fixed f ops i d h) = inr (goes g' es v (is_fixed f ops i d h))
  ops_on v (is_stored f c k i d l s) = elim (which f c i d) [
    | inl same ↦ on_part v (subst (λ (z : Access). IsPart g z v) same (k, l, s))
    | inr other ↦ inr (goes g' es v (is_stored f c k i d l
        (s ∙ ap (λ (h : ℕ → Option Place). part_at c h (h k)) other)))
  ]

  has_rest : (k : ℕ) → k < a.extent.len → byte_places g' a k ≡ None → rest ≡ Some left
  has_rest k l f = ap (λ c. rest_at c left) (some_there (λ k. same_place (byte_places g' a k) None) a.extent.len k l
      (ap (λ z. same_place z None) f))

  back_part : (v : Op) → IsPart g' a v → (v ≡ part) ⊎ (rest ≡ Some v) ⊎ In v t.ops
  back_part v r = at (byte_places g' a r.0) refl (b (a.extent.addr + r.0)) refl
    where
      at : (q : Option Place) → byte_places g' a r.0 ≡ q → (c : Bool) → b (a.extent.addr + r.0) ≡ c → (v ≡ part)
          ⊎ (rest ≡ Some v) ⊎ In v t.ops
      at q f true j = inl (r.2 ∙ ap (part_at a (byte_places g' a)) (m.is (a.extent.addr + r.0) j))
      at None f false j = inr (inl (has_rest r.0 r.1 f ∙ ap Some (sym (r.2 ∙ ap (part_at a (byte_places g' a)) f))))
      at (Some q) f false j =
          let was : byte_places g a r.0 ≡ Some q = sym (m.stays (a.extent.addr + r.0) j) ∙ f in
          let s : v ≡ part_at a (byte_places g a) (Some q) = r.2 ∙ ap (part_at a (byte_places g' a)) f
          ∙ sym (same_part q (λ z. new r.0 r.1 (was ∙ sym z))) in
          inr (inr (subst (λ (z : Op). In z t.ops) (sym s) (stored_in r.0 (Some q) r.1 was)))

  ops_back : (v : Op) → Comes g' es v → (v ≡ part) ⊎ (rest ≡ Some v) ⊎ In v t.ops
  ops_back v (is_fixed f ops i d h) = inr (inr (goes g es v (is_fixed f ops i d h)))
  ops_back v (is_stored f c k i d l s) = elim (which f c i d) [
    | inl same ↦ back_part v (subst (λ (z : Access). IsPart g' z v) same (k, l, s))
    | inr other ↦ inr (inr (goes g es v (is_stored f c k i d l
        (s ∙ ap (λ (h : ℕ → Option Place). part_at c h (h k)) (sym other)))))
  ]

  x0_in : InExtent o m.some.0
  x0_in = m.inside m.some.0 m.some.1

  gone : Comes g' es o → ⊥
  gone (is_fixed f ops i d h) = not_both o ((good.each f i).placed ops o d h) refl
  gone (is_stored f c k i d l s) =
      let same : c ≡ a = one_store es good e f a c there i doing d (sym (ap (λ (z : Op). z.name.hart) s))
      (sym (ap (λ (z : Op). z.name.tag) s)) in
      let none : byte_places g' c k ≡ None = sym (ap (λ (z : Op). z.place) s) in
      let is : o ≡ part_at a (byte_places g' a) None = s ∙ ap (part_at c (byte_places g' c)) none
      ∙ ap (λ (z : Access). part_at z (byte_places g' z) None) same in
      let c : has_byte m.some.0 o ≡ true = covers_at g a None m.some.0 x0_in (m.was m.some.0 m.some.1) in
      let z : None ≡ Some p = sym (at_covers g' a None m.some.0 (subst (λ (z : Op). has_byte m.some.0 z ≡ true) is c)).1
      ∙ m.is m.some.0 m.some.1 in
      cc

  -- the bytes at q are part of o, where all of them were not performed
  part_of : (q : Option Place) (k : ℕ) → k < a.extent.len → byte_places g' a k ≡ q
      → ((x : ℕ) → InExtent o x → g' a.hart a.tag x ≡ q → g a.hart a.tag x ≡ None)
      → IsPartOf (part_at a (byte_places g' a) q) o
  part_of q k l f from = record {
    same = (refl, refl);
    kind = refl;
    extent = refl;
    acquire = refl;
    release = refl;
    bytes = λ x c.
        let r = at_covers g' a q x c in
        let d : has_byte x o ≡ true = covers_at g a None x r.0 (from x r.0 r.1) in
        (d, put_at_part g' a q x c ∙ sym (put_at_part g a None x d));
    whole = let s = (good.each e there).sized a doing in
        whole_op a (λ j. same_place (byte_places g' a j) q) q k l (passes) s.0 s.1;
    named = named_op a (λ j. same_place (byte_places g' a j) q) q k l (passes);
  }
    where
      passes : same_place (byte_places g' a k) q ≡ true
      passes = rw f (same_self q)

  from_p : (x : ℕ) → InExtent o x → g' a.hart a.tag x ≡ Some p → g a.hart a.tag x ≡ None
  from_p x i f = at (b x) refl
    where
      at : (c : Bool) → b x ≡ c → g a.hart a.tag x ≡ None
      at true j = m.was x j
      at false j = absurd (new (x - a.extent.addr) (omega (arith, i.0, i.1))
          (key_back g a None x i.0 ∙ sym (m.stays x j) ∙ f))

  from_none : (x : ℕ) → InExtent o x → g' a.hart a.tag x ≡ None → g a.hart a.tag x ≡ None
  from_none x i f = at (b x) refl
    where
      at : (c : Bool) → b x ≡ c → g a.hart a.tag x ≡ None
      at true j = m.was x j
      at false j = sym (m.stays x j) ∙ f

  -- where something is left, it is that
  is_left : (v : Op) → rest ≡ Some v → (left ≡ v) × ((k : ℕ) × (k < a.extent.len) × (byte_places g' a k ≡ None))
  is_left v r = at has_left refl r
    where
      at : (c : Bool) → has_left ≡ c → rest_at c left ≡ Some v → (left ≡ v)
          × ((k : ℕ) × (k < a.extent.len) × (byte_places g' a k ≡ None))
      at true j r = let y = some_yes (λ k. same_place (byte_places g' a k) None) a.extent.len j in
          ((cc), (y.0, y.1, same_is _ None y.2))
      at false j r = absurd (cc)

  left_part : (v : Op) → rest ≡ Some v → In v t'.ops × (v.place ≡ None) × IsPartOf v o
  left_part v r =
      let y = is_left v r in
      subst (λ (z : Op). In z t'.ops × (z.place ≡ None) × IsPartOf z o) y.0 (
        stored_in' y.1.0 None y.1.1 y.1.2,
        refl,
        part_of None y.1.0 y.1.1 y.1.2 from_none,
      )

  all_bytes : (x : ℕ) → has_byte x o ≡ true → (has_byte x part ≡ true)
      ⊎ ((v : Op) × (rest ≡ Some v) × (has_byte x v ≡ true))
  all_bytes x c = at (b x) refl
    where
      was : InExtent o x × (g a.hart a.tag x ≡ None)
      was = at_covers g a None x c

      at : (d : Bool) → b x ≡ d → (has_byte x part ≡ true) ⊎ ((v : Op) × (rest ≡ Some v) × (has_byte x v ≡ true))
      at true j = inl (covers_at g' a (Some p) x was.0 (m.is x j))
      at false j =
          let none : g' a.hart a.tag x ≡ None = m.stays x j ∙ was.1 in
          inr (
            left,
            has_rest (x - a.extent.addr) (omega (arith, was.0.0, was.0.1))
                (key_back g' a None x was.0.0 ∙ none),
            covers_at g' a None x was.0 none,
          )

  apart : (v : Op) (x : ℕ) → rest ≡ Some v → has_byte x part ≡ true → has_byte x v ≡ true → ⊥
  apart v x r c d =
      let z : None ≡ Some p = sym (at_covers g' a None x (subst (λ (z : Op). has_byte x z ≡ true) (sym (is_left v r).0)
      d)).1 ∙ (at_covers g' a (Some p) x c).1 in
      cc

  or_contained : {v : Op} {P : Type 0} → P ⊎ In v t'.ops → P ⊎ Contains t'.ops v
  or_contained (inl x) = inl x
  or_contained {v} (inr i) = inr (contained t'.ops v i)

  back_contained : {v : Op} {P Q : Type 0} → P ⊎ Q ⊎ In v t.ops → P ⊎ Q ⊎ Contains t.ops v
  back_contained (inl x) = inl x
  back_contained (inr (inl y)) = inr (inl y)
  back_contained {v} (inr (inr i)) = inr (inr (contained t.ops v i))

  pub performs : PerformsPart t t' o part rest
  performs = record {
    keeps = record { insns = λ h k. refl; rising = good.rising; once = ops_once g' es good; granule = refl };
    early = members_self early;
    was = contained _ _ (stored_in k0 None k0_in k0_was);
    unperformed = refl;
    ops_on = λ v h. or_contained (ops_on v (comes g es v (listed _ v h)));
    ops_back = λ v h. back_contained (ops_back v (comes g' es v (listed _ v h)));
    gone = λ h. gone (comes g' es o (listed _ o h));
    added = contained _ _ (stored_in' k0 (Some p) k0_in k0_is);
    placed = (p, refl);
    above = is_above t part p below refl;
    part = part_of (Some p) k0 k0_in k0_is from_p;
    left = λ v r. let y = left_part v r in (contained _ v y.0, y.1, y.2);
    all = all_bytes;
    disjoint = apart;
  }

  bytes_of : (x : ℕ) → has_byte x part ≡ b x
  bytes_of x = at (b x) refl (has_byte x part) refl
    where
      at : (c : Bool) → b x ≡ c → (d : Bool) → has_byte x part ≡ d → has_byte x part ≡ b x
      at true j d r = covers_at g' a (Some p) x (m.inside x j) (m.is x j) ∙ sym j
      at false j false r = r ∙ sym j
      at false j true r =
          let y = at_covers g' a (Some p) x r in
          absurd (new (x - a.extent.addr) (omega (arith, y.0.0, y.0.1)) (key_back g a None x y.0.0 ∙ sym (m.stays x j)
          ∙ y.1))

  pub steps : (h k : ℕ) → a.hart ≡ h → a.tag ≡ k → IsStep t t' h k p b
  steps h k f q = record {
    old = o;
    new = part;
    rest = rest;
    hart = f;
    tag = q;
    place = refl;
    bytes = bytes_of;
    performs = performs;
  }
