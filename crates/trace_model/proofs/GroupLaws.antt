-- The operations of an access group its bytes by place.
use Rattle.std.proofs.Common.{ℕ, zero, suc, ◌+◌, ◌-◌, ◌^◌, ◌<◌, ◌≡◌, ◌≢◌, Bool, true, false, cond, List, [], ◌∷◌}
use Rattle.std.proofs.Common.{Option}
use Rattle.std.proofs.Common.{inl, inr, refl, sym, ap, subst, ◌∙◌, arith}
use Rattle.std.specs.List.{Contains}
use Rattle.std.proofs.lemmas.Bool.{both_ways}
use Rattle.tandem_base.specs.declared.names.OpName.{OpName}
use Rattle.tandem_base.specs.declared.names.Place.{Place}
use Rattle.rvwmo_model.specs.declared.operations.Op.{Op}
use Rattle.rvwmo_model.specs.Order.{has_byte}
use Rattle.growth_laws.specs.Kinds.{IsNamed}
use Rattle.trace_model.specs.Groups.{Access, first_from, same_place, part_at, some_below, parts_below}
use Rattle.trace_model.specs.Groups.{parts_of}
use Rattle.trace_model.specs.GroupLaws.{AreGroups, OperationsAreGroups}
use Rattle.trace_model.proofs.Lists.{In, Pairs, of_pairs, listed, contained}
use Rattle.trace_model.proofs.Groups.{same_is, same_self, some_there, part_in, part_from, covers_from, covers_parts}
use Rattle.trace_model.proofs.Groups.{mask_some, mask_within, first_is, named_op}

module _ (a : Access) (f : ℕ → Option Place) where
  -- the bytes that were performed at q
  abbrev At : Option Place → ℕ → Bool
  At q k = same_place (f k) q

  -- the byte of a part is at its place
  part_place : (q : Option Place) (x : ℕ) → has_byte x (part_at a f q) ≡ true → f (x - a.extent.addr) ≡ q
  part_place q x e = same_is (f (x - a.extent.addr)) q (covers_parts a (At q) q x e).1

  -- a byte of the extent is one of the part at its place
  part_has : (k : ℕ) → k < a.extent.len → has_byte (a.extent.addr + k) (part_at a f (f k)) ≡ true
  part_has k l =
      let back : (a.extent.addr + k) - a.extent.addr ≡ k = omega arith in
      covers_from a (At (f k)) (f k) (a.extent.addr + k)
      (omega arith, omega (arith, l))
      (rw back (same_self (f k)))

  -- the lowest byte of the part of byte k is at its place
  lowest_at : (k : ℕ) → k < a.extent.len → f (first_from (At (f k)) 0 a.extent.len) ≡ f k
  lowest_at k l = same_is _ (f k)
      (first_is (At (f k)) 0 a.extent.len k l (rw (let z : 0 + k ≡ k = omega arith in z) (same_self (f k)))).passes

  -- parts of one name are at one place
  name_place : (j k : ℕ) → j < a.extent.len → k < a.extent.len
      → (part_at a f (f j)).name ≡ (part_at a f (f k)).name → f j ≡ f k
  name_place j k l m e = sym (lowest_at j l) ∙ ap f (ap (λ (n : OpName). n.part) e) ∙ lowest_at k m

  -- of the parts of the first n bytes no two are at one place
  parts_apart : (n : ℕ) → Pairs (λ v w. v.place ≢ w.place) (parts_below a f n)
  parts_apart zero = tt
  parts_apart (suc n) = at (some_below (At (f n)) n) refl (parts_apart n)
    where
      at : (b : Bool) → some_below (At (f n)) n ≡ b → Pairs (λ v w. v.place ≢ w.place) (parts_below a f n)
          → Pairs (λ v w. v.place ≢ w.place) (cond b (parts_below a f n) (part_at a f (f n) ∷ parts_below a f n))
      at true e rec = rec
      at false e rec = (other, rec)
        where
          other : (v : Op) → In v (parts_below a f n) → f n ≡ v.place → ⊥
          other v i same =
              let y = part_from a f n v i in
              let q : f n ≡ f y.0 = same ∙ ap (λ (z : Op). z.place) y.2 in
              both_ways _ e (some_there (At (f n)) n y.0 y.1 (rw q (same_self (f y.0))))

  -- and so no two have one name
  names_apart : (ops : List Op) → ((v : Op) → In v ops → In v (parts_of a f))
      → Pairs (λ v w. v.place ≢ w.place) ops → Pairs (λ v w. v.name ≢ w.name) ops
  names_apart [] all p = tt
  names_apart (v ∷ ops) all p = (
    (λ w i e. p.0 w i (same v w (all v (inl refl)) (all w (inr i)) e)),
    names_apart ops (λ w i. all w (inr i)) p.1,
  )
    where
      same : (v w : Op) → In v (parts_of a f) → In w (parts_of a f) → v.name ≡ w.name → v.place ≡ w.place
      same v w i j e =
          let y = part_from a f a.extent.len v i in
          let z = part_from a f a.extent.len w j in
          ap (λ (o : Op). o.place) y.2
          ∙ name_place y.0 z.0 y.1 z.1 (sym (ap (λ (o : Op). o.name) y.2) ∙ e ∙ ap (λ (o : Op). o.name) z.2)
          ∙ sym (ap (λ (o : Op). o.place) z.2)

  -- what is so of each part is so of each operation
  of_parts : (P : Op → Type 0) → ((k : ℕ) → k < a.extent.len → P (part_at a f (f k))) → (v : Op)
      → Contains (parts_of a f) v → P v
  of_parts P each v i =
      let y = part_from a f a.extent.len v (listed _ v i) in
      subst P (sym y.2) (each y.0 y.1)

  starts_at : (k : ℕ) → At (f k) (0 + k) ≡ true
  starts_at k = rw (let z : 0 + k ≡ k = omega arith in z) (same_self (f k))

  -- an operation with a byte is the part at the place of that byte
  part_of : (v : Op) (x : ℕ) → Contains (parts_of a f) v → has_byte x v ≡ true
      → v ≡ part_at a f (f (x - a.extent.addr))
  part_of v x i e =
      let y = part_from a f a.extent.len v (listed _ v i) in
      let q = part_place (f y.0) x (subst (λ (z : Op). has_byte x z ≡ true) y.2 e) in
      y.2 ∙ ap (part_at a f) (sym q)

  pub are_groups : AreGroups a f (parts_of a f)
  are_groups = record {
    some = of_parts (λ v. 0 < v.mask) (λ k l. mask_some (At (f k)) 0 a.extent.len k l (starts_at k));
    within = of_parts (λ v. v.mask < 2 ^ a.extent.len) (λ k l. mask_within (At (f k)) 0 a.extent.len);
    cover = λ k l. (part_at a f (f k), contained _ _ (part_in a f a.extent.len k l), part_has k l);
    disjoint = λ v w x i j e g. part_of v x i e ∙ sym (part_of w x j g);
    placed = λ v k i e.
        let back : (a.extent.addr + k) - a.extent.addr ≡ k = omega arith in
        ap (λ (z : Op). z.place) (part_of v (a.extent.addr + k) i e) ∙ ap f back;
    named = of_parts IsNamed (λ k l. named_op a (At (f k)) (f k) k l (same_self (f k)));
    apart = of_pairs _ _ (names_apart (parts_of a f) (λ v i. i) (parts_apart a.extent.len));
    places = of_pairs _ _ (parts_apart a.extent.len);
  }

pub operations_are_groups : OperationsAreGroups
operations_are_groups = are_groups
