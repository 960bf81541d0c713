-- Groups of bytes.
use Rattle.std.proofs.Common.{ℕ, zero, suc, ◌+◌, ◌-◌, ◌*◌, ◌/◌, ◌%◌, ◌^◌, ◌<◌, ◌≤◌, ◌≡◌, inl, inr, Bool, true, false}
use Rattle.std.proofs.Common.{eqb, ◌||◌, ◌&&◌, cond, List, [], ◌∷◌, length, slice_index, Option, Some, None}
use Rattle.std.proofs.Common.{refl, sym, ap, subst, ◌∙◌, arith, pow-suc}
use Rattle.std.proofs.lemmas.Bool.{false≢true, both_ways, and_parts, and_from, or_cases, eqb-true, eq-eqb}
use Rattle.std.proofs.lemmas.Bool.Decides.{nat_tests}
use Rattle.std.proofs.lemmas.Nat.Bits.{bit_at_lowest, bit_at-suc}
use Rattle.std.specs.Int.{bit_at}
use Rattle.tandem_base.specs.declared.names.Place.{Place}
use Rattle.rvwmo_model.specs.declared.operations.Op.{Op}
use Rattle.trace_model.proofs.Lists.{In}
use Rattle.rvwmo_model.specs.Order.{has_byte, put_at}
use Rattle.tandem_base.specs.Extents.{is_among}
use Rattle.rvwmo_model.proofs.Extents.{bounds_of, from_bounds}
use Rattle.rvwmo_model.specs.InForm.{IsWhole}
use Rattle.growth_laws.specs.Kinds.{IsNamed}
use Rattle.trace_model.specs.Groups.{Access, mask_from, first_from, masked_from, op_of, same_place, part_at, some_below}
use Rattle.trace_model.specs.Groups.{parts_below}

pub fun_ext : {X Y : Type 0} (f g : X → Y) → ((x : X) → f x ≡ g x) → f ≡ g
fun_ext f g h = λ i x. h x i

-- ---- places

pub same_is : (a b : Option Place) → same_place a b ≡ true → a ≡ b
same_is None None e = refl
same_is None (Some q) e = absurd (false≢true e)
same_is (Some p) None e = absurd (false≢true e)
same_is (Some p) (Some q) e =
    let r = and_parts (eqb p.time q.time && eqb p.message q.message) (eqb p.insert q.insert) e in
    let s = and_parts (eqb p.time q.time) (eqb p.message q.message) r.0 in
    λ i. Some (record { time = eqb-true _ _ s.0 i; message = eqb-true _ _ s.1 i; insert = eqb-true _ _ r.1 i })

pub same_self : (a : Option Place) → same_place a a ≡ true
same_self None = refl
same_self (Some p) = and_from _ _ (and_from _ _ (eq-eqb p.time p.time refl) (eq-eqb p.message p.message refl))
    (eq-eqb p.insert p.insert refl)

-- ---- masks

pub step_on : (k i : ℕ) → k + suc i ≡ suc k + i
step_on k i = omega arith

pub mask_bit : (p : ℕ → Bool) (k n i : ℕ) → i < n → bit_at (mask_from p k n) i ≡ cond (p (k + i)) 1 0
mask_bit p k zero i l = absurd (omega (arith, l))
mask_bit p k (suc n) zero l = bit_at_lowest (mask_from p k (suc n)) ∙ at (p k) ∙ ap (λ j. cond (p j) 1 0)
    (let e : k ≡ k + 0 = omega arith in e)
  where
    at : (b : Bool) → (cond b 1 0 + 2 * mask_from p (suc k) n) % 2 ≡ cond b 1 0
    at true = omega arith
    at false = omega arith
mask_bit p k (suc n) (suc i) l = bit_at-suc (mask_from p k (suc n)) i ∙ ap (λ m. bit_at m i) (at (p k))
    ∙ mask_bit p (suc k) n i (omega (arith, l)) ∙ ap (λ j. cond (p j) 1 0) (sym (step_on k i))
  where
    at : (b : Bool) → (cond b 1 0 + 2 * mask_from p (suc k) n) / 2 ≡ mask_from p (suc k) n
    at true = omega arith
    at false = omega arith

pub mask_within : (p : ℕ → Bool) (k n : ℕ) → mask_from p k n < 2 ^ n
mask_within p k zero = omega arith
mask_within p k (suc n) = at (p k) (mask_within p (suc k) n)
  where
    at : (b : Bool) → mask_from p (suc k) n < 2 ^ n → cond b 1 0 + 2 * mask_from p (suc k) n < 2 ^ suc n
    at true l = omega (arith, pow-suc 2 n, l)
    at false l = omega (arith, pow-suc 2 n, l)

pub mask_some : (p : ℕ → Bool) (k n i : ℕ) → i < n → p (k + i) ≡ true → 0 < mask_from p k n
mask_some p k zero i l e = absurd (omega (arith, l))
mask_some p k (suc n) zero l e = rw (subst (λ j. p j ≡ true) (let e : k + 0 ≡ k = omega arith in e) e) (omega arith)
mask_some p k (suc n) (suc i) l e = let m : 0 < mask_from p (suc k) n =
    mask_some p (suc k) n i (omega (arith, l)) (subst (λ j. p j ≡ true) (step_on k i) e) in omega (arith, m)

-- ---- the first

-- f is the first that passes of those from k below e
pub record IsFirst (p : ℕ → Bool) (k e f : ℕ) : Type 0 where
  pub passes : p f ≡ true
  pub after : k ≤ f
  pub before : f < e
  pub least : (j : ℕ) → k ≤ j → p j ≡ true → f ≤ j

pub first_is : (p : ℕ → Bool) (k n i : ℕ) → i < n → p (k + i) ≡ true → IsFirst p k (k + n) (first_from p k n)
first_is p k zero i l e = absurd (omega (arith, l))
first_is p k (suc n) i l e = at (p k) refl i l e (λ i. first_is p (suc k) n i)
  where
    above : p k ≡ false → (j : ℕ) → k ≤ j → p j ≡ true → (c : Bool) → eqb k j ≡ c → suc k ≤ j
    above d j m q true f = absurd (both_ways _ d (subst (λ z. p z ≡ true) (sym (eqb-true k j f)) q))
    above d j m q false f = grind (arith, nat_tests)

    at : (b : Bool) → p k ≡ b → (i : ℕ) → i < suc n → p (k + i) ≡ true
        → ((i : ℕ) → i < n → p (suc k + i) ≡ true → IsFirst p (suc k) (suc k + n) (first_from p (suc k) n))
        → IsFirst p k (k + suc n) (cond b k (first_from p (suc k) n))
    at true d i l e rec = record { passes = d; after = omega arith; before = omega arith; least = λ j m q. m }
    at false d zero l e rec = absurd (both_ways _ d (subst (λ j. p j ≡ true) (let e : k + 0 ≡ k = omega arith in e) e))
    at false d (suc i) l e rec =
        let r = rec i (omega (arith, l)) (subst (λ j. p j ≡ true) (step_on k i) e) in
        record {
          passes = r.passes;
          after = let a = r.after in omega (arith, a);
          before = let a = r.before in omega (arith, a);
          least = λ j m q. r.least j (above d j m q (eqb k j) refl) q;
        }

-- ---- lists of bytes

pub masked_length : (p : ℕ → Bool) (k : ℕ) (bs : List ℕ) → length (masked_from p k bs) ≡ length bs
masked_length p k [] = refl
masked_length p k (b ∷ bs) = ap suc (masked_length p (suc k) bs)

pub masked_byte : (p : ℕ → Bool) (k : ℕ) (bs : List ℕ) (i : ℕ) → p (k + i) ≡ true → slice_index (masked_from p k bs) i
    ≡ slice_index bs i
masked_byte p k [] i e = refl
masked_byte p k (b ∷ bs) zero e = rw (subst (λ j. p j ≡ true) (let e : k + 0 ≡ k = omega arith in e) e) refl
masked_byte p k (b ∷ bs) (suc i) e = masked_byte p (suc k) bs i (subst (λ j. p j ≡ true) (step_on k i) e)

-- ---- members

or_left : (x y : Bool) → x ≡ true → (x || y) ≡ true
or_left x y e = rw e refl

or_right : (x y : Bool) → y ≡ true → (x || y) ≡ true
or_right true y e = refl
or_right false y e = e

pub some_yes : (p : ℕ → Bool) (n : ℕ) → some_below p n ≡ true → (k : ℕ) × (k < n) × (p k ≡ true)
some_yes p zero e = absurd (false≢true e)
some_yes p (suc n) e = elim (or_cases (some_below p n) (p n) e) [
  | inl a ↦ let r = some_yes p n a in (r.0, omega (arith, r.1), r.2)
  | inr b ↦ (n, omega arith, b)
]

pub some_there : (p : ℕ → Bool) (n k : ℕ) → k < n → p k ≡ true → some_below p n ≡ true
some_there p zero k l e = absurd (omega (arith, l))
some_there p (suc n) k l e = at (eqb k n) refl (some_there p n k)
  where
    at : (c : Bool) → eqb k n ≡ c → (k < n → p k ≡ true → some_below p n ≡ true) → (some_below p n || p n) ≡ true
    at true f rec = or_right (some_below p n) (p n) (subst (λ j. p j ≡ true) (eqb-true k n f) e)
    at false f rec = or_left (some_below p n) (p n) (rec (grind (arith, nat_tests)) e)

pub part_in : (a : Access) (f : ℕ → Option Place) (n k : ℕ) → k < n → In (part_at a f (f k)) (parts_below a f n)
part_in a f zero k l = absurd (omega (arith, l))
part_in a f (suc n) k l = at (some_below (λ j. same_place (f j) (f n)) n) refl (eqb k n) refl (part_in a f n)
  where
    at : (b : Bool) → some_below (λ j. same_place (f j) (f n)) n ≡ b → (c : Bool) → eqb k n ≡ c
        → ((k : ℕ) → k < n → In (part_at a f (f k)) (parts_below a f n))
        → In (part_at a f (f k)) (cond b (parts_below a f n) (part_at a f (f n) ∷ parts_below a f n))
    at true e true d rec =
        let r = some_yes (λ j. same_place (f j) (f n)) n e in
        let q : f r.0 ≡ f k = same_is (f r.0) (f n) r.2 ∙ ap f (sym (eqb-true k n d)) in
        subst (λ (z : Option Place). In (part_at a f z) (parts_below a f n)) q (rec r.0 r.1)
    at true e false d rec = rec k (grind (arith, nat_tests))
    at false e true d rec = inl (ap (λ j. part_at a f (f j)) (eqb-true k n d))
    at false e false d rec = inr (rec k (grind (arith, nat_tests)))

-- v is the operation of one of the first n bytes
abbrev IsPart : Access → (ℕ → Option Place) → ℕ → Op → Type 0
IsPart a f n v = (k : ℕ) × (k < n) × (v ≡ part_at a f (f k))

pub part_from : (a : Access) (f : ℕ → Option Place) (n : ℕ) (v : Op) → In v (parts_below a f n) → IsPart a f n v
part_from a f zero v h = absurd h
part_from a f (suc n) v h = at (some_below (λ j. same_place (f j) (f n)) n) h (part_from a f n v)
  where
    more : IsPart a f n v → IsPart a f (suc n) v
    more r = (r.0, omega (arith, r.1), r.2)

    at : (b : Bool) → In v (cond b (parts_below a f n) (part_at a f (f n) ∷ parts_below a f n))
        → (In v (parts_below a f n) → IsPart a f n v) → IsPart a f (suc n) v
    at true h rec = more (rec h)
    at false (inl e) rec = (n, omega arith, e)
    at false (inr h) rec = more (rec h)

-- ---- the operation of some bytes of an access

-- byte x lies in the extent of o
abbrev pub InExtent : Op → ℕ → Type 0
InExtent o x = (o.extent.addr ≤ x) × (x < o.extent.addr + o.extent.len)

module _ (a : Access) (p : ℕ → Bool) (q : Option Place) where
  -- byte x is in the operation exactly where it is in the extent and passes
  pub covers_from : (x : ℕ) → InExtent (op_of a p q) x → p (x - a.extent.addr) ≡ true → has_byte x (op_of a p q) ≡ true
  covers_from x h e =
      let l : x - a.extent.addr < a.extent.len = omega (arith, h.0, h.1) in
      and_from _ _ (from_bounds a.extent x h.0 h.1) (eq-eqb _ _ (mask_bit p 0 a.extent.len (x - a.extent.addr) l
      ∙ ap (λ b. cond b 1 0) (ap p (let z : 0 + (x - a.extent.addr) ≡ x - a.extent.addr = omega arith in z) ∙ e)))

  pub covers_parts : (x : ℕ) → has_byte x (op_of a p q) ≡ true → InExtent (op_of a p q) x
      × (p (x - a.extent.addr) ≡ true)
  covers_parts x e =
      let one : ℕ = 1 in
      let r = and_parts (is_among a.extent.addr a.extent.len x)
      (eqb (bit_at (mask_from p 0 a.extent.len) (x - a.extent.addr)) one) e in
      let b = bounds_of a.extent x r.0 in
      let l : x - a.extent.addr < a.extent.len = omega (arith, b.0, b.1) in (
        (b.0, b.1),
        ap p (let z : x - a.extent.addr ≡ 0 + (x - a.extent.addr) = omega arith in z)
            ∙ at (p (0 + (x - a.extent.addr))) _ (mask_bit p 0 a.extent.len (x - a.extent.addr) l) (eqb-true _ _ r.1),
      )
    where
      at : (b : Bool) → (m : ℕ) → m ≡ cond b 1 0 → m ≡ 1 → b ≡ true
      at true m e f = refl
      at false m e f = absurd (omega (arith, e, f))

  pub put_is : (x : ℕ) → p (x - a.extent.addr) ≡ true → put_at (op_of a p q) x ≡ slice_index a.put (x - a.extent.addr)
  put_is x e = masked_byte p 0 a.put (x - a.extent.addr)
      (ap p (let z : 0 + (x - a.extent.addr) ≡ x - a.extent.addr = omega arith in z) ∙ e)

  pub whole_op : (k : ℕ) → k < a.extent.len → p k ≡ true → length a.got ≡ a.extent.len → length a.put ≡ a.extent.len
      → IsWhole (op_of a p q)
  whole_op k l e g s = record {
    some = mask_some p 0 a.extent.len k l (ap p (let z : 0 + k ≡ k = omega arith in z) ∙ e);
    within = mask_within p 0 a.extent.len;
    got = masked_length p 0 a.got ∙ g;
    put = masked_length p 0 a.put ∙ s;
  }

  pub named_op : (k : ℕ) → k < a.extent.len → p k ≡ true → IsNamed (op_of a p q)
  named_op k l e =
      let f = first_is p 0 a.extent.len k l (ap p (let z : 0 + k ≡ k = omega arith in z) ∙ e) in
      let n : ℕ = first_from p 0 a.extent.len in
      let b = f.before in
      let back : (a.extent.addr + n) - a.extent.addr ≡ n = omega arith in
      record {
        here = covers_from (a.extent.addr + n) (omega arith, omega (arith, b)) (ap p back ∙ f.passes);
        lowest = λ x c. let r = covers_parts x c in let g = f.least (x - a.extent.addr) (omega arith) r.1 in let y =
            r.0.0 in omega (arith, g, y);
      }
