-- The global order and the order of names are strict total orders.
use Rattle.std.proofs.Common.{◌≡◌, Bool, true, false, refl, sym, ap, subst, arith}
use Rattle.std.proofs.lemmas.Bool.{false≢true, both_ways}
use Rattle.std.proofs.lemmas.Bool.Decides.{nat_tests}
use Rattle.tandem_base.specs.declared.names.OpName.{OpName}
use Rattle.tandem_base.specs.declared.names.Place.{Place}
use Rattle.tandem_base.specs.Places.{earlier}
use Rattle.rvwmo_model.specs.Order.{Standing, performed, unperformed, stands_before, named_before}

-- ---- places

place_self : (p : Place) → earlier p p ≡ false
place_self p = grind (arith, nat_tests)

place_trans : (p q r : Place) → earlier p q ≡ true → earlier q r ≡ true → earlier p r ≡ true
place_trans p q r a b = grind (arith, nat_tests)

place_total : (p q : Place) → earlier p q ≡ false → earlier q p ≡ false → p ≡ q
place_total p q a b =
    let t : p.time ≡ q.time = grind (arith, nat_tests) in
    let m : p.message ≡ q.message = grind (arith, nat_tests) in
    let n : p.insert ≡ q.insert = grind (arith, nat_tests) in
    λ i. record { time = t i; message = m i; insert = n i }

-- ---- the global order

pub before_self : (a : Standing) → stands_before a a ≡ false
unfolding stands_before
before_self (performed p) = place_self p
before_self (unperformed h k) = grind (arith, nat_tests)

pub before_trans : (a b c : Standing) → stands_before a b ≡ true → stands_before b c ≡ true → stands_before a c ≡ true
unfolding stands_before
before_trans (performed p) (performed q) (performed r) d e = place_trans p q r d e
before_trans (performed p) (performed q) (unperformed h k) d e = refl
before_trans (performed p) (unperformed h k) (performed r) d e = absurd (false≢true e)
before_trans (performed p) (unperformed h k) (unperformed g j) d e = refl
before_trans (unperformed h k) (performed q) c d e = absurd (false≢true d)
before_trans (unperformed h k) (unperformed g j) (performed r) d e = absurd (false≢true e)
before_trans (unperformed h k) (unperformed g j) (unperformed f i) d e = grind (arith, nat_tests)

pub before_total : (a b : Standing) → stands_before a b ≡ false → stands_before b a ≡ false → a ≡ b
unfolding stands_before
before_total (performed p) (performed q) d e = ap performed (place_total p q d e)
before_total (performed p) (unperformed h k) d e = absurd (false≢true (sym d))
before_total (unperformed h k) (performed q) d e = absurd (false≢true (sym e))
before_total (unperformed h k) (unperformed g j) d e =
    let a : h ≡ g = grind (arith, nat_tests) in
    let b : k ≡ j = grind (arith, nat_tests) in
    λ i. unperformed (a i) (b i)

pub before_asym : (a b : Standing) → stands_before a b ≡ true → stands_before b a ≡ false
before_asym a b p = at (stands_before b a) refl
  where
    at : (c : Bool) → stands_before b a ≡ c → stands_before b a ≡ false
    at false e = e
    at true e = absurd (both_ways _ (before_self a) (before_trans a b a p e))

-- not before is transitive
pub not_before_trans : (a b c : Standing) → stands_before a b ≡ false → stands_before b c ≡ false
    → stands_before a c ≡ false
not_before_trans a b c p q = at (stands_before a c) refl (stands_before b a) refl
  where
    at : (x : Bool) → stands_before a c ≡ x → (y : Bool) → stands_before b a ≡ y → stands_before a c ≡ false
    at false e y f = e
    at true e true f = absurd (both_ways _ q (before_trans b a c f e))
    at true e false f =
        absurd (both_ways _ q (subst (λ (s : Standing). stands_before s c ≡ true) (before_total a b p f) e))

-- ---- names

pub name_self : (n : OpName) → named_before n n ≡ false
unfolding named_before
name_self n = grind (arith, nat_tests)

pub name_asym : (m n : OpName) → named_before m n ≡ true → named_before n m ≡ false
unfolding named_before
name_asym m n p = grind (arith, nat_tests)

pub not_name_trans : (l m n : OpName) → named_before l m ≡ false → named_before m n ≡ false → named_before l n ≡ false
unfolding named_before
not_name_trans l m n p q = grind (arith, nat_tests)

pub name_total : (m n : OpName) → named_before m n ≡ false → named_before n m ≡ false → m ≡ n
unfolding named_before
name_total m n p q =
    let a : m.hart ≡ n.hart = grind (arith, nat_tests) in
    let b : m.tag ≡ n.tag = grind (arith, nat_tests) in
    let c : m.part ≡ n.part = grind (arith, nat_tests) in
    λ i. record { hart = a i; tag = b i; part = c i }
