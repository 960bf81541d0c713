-- The order of positions is total.
use Rattle.std.proofs.Common.{◌≡◌, true, false, arith}
use Rattle.std.proofs.lemmas.Bool.Decides.{nat_tests}
use Rattle.tandem_base.specs.declared.names.Position.{Position}
use Rattle.tandem_base.specs.Places.{comes_before}

pub never_itself : (a : Position) → comes_before a a ≡ false
never_itself a = grind (arith, nat_tests)

-- b is after a, and c isn't: then c isn't after b
pub not_after : (a b c : Position) → comes_before a b ≡ true → comes_before a c ≡ false → comes_before b c ≡ false
not_after a b c e f = grind (arith, nat_tests)

-- and c is before b
pub before_it : (a b c : Position) → comes_before a b ≡ true → comes_before a c ≡ false → comes_before c b ≡ true
before_it a b c e f = grind (arith, nat_tests)

-- a is before b, and c isn't: then c isn't before a
pub not_before : (a b c : Position) → comes_before a b ≡ true → comes_before c b ≡ false → comes_before c a ≡ false
not_before a b c e f = grind (arith, nat_tests)

-- a is before b, c isn't, and c is before d: then a is before d
pub before_past : (a b c d : Position) → comes_before a b ≡ true → comes_before c b ≡ false → comes_before c d ≡ true
    → comes_before a d ≡ true
before_past a b c d e f g = grind (arith, nat_tests)
