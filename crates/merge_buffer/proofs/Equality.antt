-- Tests of numbers.
use Rattle.std.proofs.Common.{ℕ, ◌≡◌, ◌≢◌, ◌==◌, true, false, arith}
use Rattle.std.proofs.lemmas.Bool.Decides.{nat_tests}

pub same_line : (a : ℕ) → (a == a) ≡ true
same_line a = grind (arith, nat_tests)

pub other_line : (a b : ℕ) → a ≢ b → (a == b) ≡ false
other_line a b d = grind (arith, nat_tests)
