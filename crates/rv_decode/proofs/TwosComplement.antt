-- Numbers with a sign, and the bits that stand for them.
use Rattle.std.proofs.Common.{◌≡◌, ℕ, ◌+◌, ◌-◌, ◌^◌, ◌<◌, ◌≤◌, ℤ, pos, negsuc, Bool, true, false, refl, ap, ◌∙◌}
use Rattle.std.proofs.Common.{suc, sym, subst, arith}
use Rattle.std.specs.Prelude.{nat_le, neg_ℤ, if◌then◌else◌}
use Rattle.std.proofs.lemmas.Bool.{cond-true, cond-false, le-leb, lt-leb, leb-true, leb-false}
use Rattle.rv_decode.specs.Formats.{twos_complement, IsSigned}
use Rattle.tandem_base.specs.Signs.{represents}

-- a choice has what each of its sides has
pub choice : {X : Type 0} (P : X → Type 0) (test : Bool) (x y : X) → (test ≡ true → P x) → (test ≡ false → P y)
    → P (if test then x else y)
choice P true x y first second = first refl
choice P false x y first second = second refl

-- what lies below 0 by a number above 0
below_zero : (n m : ℕ) → n < m → neg_ℤ (pos (m - n)) ≡ negsuc (m - 1 - n)
below_zero n m lt =
    let above : m - n ≡ suc (m - 1 - n) = omega (arith, lt) in
    ap (λ k. neg_ℤ (pos k)) above

-- the number that bits stand for, by its highest bit
represents_is : (bits n : ℕ) → n < 2 ^ bits
    → represents bits n ≡ (if nat_le (2 ^ (bits - 1)) n then negsuc (2 ^ bits - 1 - n) else pos n)
represents_is bits n lt =
    ap (λ z. if nat_le (2 ^ (bits - 1)) n then z else pos n) (below_zero n (2 ^ bits) lt)

-- the bits of the number that bits stand for
pub bits_again : (bits n : ℕ) → n < 2 ^ bits → twos_complement bits (represents bits n) ≡ n
bits_again bits n lt =
    ap (twos_complement bits) (represents_is bits n lt)
    ∙ choice (λ z. twos_complement bits z ≡ n) (nat_le (2 ^ (bits - 1)) n) (negsuc (2 ^ bits - 1 - n)) (pos n)
    (λ _. omega (arith, lt)) (λ _. refl)

-- it fits them
pub represents_fits : (bits n : ℕ) → 2 ^ bits ≡ 2 ^ (bits - 1) + 2 ^ (bits - 1) → n < 2 ^ bits
    → IsSigned bits (represents bits n)
represents_fits bits n twice lt =
    subst (IsSigned bits) (sym (represents_is bits n lt))
    (choice (λ z. IsSigned bits z) (nat_le (2 ^ (bits - 1)) n) (negsuc (2 ^ bits - 1 - n)) (pos n)
    (λ high. omega (arith, leb-true (2 ^ (bits - 1)) n high, twice, lt))
    (λ low. leb-false (2 ^ (bits - 1)) n low))

-- a number that fits is the one that its bits stand for
pub number_again : (bits : ℕ) (imm : ℤ) → 2 ^ bits ≡ 2 ^ (bits - 1) + 2 ^ (bits - 1) → IsSigned bits imm
    → represents bits (twos_complement bits imm) ≡ imm
number_again bits (pos n) twice fits = cond-false _ _ (pos n) (lt-leb (2 ^ (bits - 1)) n fits)
number_again bits (negsuc n) twice fits =
    let back : 2 ^ bits - 1 - (2 ^ bits - 1 - n) ≡ n = omega (arith, twice, fits) in
    let above : 2 ^ (bits - 1) ≤ 2 ^ bits - 1 - n = omega (arith, twice, fits) in
    let within : 2 ^ bits - 1 - n < 2 ^ bits = omega (arith, twice, fits) in
    represents_is bits (2 ^ bits - 1 - n) within
    ∙ cond-true _ (negsuc (2 ^ bits - 1 - (2 ^ bits - 1 - n))) _ (le-leb (2 ^ (bits - 1)) (2 ^ bits - 1 - n) above)
    ∙ ap negsuc back

-- a field as wide as the number
pub bits_lt : (bits : ℕ) (imm : ℤ) → 2 ^ bits ≡ 2 ^ (bits - 1) + 2 ^ (bits - 1) → IsSigned bits imm
    → twos_complement bits imm < 2 ^ bits
bits_lt bits (pos n) twice fits = omega (arith, twice, fits)
bits_lt bits (negsuc n) twice fits = omega (arith, twice, fits)
