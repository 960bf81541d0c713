-- What `parse` reads is what the word spells.
use Rattle.std.proofs.Common.{◌≡◌, ◌≢◌, ℕ, ◌^◌, ◌<◌, Bool, true, false, ◌&&◌, List, [], ◌∷◌, length, nat_lt}
use Rattle.std.proofs.Common.{if◌then◌else◌, get_or, None, Some, Result, Ok, Err, refl, sym, ap, ◌∙◌, arith}
use Rattle.std.proofs.lemmas.Bool.Decides.{nat_tests}
use Rattle.std.specs.Char.{digit_value}
use Rattle.std.specs.Result.{OkIff, result_ok}
use Rattle.std.specs.Str.Parse.{AllDigits, IsNumeral, ParsesUnsigned, digits_value}
use Rattle.std.proofs.lemmas.Str.Parse.{without_leading_plus_none}
use Rattle.tandem_cli.specs.Numbers.{all_digits, numeral_of}

-- a test of a digit and of those behind it
pass_both : (value base : ℕ) (more : Bool) → value < base → more ≡ true → nat_lt value base && more ≡ true
pass_both value base more low rest = grind (arith, nat_tests)

passed_both : (value base : ℕ) (more : Bool) → nat_lt value base && more ≡ true → (value < base) × (more ≡ true)
passed_both value base more h = grind (arith, nat_tests)

-- the test of digits, as a fact
pub digits_pass : (base : ℕ) (ds : List ℕ) → AllDigits base ds → all_digits base ds ≡ true
digits_pass base [] h = refl
digits_pass base (d ∷ ds) h = pass_both (digit_value d) base _ h.0 (digits_pass base ds h.1)

pub digits_passed : (base : ℕ) (ds : List ℕ) → all_digits base ds ≡ true → AllDigits base ds
digits_passed base [] h = tt
digits_passed base (d ∷ ds) h =
    let both = passed_both (digit_value d) base (all_digits base ds) h in (both.0, digits_passed base ds both.1)

-- the whole test, as a fact
spelled : (base : ℕ) (ds : List ℕ) → IsNumeral base ds → digits_value base ds < 2 ^ 64
    → numeral_of base ds ≡ Some (digits_value base ds)
spelled base ds numeral fits = chosen (length ds) (all_digits base ds) (digits_value base ds) numeral.0
    (digits_pass base ds numeral.1) fits
  where
    chosen : (len : ℕ) (digits : Bool) (value : ℕ) → 0 < len → digits ≡ true → value < 2 ^ 64
        → (if nat_lt 0 len && digits && nat_lt value (2 ^ 64) then Some value else None) ≡ Some value
    chosen len digits value some all fits = grind (arith, nat_tests)

passed_three : (len value : ℕ) (digits : Bool) → nat_lt 0 len && digits && nat_lt value (2 ^ 64) ≡ true
    → (0 < len) × (digits ≡ true) × (value < 2 ^ 64)
passed_three len value digits h = grind (arith, nat_tests)

none_where : (test : Bool) (value : ℕ) → (test ≡ true → ⊥) → (if test then Some value else None) ≡ None
none_where true value never = absurd (never refl)
none_where false value never = refl

not_spelled : (base : ℕ) (ds : List ℕ) → (IsNumeral base ds × (digits_value base ds < 2 ^ 64) → ⊥)
    → numeral_of base ds ≡ None
not_spelled base ds none =
    none_where _ (digits_value base ds)
    (λ h. let three = passed_three (length ds) (digits_value base ds) (all_digits base ds) h in
    none ((three.0, digits_passed base ds three.1), three.2))

-- a numeral below 2 ^ 64 is read, and nothing else
pub numeral_read : {E : Type 0} (base : ℕ) (ds : List ℕ) (r : Result ℕ E)
    → OkIff r (IsNumeral base ds × (digits_value base ds < 2 ^ 64)) (digits_value base ds)
    → result_ok r ≡ numeral_of base ds
numeral_read base ds (Ok n) h = sym (spelled base ds h.0.0 h.0.1 ∙ ap Some (sym h.1))
numeral_read base ds (Err e) h = sym (not_spelled base ds h)

-- the same of a text that has no sign
pub unsigned_read : {E : Type 0} (base : ℕ) (ds : List ℕ) (r : Result ℕ E)
    → ParsesUnsigned 64 base ds r → get_or ds 0 0 ≢ 43 → result_ok r ≡ numeral_of base ds
unsigned_read base ds r reads plain = numeral_read base ds r (rw (without_leading_plus_none ds plain) at reads)
