-- The value of digits grows as they go on, and a text is the spelling of its own value or of none.
use Rattle.std.proofs.Common.{◌≡◌, ℕ, ◌+◌, ◌*◌, ◌<◌, ◌≤◌, Bool, true, false, ◌&&◌, nat_le}
use Rattle.std.proofs.Common.{List, [], ◌∷◌, length, drop, drop-cons, get_or, suc, Some, None}
use Rattle.std.proofs.Common.{if◌then◌else◌, refl, sym, ap, ◌∙◌, arith}
use Rattle.std.proofs.Math.Nat.{mul-le-mul_right}
use Rattle.std.proofs.lemmas.Bool.Decides.{nat_tests}
use Rattle.std.specs.Char.{digit_value}
use Rattle.std.specs.Fmt.{digits}
use Rattle.std.specs.Str.Parse.{digits_value, digits_value_after}
use Rattle.numerals.specs.Numerals.{spelled_in}
use Rattle.numerals.proofs.TextLaws.{alike, unlike}

-- the value so far is at most the whole value
pub value_grows : (base n : ℕ) (text : List ℕ) → 1 ≤ base → n ≤ digits_value_after base n text
value_grows base n [] some = omega arith
value_grows base n (digit ∷ text) some =
    omega (arith, mul-le-mul_right n some, value_grows base (n * base + digit_value digit) text some)

chosen : (test also : Bool) (n : ℕ) → test ≡ true → also ≡ true → (if test && also then Some n else None) ≡ Some n
chosen test also n p q = rw (p, q) refl

not_first : (test also : Bool) (n : ℕ) → test ≡ false → (if test && also then Some n else None) ≡ None
not_first test also n p = rw p refl

not_second : (test also : Bool) (n : ℕ) → also ≡ false → (if test && also then Some n else None) ≡ None
not_second true also n p = rw p refl
not_second false also n p = refl

at_most : (n most : ℕ) → n ≤ most → nat_le n most ≡ true
at_most n most low = grind (arith, nat_tests)

above : (n most : ℕ) → most < n → nat_le n most ≡ false
above n most high = grind (arith, nat_tests)

-- the text is the spelling of its value
pub spelled : (base most n : ℕ) (text : List ℕ) → n ≡ digits_value base text → n ≤ most
    → text ≡ digits base false n → spelled_in base most text ≡ Some n
unfolding spelled_in
spelled base most n text is low same =
    chosen _ _ (digits_value base text) (at_most _ most (omega (arith, is)))
    (alike _ _ (same ∙ ap (digits base false) is)) ∙ ap Some (sym is)

-- its value is too large
pub large : (base most : ℕ) (text : List ℕ) → most < digits_value base text → spelled_in base most text ≡ None
unfolding spelled_in
large base most text high = not_first _ _ (digits_value base text) (above _ most high)

-- the text isn't the spelling of its value
pub other : (base most n : ℕ) (text : List ℕ) → n ≡ digits_value base text
    → (text ≡ digits base false n → ⊥) → spelled_in base most text ≡ None
unfolding spelled_in
other base most n text is differs =
    not_second _ _ (digits_value base text) (unlike _ _ (λ same. differs (same ∙ ap (digits base false) (sym is))))

-- a value that passes a bound with its next digit passes it as a whole
pub passes_on : (base n bound i : ℕ) (text : List ℕ) → 1 ≤ base → i < length text
    → bound ≤ n * base + digit_value (get_or text i 0) → bound ≤ digits_value_after base n (drop i text)
passes_on base n bound i text some there high =
    let grows = value_grows base (n * base + digit_value (get_or text i 0)) (drop (suc i) text) some in
    rw (drop-cons text i 0 there) (omega (arith, high, grows))
