-- The digits of a number in base 16, spelled from the last to the first.
use Rattle.std.proofs.Common.{◌≡◌, ℕ, zero, suc, ◌+◌, ◌-◌, ◌/◌, ◌%◌, ◌^◌, ◌<◌, ◌≤◌, Bool, true, false, cond}
use Rattle.std.proofs.Common.{List, ◌∷◌, length, drop, slice_set, refl, sym, ap, ◌∙◌, arith, eq-eqb, eqb}
use Rattle.std.proofs.Math.ListN.{drop_of_length-le}
use Rattle.std.proofs.lemmas.List.{drop-set}
use Rattle.std.proofs.lemmas.Bool.{ne_eqb}
use Rattle.std.proofs.Math.Nat.{pow-suc, div-lt_iff_lt-mul}
use Rattle.std.specs.Fmt.{digits, digits_onto, digit_glyph}

-- the digits that are still to come, in front of those that are there
unfoldable pub onto : ℕ → ℕ → List ℕ → List ℕ
onto start rest there = digits_onto (start + 48) 16 false rest there

-- no digit is spelled yet
pub onto_none : (n : ℕ) (held : List ℕ) → length held ≡ 16 → onto 16 n (drop 16 held) ≡ digits 16 false n
unfolding onto digits
onto_none n held sized = ap (digits_onto 64 16 false n) (drop_of_length-le held {i = 16} (omega arith))

-- one digit more, or the first
by_test : (k rest : ℕ) (there : List ℕ) (test : Bool) → eqb (rest / 16) 0 ≡ test
    → digits_onto (suc k) 16 false rest there
    ≡ cond test (digit_glyph false (rest % 16) ∷ there) (digits_onto k 16 false (rest / 16)
    (digit_glyph false (rest % 16) ∷ there))
by_test k rest there test e =
    ap (λ (b : Bool). cond b (digit_glyph false (rest % 16) ∷ there) (digits_onto k 16 false (rest / 16)
    (digit_glyph false (rest % 16) ∷ there))) e

-- the digit that is put before the others
put_before : (start digit glyph : ℕ) (held : List ℕ) → 0 < start → start ≤ length held → digit ≡ glyph
    → drop (start - 1) (slice_set held (start - 1) digit) ≡ glyph ∷ drop start held
put_before zero digit glyph held low high is = absurd (omega arith)
put_before (suc j) digit glyph held low high is =
    let e : suc j - 1 ≡ j = omega arith in
    let f : j + 1 ≡ suc j = omega arith in
    let small : j < length held = omega arith in
    rw (e, drop-set held j digit small, f, is) refl

-- the first digit
pub onto_last : (start rest digit : ℕ) (held : List ℕ) → 0 < start → start ≤ length held → rest / 16 ≡ 0
    → digit ≡ digit_glyph false (rest % 16) → drop (start - 1) (slice_set held (start - 1) digit) ≡ onto start rest
    (drop start held)
unfolding onto
onto_last start rest digit held low high none is =
    let e : start + 48 ≡ suc (start + 47) = omega arith in
    put_before start digit _ held low high is
    ∙ sym (ap (λ k. digits_onto k 16 false rest (drop start held)) e
    ∙ by_test (start + 47) rest (drop start held) true (eq-eqb _ 0 none))

-- a digit that others precede
pub onto_step : (start rest digit : ℕ) (held : List ℕ) → 0 < start → start ≤ length held → (rest / 16 ≡ 0 → ⊥)
    → digit ≡ digit_glyph false (rest % 16)
    → onto (start - 1) (rest / 16) (drop (start - 1) (slice_set held (start - 1) digit)) ≡ onto start rest
    (drop start held)
unfolding onto
onto_step start rest digit held low high more is =
    let e : start + 48 ≡ suc (start - 1 + 48) = omega arith in
    ap (digits_onto (start - 1 + 48) 16 false (rest / 16)) (put_before start digit _ held low high is)
    ∙ sym (ap (λ k. digits_onto k 16 false rest (drop start held)) e
    ∙ by_test (start - 1 + 48) rest (drop start held) false (ne_eqb _ 0 more))

-- the number that is left has as many digits as there is room for
pub rest_small : (start rest : ℕ) → 0 < start → rest < 16 ^ start → rest / 16 < 16 ^ (start - 1)
rest_small zero rest low small = absurd (omega arith)
rest_small (suc k) rest low small =
    let e : suc k - 1 ≡ k = omega arith in
    rw e ((div-lt_iff_lt-mul {k = 16} {x = rest} {y = 16 ^ k} (omega arith)).1 (rw (pow-suc 16 k) at small))

-- where the number isn't spelled whole, there is room for more
pub room_left : (start rest : ℕ) → 0 < start → rest < 16 ^ start → (rest / 16 ≡ 0 → ⊥) → 0 < start - 1
room_left zero rest low small more = absurd (omega arith)
room_left (suc zero) rest low small more = absurd (more (omega arith))
room_left (suc (suc k)) rest low small more = omega arith
