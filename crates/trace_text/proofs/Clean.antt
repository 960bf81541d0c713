-- Which bytes stand in words, and how a text is cut at a byte that it lacks.
use Rattle.std.proofs.Common.{◌≡◌, ℕ, suc, zero, ◌+◌, ◌/◌, ◌%◌, ◌^◌, ◌<◌, ◌≤◌, Bool, true, false, List, [], ◌∷◌}
use Rattle.std.proofs.Common.{◌++◌, length, drop, take, get_or, refl, sym, ap, ◌∙◌, arith, nat_le, nat_eq}
use Rattle.std.proofs.Common.{if◌then◌else◌, ◌⊎◌, inl, inr}
use Rattle.std.proofs.Common.{append-nil}
use Rattle.std.proofs.Math.ListN.{drop_of_length-le}
use Rattle.std.proofs.Math.Seq.{take-append_seam}
use Rattle.std.proofs.lemmas.Bool.{ne_eqb, eqb-true}
use Rattle.std.proofs.lemmas.Bool.Decides.{nat_tests}
use Rattle.std.proofs.lemmas.Fmt.{digits_is_IsNumeral}
use Rattle.std.specs.Char.{digit_value}
use Rattle.std.specs.Fmt.{decimal, digits}
use Rattle.std.specs.Str.Parse.{AllDigits}
use Rattle.hex.specs.Hex.{lower_digits, encode_with, encode_lower, IsBytes}
use Rattle.numerals.specs.Numerals.{hexadecimal}
use Rattle.trace_text.specs.Words.{until, behind}

-- every byte is a comma or above, so that none is a space or a newline
abbrev pub Clean : List ℕ → Type 0
Clean [] = Unit {0}
Clean (byte ∷ bytes) = (44 ≤ byte) × Clean bytes

-- no byte is this one
abbrev pub Lacks : ℕ → List ℕ → Type 0
Lacks stop [] = Unit {0}
Lacks stop (byte ∷ bytes) = (byte ≡ stop → ⊥) × Lacks stop bytes

-- a text that is written out is tested by computing
abbrev pub clean_test : List ℕ → Bool
clean_test [] = true
clean_test (byte ∷ bytes) = if nat_le 44 byte then clean_test bytes else false

pub clean_by : (xs : List ℕ) → clean_test xs ≡ true → Clean xs
clean_by [] e = tt
clean_by (x ∷ xs) e = decide (clean_by xs) (nat_le 44 x) refl e
  where
    decide : (clean_test xs ≡ true → Clean xs) → (b : Bool) → nat_le 44 x ≡ b
        → (if b then clean_test xs else false) ≡ true → Clean (x ∷ xs)
    decide later true p h = (grind (arith, nat_tests), later h)
    decide later false p h = cc

pub clean_append : (xs ys : List ℕ) → Clean xs → Clean ys → Clean (xs ++ ys)
clean_append [] ys p q = q
clean_append (x ∷ xs) ys p q = (p.0, clean_append xs ys p.1 q)

pub lacks_append : (stop : ℕ) (xs ys : List ℕ) → Lacks stop xs → Lacks stop ys → Lacks stop (xs ++ ys)
lacks_append stop [] ys p q = q
lacks_append stop (x ∷ xs) ys p q = (p.0, lacks_append stop xs ys p.1 q)

-- a clean text lacks all bytes below the comma
pub clean_lacks : (stop : ℕ) (xs : List ℕ) → stop < 44 → Clean xs → Lacks stop xs
clean_lacks stop [] low p = tt
clean_lacks stop (x ∷ xs) low p = ((λ same. omega (arith, p.0, same)), clean_lacks stop xs low p.1)

-- ---- cutting

pub until_whole : (stop : ℕ) (xs : List ℕ) → Lacks stop xs → until stop xs ≡ xs
until_whole stop [] p = refl
until_whole stop (x ∷ xs) p =
    ap (λ (b : Bool). if b then [] else x ∷ until stop xs) (ne_eqb x stop p.0)
    ∙ ap (λ l. x ∷ l) (until_whole stop xs p.1)

pub until_front : (stop : ℕ) (xs ys : List ℕ) → Lacks stop xs → until stop (xs ++ (stop ∷ ys)) ≡ xs
until_front stop [] ys p = ap (λ (b : Bool). if b then [] else stop ∷ until stop ys) (nat_eq_same stop)
  where
    nat_eq_same : (n : ℕ) → nat_eq n n ≡ true
    nat_eq_same n = grind (arith, nat_tests)
until_front stop (x ∷ xs) ys p =
    ap (λ (b : Bool). if b then [] else x ∷ until stop (xs ++ (stop ∷ ys))) (ne_eqb x stop p.0)
    ∙ ap (λ l. x ∷ l) (until_front stop xs ys p.1)

pub behind_front : (stop : ℕ) (xs ys : List ℕ) → Lacks stop xs → behind stop (xs ++ (stop ∷ ys)) ≡ ys
behind_front stop xs ys p = ap (λ l. drop (length l + 1) (xs ++ (stop ∷ ys))) (until_front stop xs ys p) ∙ dropped xs
  where
    dropped : (zs : List ℕ) → drop (length zs + 1) (zs ++ (stop ∷ ys)) ≡ ys
    dropped [] = refl
    dropped (z ∷ zs) = let e : suc (length zs) + 1 ≡ suc (length zs + 1) = omega arith in rw e (dropped zs)

-- what is cut off is empty or begins with the stop
abbrev pub Breaks : ℕ → List ℕ → Type 0
Breaks stop rest = (rest ≡ []) ⊎ ((more : List ℕ) × (rest ≡ stop ∷ more))

pub breaks_at : (stop : ℕ) (text : List ℕ) → Breaks stop (drop (length (until stop text)) text)
breaks_at stop [] = inl refl
breaks_at stop (x ∷ xs) = decide (breaks_at stop xs) (nat_eq x stop) refl
  where
    decide : Breaks stop (drop (length (until stop xs)) xs) → (b : Bool) → nat_eq x stop ≡ b
        → Breaks stop (drop (length (if b then [] else x ∷ until stop xs)) (x ∷ xs))
    decide later true e = inr (xs, ap (λ n. n ∷ xs) (eqb-true x stop e))
    decide later false e = later

-- the front and the rest are the text
pub until_and_rest : (stop : ℕ) (text : List ℕ) → until stop text ++ drop (length (until stop text)) text ≡ text
until_and_rest stop [] = refl
until_and_rest stop (x ∷ xs) = decide (until_and_rest stop xs) (nat_eq x stop)
  where
    decide : until stop xs ++ drop (length (until stop xs)) xs ≡ xs → (b : Bool) → (if b then [] else x ∷ until stop xs)
        ++ drop (length (if b then [] else x ∷ until stop xs)) (x ∷ xs) ≡ x ∷ xs
    decide later true = refl
    decide later false = ap (λ l. x ∷ l) later

-- ---- digits

digit_clean : (base c : ℕ) → base ≤ 36 → digit_value c < base → 48 ≤ c
digit_clean base c low h = grind (arith, nat_tests)

digits_clean_by : (base : ℕ) (ds : List ℕ) → base ≤ 36 → AllDigits base ds → Clean ds
digits_clean_by base [] low h = tt
digits_clean_by base (d ∷ ds) low h = (omega (arith, digit_clean base d low h.0), digits_clean_by base ds low h.1)

digits_lack_by : (base stop : ℕ) (ds : List ℕ) → base ≤ digit_value stop → AllDigits base ds → Lacks stop ds
digits_lack_by base stop [] low h = tt
digits_lack_by base stop (d ∷ ds) low h =
    ((λ same. omega (arith, low, h.0, ap digit_value same)), digits_lack_by base stop ds low h.1)

pub decimal_clean : (n : ℕ) → n < 2 ^ 64 → Clean (decimal n)
decimal_clean n small =
    digits_clean_by 10 (decimal n) (omega arith) (digits_is_IsNumeral 10 false (omega arith) (omega arith) n
    (omega arith)).0.1

pub hexadecimal_clean : (n : ℕ) → n < 2 ^ 64 → Clean (hexadecimal n)
hexadecimal_clean n small = (
  omega arith,
  (
    omega arith,
    digits_clean_by 16 (digits 16 false n) (omega arith)
        (digits_is_IsNumeral 16 false (omega arith) (omega arith) n (omega arith)).0.1,
  ),
)

-- no digit is a stop that has no worth
pub decimal_lacks : (stop n : ℕ) → n < 2 ^ 64 → digit_value stop ≡ 36 → Lacks stop (decimal n)
decimal_lacks stop n small none =
    digits_lack_by 10 stop (decimal n) (omega (arith, none))
    (digits_is_IsNumeral 10 false (omega arith) (omega arith) n (omega arith)).0.1

pub hexadecimal_lacks : (stop n : ℕ) → n < 2 ^ 64 → digit_value stop ≡ 36 → Lacks stop (hexadecimal n)
hexadecimal_lacks stop n small none = (
  other 48 (omega arith),
  (
    other 120 (omega arith),
    digits_lack_by 16 stop (digits 16 false n) (omega (arith, none))
        (digits_is_IsNumeral 16 false (omega arith) (omega arith) n (omega arith)).0.1,
  ),
)
  where
    other : (c : ℕ) → digit_value c < 36 → c ≡ stop → ⊥
    other c worth same = omega (arith, none, worth, ap digit_value same)

-- ---- bytes in digits

clean_index : (xs : List ℕ) (k : ℕ) → Clean xs → k < length xs → 44 ≤ get_or xs k 0
clean_index [] k p small = absurd (omega arith)
clean_index (x ∷ xs) zero p small = p.0
clean_index (x ∷ xs) (suc k) p small = clean_index xs k p.1 (omega arith)

table_clean : Clean lower_digits
table_clean = clean_by lower_digits refl

pub bytes_clean : (bytes : List ℕ) → IsBytes bytes → Clean (encode_lower bytes)
unfolding encode_with
bytes_clean [] fits = tt
bytes_clean (b ∷ bytes) fits =
    let small : b < 256 = fits 0 in (
      clean_index lower_digits (b / 16) table_clean (omega arith),
      (
        clean_index lower_digits (b % 16) table_clean
            (omega arith),
        bytes_clean bytes (λ k. fits (suc k)),
      ),
    )

-- ---- parts of a text

-- the bytes before the first stop, taken from the front
pub until_taken : (stop n : ℕ) (text : List ℕ) → n ≡ length (until stop text) → take n text ≡ until stop text
until_taken stop n text e =
    ap (λ k. take k text) e
    ∙ ap (take (length (until stop text))) (sym (until_and_rest stop text))
    ∙ take-append_seam (until stop text) (drop (length (until stop text)) text)

-- where the stop is nowhere, they are the text
pub until_all : (stop : ℕ) (text : List ℕ) → length (until stop text) ≡ length text → until stop text ≡ text
until_all stop text whole =
    sym (append-nil (until stop text))
    ∙ ap (λ l. until stop text ++ l) (sym (drop_of_length-le text {i = length (until stop text)}
    (omega (arith, whole))))
    ∙ until_and_rest stop text
