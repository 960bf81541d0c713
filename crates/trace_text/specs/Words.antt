-- The words of a line, and the fields that they spell. A place in a line is the offset of a byte,
-- from 0; reading goes from word to word, each time from the end of the word before.
use Rattle.std.specs.Prelude.{ℕ, ◌+◌, ◌==◌, nat_eq, if◌then◌else◌, List, [], ◌∷◌, length, drop}
use Rattle.std.specs.Prelude.{Option, Some, None, Result, Ok, Err}
use Rattle.std.specs.List.{starts_with}

infixl 10 ◌>>=◌
-- what follows, where the first went well
abbrev pub ◌>>=◌ : {A B : Type 0} → Result A ℕ → (A → Result B ℕ) → Result B ℕ
Ok value >>= next = next value
Err place >>= next = Err place

-- the bytes before the first `stop`, or all of them where there is none
abbrev pub until : ℕ → List ℕ → List ℕ
until stop [] = []
until stop (byte ∷ bytes) = if byte == stop then [] else byte ∷ until stop bytes

-- the bytes behind the first `stop`
abbrev pub behind : ℕ → List ℕ → List ℕ
behind stop bytes = drop (length (until stop bytes) + 1) bytes

-- the word that begins at a place: the bytes up to the next space
abbrev pub word_from : ℕ → List ℕ → List ℕ
word_from start line = until 32 (drop start line)

-- what stands in a word behind the name of a field, with the word's end; else the word's place
abbrev pub behind_name : List ℕ → List ℕ → ℕ → Result (List ℕ × ℕ) ℕ
behind_name name word start =
    if starts_with nat_eq word name then Ok (drop (length name) word, start + length word) else Err start

-- the text of the field of this name in the word that follows the place `at`, and where the word
-- ends; else the word's place, or that of the line's end where no word follows
unfoldable pub named_word : List ℕ → List ℕ → ℕ → Result (List ℕ × ℕ) ℕ
named_word name line at =
    if at == length line then Err at else behind_name name (word_from (at + 1) line) (at + 1)

-- a value with the place at which its word ends; else the word's place
abbrev pub value_or : {A : Type 0} → ℕ → Option A → ℕ → Result (A × ℕ) ℕ
value_or start (Some value) end = Ok (value, end)
value_or start None end = Err start

-- the value of the field of this name in the word that follows, read by `read` from its text, and
-- where the word ends; else the place of the word that doesn't spell it
abbrev pub field : {A : Type 0} → List ℕ → (List ℕ → Option A) → List ℕ → ℕ → Result (A × ℕ) ℕ
field name read line at = named_word name line at >>= λ text. value_or (at + 1) (read text.0) text.1

-- the line ends here; else the place of the word too many
abbrev pub ended : List ℕ → ℕ → Result (Unit {0}) ℕ
ended line at = if at == length line then Ok tt else Err (at + 1)
