-- The numbers that words spell.
use Rattle.std.specs.Prelude.{ℕ, ◌^◌, Bool, ◌&&◌, List, length, drop, nat_eq, nat_lt, nat_le, codes, Option}
use Rattle.std.specs.Prelude.{None, Some, if◌then◌else◌}
use Rattle.std.specs.Char.{digit_value}
use Rattle.std.specs.List.{list_all, starts_with}
use Rattle.std.specs.Str.Parse.{digits_value}

-- every byte is a digit of the base
abbrev pub all_digits : ℕ → List ℕ → Bool
all_digits base word = list_all (λ c. nat_lt (digit_value c) base) word

-- the number below 2 ^ 64 that digits of the base spell, of which there is at least one
abbrev pub numeral_of : ℕ → List ℕ → Option ℕ
numeral_of base word =
    if nat_lt 0 (length word) && all_digits base word && nat_lt (digits_value base word) (2 ^ 64)
    then Some (digits_value base word) else None

-- the number that one to sixteen digits of base 16 spell
abbrev pub hexadecimal_of : List ℕ → Option ℕ
hexadecimal_of digits = if nat_le (length digits) 16 then numeral_of 16 digits else None

-- the number that a word spells: decimal digits, or `0x` and digits of base 16
unfoldable pub number_spelled : List ℕ → Option ℕ
number_spelled word = if starts_with nat_eq word (codes "0x") then hexadecimal_of (drop 2 word) else numeral_of 10 word
