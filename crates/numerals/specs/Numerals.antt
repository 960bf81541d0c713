-- How numbers are spelled, and the number that a text spells.
use Rattle.std.specs.Prelude.{ℕ, ◌&&◌, List, ◌++◌, drop, false, nat_eq, nat_le, codes, Option, Some, None}
use Rattle.std.specs.Prelude.{if◌then◌else◌}
use Rattle.std.specs.Fmt.{decimal, digits}
use Rattle.std.specs.Cmp.Lexicographic.{pointwise}
use Rattle.std.specs.List.{starts_with}
use Rattle.std.specs.Str.Parse.{digits_value}

-- `0x`, and the number in base 16 with lower-case digits and no leading zeros
abbrev pub hexadecimal : ℕ → List ℕ
hexadecimal n = codes "0x" ++ digits 16 false n

-- the number in decimal, or `-` for none
abbrev pub decimal_or_dash : Option ℕ → List ℕ
decimal_or_dash None = codes "-"
decimal_or_dash (Some n) = decimal n

-- the number of at most `most` whose digits in the base, without leading zeros, the text is
unfoldable pub spelled_in : ℕ → ℕ → List ℕ → Option ℕ
spelled_in base most text =
    if nat_le (digits_value base text) most && pointwise nat_eq text (digits base false (digits_value base text))
    then Some (digits_value base text) else None

-- the number of at most `most` that the text spells in decimal
abbrev pub decimal_in : ℕ → List ℕ → Option ℕ
decimal_in most text = spelled_in 10 most text

-- the number of at most `most` that the text spells in hexadecimal
abbrev pub hexadecimal_in : ℕ → List ℕ → Option ℕ
hexadecimal_in most text =
    if starts_with nat_eq text (codes "0x") then spelled_in 16 most (drop 2 text) else None
