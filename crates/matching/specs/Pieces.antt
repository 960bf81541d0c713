-- Bytes of memory, and the lines of 64 bytes that hold them.
use Rattle.std.specs.Prelude.{ℕ, ◌+◌, ◌*◌, ◌/◌, nat_eq, not}
use Rattle.std.specs.declared.option.Option.{Option}
use Rattle.std.specs.Option.{option_eq}
use Rattle.matching.specs.Searches.{first_below}

-- the first address of the line of x
abbrev pub line_start : ℕ → ℕ
line_start x = x / 64 * 64

-- how far behind an address is the first of n bytes that differs
abbrev pub first_other : (want got : ℕ → Option ℕ) → ℕ → ℕ → Option ℕ
first_other want got base n = first_below (λ k. not (option_eq nat_eq (want (base + k)) (got (base + k)))) n
