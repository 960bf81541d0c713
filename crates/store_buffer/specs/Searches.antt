-- The lowest number that passes a test.
use Rattle.std.specs.Prelude.{ℕ, zero, suc, Bool, Option, Some, None, if◌then◌else◌}
use Rattle.tandem_base.specs.FirstFault.{◌or_else◌}

-- the lowest of the numbers below n that passes
abbrev pub lowest_below : (ℕ → Bool) → ℕ → Option ℕ
lowest_below p zero = None
lowest_below p (suc n) = lowest_below p n or_else (if p n then Some n else None)
