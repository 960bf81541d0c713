-- Numbers with a sign, as the whole numbers below 2 ^ width that stand for them in two's complement
-- (Unprivileged ISA 20191213, chapter 2). The width comes first.
use Rattle.std.specs.Prelude.{ℕ, ◌+◌, ◌-◌, ◌%◌, ◌^◌, ℤ, pos, neg_ℤ, Bool, nat_le, if◌then◌else◌}

-- it stands for a number below 0: its highest bit is set
abbrev pub is_negative : ℕ → ℕ → Bool
is_negative width a = nat_le (2 ^ (width - 1)) a

-- the number that it stands for
abbrev pub represents : ℕ → ℕ → ℤ
represents width a = if is_negative width a then neg_ℤ (pos (2 ^ width - a)) else pos a

-- how far that number is from 0
abbrev pub magnitude : ℕ → ℕ → ℕ
magnitude width a = if is_negative width a then 2 ^ width - a else a

-- what stands for n, or for its negative
abbrev pub with_sign : ℕ → Bool → ℕ → ℕ
with_sign width minus n = if minus then (2 ^ width - n) % 2 ^ width else n

-- what stands for the same number in more bits
abbrev pub widened : ℕ → ℕ → ℕ → ℕ
widened width wider a = if is_negative width a then a + (2 ^ wider - 2 ^ width) else a

-- the low `width` bits of a value, sign-extended to 64 bits
abbrev pub sign_extended : ℕ → ℕ → ℕ
sign_extended width value = widened width 64 (value % 2 ^ width)
