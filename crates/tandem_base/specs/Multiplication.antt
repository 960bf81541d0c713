-- The high halves of products (Unprivileged ISA 20191213, section 7.1).
use Rattle.std.specs.Prelude.{ℕ, ◌*◌, ◌/◌, ◌%◌, ◌^◌}
use Rattle.tandem_base.specs.Signs.{widened}

-- the upper 64 bits of a product of two numbers of 128 bits, modulo 2 ^ 128
abbrev pub high_of : ℕ → ℕ → ℕ
high_of a b = a * b % 2 ^ 128 / 2 ^ 64

-- MULHU: both without a sign
abbrev pub mulhu_of : ℕ → ℕ → ℕ
mulhu_of a b = high_of a b

-- MULH: both with a sign
abbrev pub mulh_of : ℕ → ℕ → ℕ
mulh_of a b = high_of (widened 64 128 a) (widened 64 128 b)

-- MULHSU: the first with a sign, the second without
abbrev pub mulhsu_of : ℕ → ℕ → ℕ
mulhsu_of a b = high_of (widened 64 128 a) b
