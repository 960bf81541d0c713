-- Numbers of one to eight bytes in a list of bytes at their offsets, the lowest byte first. The offset comes first.
use Rattle.std.specs.Prelude.{ℕ, List, take, drop, slice_index}
use Rattle.std.specs.Int.{w16, w32, w64, from_le_bytes}

-- the byte at an offset
abbrev pub u8_at : ℕ → List ℕ → ℕ
u8_at offset bytes = slice_index bytes offset

-- the number of two bytes from an offset on
abbrev pub u16_at : ℕ → List ℕ → ℕ
u16_at offset bytes = from_le_bytes w16 (take 2 (drop offset bytes))

-- the number of four bytes from an offset on
abbrev pub u32_at : ℕ → List ℕ → ℕ
u32_at offset bytes = from_le_bytes w32 (take 4 (drop offset bytes))

-- the number of eight bytes from an offset on
abbrev pub u64_at : ℕ → List ℕ → ℕ
u64_at offset bytes = from_le_bytes w64 (take 8 (drop offset bytes))
