-- The bytes that a message tells, at their addresses.
use Rattle.std.specs.Prelude.{ℕ, ◌-◌, ◌==◌, Bool, Option, Some, None, length, slice_index, if◌then◌else◌}
use Rattle.std.specs.Int.{bit_at}
use Rattle.tandem_base.specs.Extents.{is_among}
use Rattle.msg_frames.specs.declared.message.Piece.{Piece}
use Rattle.msg_frames.specs.declared.message.LineWrite.{LineWrite}

-- x is the address of one of the bytes
abbrev pub has : Piece → ℕ → Bool
has piece x = is_among piece.addr (length piece.bytes) x

-- the byte at x, none where it isn't one of them
abbrev pub byte_in : Piece → ℕ → Option ℕ
byte_in piece x = if has piece x then Some (slice_index piece.bytes (x - piece.addr)) else None

-- the byte that a Write tells at x of its line, none where the mask has none
abbrev pub byte_written : LineWrite → ℕ → Option ℕ
byte_written write x =
    if bit_at write.mask (x - write.line) == 1 then Some (slice_index write.bytes (x - write.line)) else None
