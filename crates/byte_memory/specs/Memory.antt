-- What memory keeps of each byte that was stored to.
use Rattle.std.specs.Prelude.{ℕ, ◌≡◌, ◌+◌, ◌-◌, ◌/◌, ◌%◌, nat_le, nat_lt, ◌&&◌, List, ◌==◌, Bool, Option, None}
use Rattle.std.specs.Prelude.{Some, is_some, length, slice_get, slice_index, slice_index_or}
use Rattle.std.specs.Prelude.{if◌then◌else◌}
use Rattle.msg_frames.specs.declared.message.Piece.{Piece}
use Rattle.elf_image.specs.Images.{Loaded, initial_byte}
use Rattle.tandem_base.specs.Extents.{is_among}
use Rattle.byte_memory.specs.declared.writer.Cell.{Cell}
use Rattle.byte_memory.specs.declared.writer.Writer.{Writer}
use Rattle.byte_memory.specs.declared.line.Line.{Line}
use Rattle.byte_memory.specs.declared.memory.Memory.{Memory}
use Rattle.std.specs.Option.{option_and_then}
use Rattle.key_tree.specs.Entries.{number_at}

-- a byte that was stored to: its value, its last writer, and the last writer of another hart than that one
pub record Written : Type 0 where
  pub value : ℕ
  pub last : Writer
  pub other : Option Writer

-- the last writer of a byte that is of another hart than this one
abbrev pub foreign_writer : ℕ → Option Written → Option Writer
foreign_writer hart None = None
foreign_writer hart (Some was) = if was.last.hart == hart then was.other else Some was.last

-- a byte after one more store to it
abbrev pub overwritten : Option Written → Writer → ℕ → Written
overwritten was writer value =
    record { value = value; last = writer; other = foreign_writer writer.hart was }

-- what is kept of the byte at x after a store of the bytes of a piece from byte `first` up to byte `past`
abbrev pub after_part : Piece → ℕ → ℕ → Writer → ℕ → Option Written → Option Written
after_part piece first past writer x was =
    if is_among (piece.addr + first) (past - first) x
    then Some (overwritten was writer (slice_index piece.bytes (x - piece.addr)))
    else was

-- what is kept of the byte at x after a store of a piece
abbrev pub after_store : Piece → Writer → ℕ → Option Written → Option Written
after_store piece writer x was =
    if is_among piece.addr (length piece.bytes) x
    then Some (overwritten was writer (slice_index piece.bytes (x - piece.addr)))
    else was

-- byte k of a line with this last writer
abbrev pub written_by : Line → ℕ → Option Writer → Option Written
written_by line k None = None
written_by line k (Some last) =
    Some (record { value = slice_index line.values k; last = last; other = slice_index_or line.other k None })

-- byte k of a line, None where it was never stored to
abbrev pub written_in : Line → ℕ → Option Written
written_in line k = written_by line k (slice_index_or line.last k None)

-- the line of a number, None where it isn't ready
abbrev pub held_line : Memory → ℕ → Option Line
held_line memory line = option_and_then (λ i. slice_get memory.lines.items i) (number_at memory.index line)

-- the line of the byte at x, None where it isn't ready
abbrev pub line_at : Memory → ℕ → Option Line
line_at memory x = held_line memory (x / 64)

-- the line of the byte at x may be stored to
abbrev pub is_ready : Memory → ℕ → Bool
is_ready memory x = is_some (line_at memory x)

-- the byte at x of a line that may be ready, None where it was never stored to
abbrev pub written_on : Option Line → ℕ → Option Written
written_on line x = option_and_then (λ l. written_in l (x % 64)) line

-- what memory keeps of the byte at x, None where it was never stored to
abbrev pub written_at : Memory → ℕ → Option Written
written_at memory x = written_on (line_at memory x) x

-- the cell of a byte with this initial value
abbrev pub cell_over : ℕ → Option Written → Cell
cell_over initial None = record { value = initial; last = None; other = None }
cell_over initial (Some was) = record { value = was.value; last = Some was.last; other = was.other }

-- the cell of the byte at x
abbrev pub cell_at : Memory → Loaded → ℕ → Cell
cell_at memory image x = cell_over (initial_byte image x) (written_at memory x)

-- the value of a byte with this last writer: its initial value where it has none
abbrev pub value_over : ℕ → Option Writer → ℕ → ℕ
value_over initial None value = initial
value_over initial (Some last) value = value

-- the last writer of another hart than the last one's
abbrev pub other_writer : Option Written → Option Writer
other_writer None = None
other_writer (Some was) = was.other
