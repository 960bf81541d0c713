use Rattle.std.proofs.Common.{◌≡◌, ℕ, ◌<◌, length, slice_index_or, []}
use Rattle.elf_image.specs.Images.{loaded_of}
use Rattle.matching.specs.declared.hart_table.HartTable.{HartTable}
use Rattle.matching.specs.Tables.{table_of, table_at}
use Rattle.matching.proofs.hart_table.starts.Given as goal

abbrev pub invariant-loop-number : goal.invariant-loop-number
invariant-loop-number l =
    (length l.harts.items ≡ l.number)
    × ((h : ℕ) (other : HartTable) → h < l.number
    → table_of (slice_index_or l.harts.items h other) ≡ table_at (loaded_of l.image) [] h)
