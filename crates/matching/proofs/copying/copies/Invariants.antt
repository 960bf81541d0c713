use Rattle.std.proofs.Common.{◌≡◌, ℕ, ◌<◌, length, slice_index_or}
use Rattle.matching.specs.declared.hart_table.HartTable.{HartTable}
use Rattle.matching.specs.Tables.{table_of}
use Rattle.matching.proofs.copying.copies.Given as goal

abbrev pub invariant-loop-number : goal.invariant-loop-number
invariant-loop-number l =
    (length l.made.items ≡ l.number)
    × ((h : ℕ) (other : HartTable) → h < l.number
    → table_of (slice_index_or l.made.items h other) ≡ table_of (slice_index_or l.harts h other))
