-- What a table of kept operations stands for.
use Rattle.std.specs.Prelude.{ℕ, ◌≡◌, ◌==◌, Bool, List, ◌∷◌, ◌++◌, ◌/◌, ◌%◌, [], length, Option, Some, is_some}
use Rattle.std.specs.Prelude.{cond, count_by, All, slice_index_or, if◌then◌else◌}
use Rattle.slab.specs.Slab.{Slab, get, slab_len}
use Rattle.tandem_base.specs.declared.names.Position.{Position}
use Rattle.tandem_base.specs.declared.room.Took.{Took}
use Rattle.tandem_base.specs.declared.room.Took.TheVariants.{Yes, Full}
use Rattle.kept_ops.specs.declared.arrivals.Arrival.{Arrival}
use Rattle.kept_ops.specs.declared.operation.KeptOp.{KeptOp}
use Rattle.kept_ops.specs.Arrivals.{stays}
use Rattle.kept_ops.specs.Marks.{AreLatest, ByteMarks, no_marks, marks_with}

-- the operations that are kept; the doublewords that have a mark, by their numbers, each with the marks of its bytes;
-- and how many operations there may be
pub record KeptTable : Type 0 where
  pub ops : List KeptOp
  pub words : List (ℕ × List ByteMarks)
  pub capacity : ℕ

-- the marks beside the number of a doubleword
abbrev pub bytes_beside : List (ℕ × List ByteMarks) → ℕ → List ByteMarks
bytes_beside [] number = []
bytes_beside (w ∷ ws) number = if w.0 == number then w.1 else bytes_beside ws number

-- the marks of the byte at x
abbrev pub marks_at : KeptTable → ℕ → ByteMarks
marks_at table x = slice_index_or (bytes_beside table.words (x / 8)) (x % 8) no_marks

-- of the byte at x the table knows the latest store that is kept; and the latest load, and the latest one with another
-- source than that, of those kept since a store to the byte retired
abbrev pub KnowsLatest : KeptTable → ℕ → List KeptOp → Type 0
KnowsLatest table x since = AreLatest x table.ops since (marks_at table x)

-- an operation was performed after the oldest place that still matters; none was where there is no such place
abbrev pub op_stays : Option Position → KeptOp → Bool
op_stays oldest o = stays oldest o.place

-- the new list has one operation more, at some place, and is else the old one
pub record IsWith (o : KeptOp) (old new : List KeptOp) : Type 0 where
  pub front : List KeptOp
  pub back : List KeptOp
  pub was : old ≡ front ++ back
  pub is : new ≡ front ++ o ∷ back

-- a table after this answer to one operation more: it has it, or is as it was
abbrev pub IsAfterKeep : Took → KeptOp → List KeptOp → List KeptOp → Type 0
IsAfterKeep Yes o old new = IsWith o old new
IsAfterKeep (Full n) o old new = new ≡ old

-- the marks of the byte at x after this answer
abbrev pub marks_after_keep : Took → ℕ → KeptOp → ByteMarks → ByteMarks
marks_after_keep Yes x o marks = marks_with x o marks
marks_after_keep (Full n) x o marks = marks

-- each operation that is kept has its place and key among these, once, and nothing else is there
pub record AreArrived (ops : Slab KeptOp) (arrivals : List Arrival) : Type 0 where
  pub counted : (key : ℕ) → count_by (λ a. a.key == key) arrivals ≡ cond (is_some (get ops key)) 1 0
  pub placed : All (λ a. (o : KeptOp) → get ops a.key ≡ Some o → o.place ≡ a.place) arrivals
  pub as_many : length arrivals ≡ slab_len ops
