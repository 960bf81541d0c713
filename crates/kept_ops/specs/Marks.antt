-- Which operations were the last at a byte.
use Rattle.std.specs.Prelude.{ℕ, ◌≡◌, ◌&&◌, not, Bool, true, false, List, [], Option, None, Some, if◌then◌else◌}
use Rattle.std.specs.List.{Contains}
use Rattle.tandem_base.specs.declared.names.Origin.{Origin}
use Rattle.tandem_base.specs.declared.names.Position.{Position}
use Rattle.tandem_base.specs.Places.{comes_before}
use Rattle.rvwmo_model.specs.Tests.{same_origin}
use Rattle.tandem_base.specs.declared.extent.Extent.{Extent}
use Rattle.tandem_base.specs.Extents.{is_among}
use Rattle.kept_ops.specs.declared.operation.KeptOp.{KeptOp}
use Rattle.kept_ops.specs.Arrivals.{stays}
use Rattle.kept_ops.specs.Operations.{came_after, loads_at, stores_at, source_at}

-- the marks of a byte: the latest store to it; the latest load of it that no later store to it follows in program
-- order; and the latest such load with another source than that one
pub record ByteMarks : Type 0 where
  pub store : Option KeptOp
  pub load : Option KeptOp
  pub other : Option KeptOp

-- a byte without marks
abbrev pub no_marks : ByteMarks
no_marks = record { store = None; load = None; other = None }

-- the later of two operations
abbrev pub later_op : Option KeptOp → KeptOp → Option KeptOp
later_op None o = Some o
later_op (Some m) o = if comes_before m.place o.place then Some o else Some m

-- the latest load of byte x with another source than the latest load of it, after one load more
abbrev pub other_with : ℕ → KeptOp → Option KeptOp → Option KeptOp → Option KeptOp
other_with x o None other = other
other_with x o (Some last) other =
    if same_origin (source_at x last) (source_at x o) then other
    else (if comes_before last.place o.place then Some last else later_op other o)

-- the marks of byte x after one operation more
abbrev pub marks_with : ℕ → KeptOp → ByteMarks → ByteMarks
marks_with x o marks = record {
  store = if stores_at x o then later_op marks.store o else marks.store;
  load = if loads_at x o then later_op marks.load o else marks.load;
  other = if loads_at x o then other_with x o marks.load marks.other else marks.other;
}

-- an operation, where it was performed after a place
abbrev pub over : Position → Option KeptOp → Option KeptOp
over place None = None
over place (Some o) = if came_after place o then Some o else None

-- an operation that stays, None in place of one that doesn't
abbrev pub staying : Option Position → Option KeptOp → Option KeptOp
staying oldest None = None
staying oldest (Some o) = if stays oldest o.place then Some o else None

-- the marks that stay
abbrev pub marks_staying : Option Position → ByteMarks → ByteMarks
marks_staying oldest marks = record {
  store = staying oldest marks.store;
  load = staying oldest marks.load;
  other = staying oldest marks.other;
}

-- the marks of byte x once a store to the extent has retired
abbrev pub marks_closed : Extent → ℕ → ByteMarks → ByteMarks
marks_closed extent x marks =
    if is_among extent.addr extent.len x then record { store = marks.store; load = None; other = None } else marks

-- the latest of two loads of byte x, as they are marked, whose source isn't this one
abbrev pub other_than : ℕ → Option Origin → Option KeptOp → Option KeptOp → Option KeptOp
other_than x source None other = None
other_than x source (Some last) other = if same_origin (source_at x last) source then other else Some last

-- the operation is the latest of those in the list that pass a test; or none passes it
abbrev pub IsLatestThat : (KeptOp → Bool) → List KeptOp → Option KeptOp → Type 0
IsLatestThat test ops None = (o : KeptOp) → Contains ops o → test o ≡ false
IsLatestThat test ops (Some m) =
    Contains ops m × (test m ≡ true)
    × ((o : KeptOp) → Contains ops o → test o ≡ true → comes_before m.place o.place ≡ false)

-- it loads the byte at x, from another source than this load of it
abbrev pub is_other : ℕ → Option KeptOp → KeptOp → Bool
is_other x None o = false
is_other x (Some last) o = loads_at x o && not (same_origin (source_at x last) (source_at x o))

-- what the marks of the byte at x are: the latest store among the operations; and among those since a store to the byte
-- retired, the latest load and the latest one with another source than that
pub record AreLatest (x : ℕ) (ops since : List KeptOp) (marks : ByteMarks) : Type 0 where
  pub store : IsLatestThat (stores_at x) ops marks.store
  pub load : IsLatestThat (loads_at x) since marks.load
  pub other : IsLatestThat (is_other x marks.load) since marks.other

-- the operations since a store to the byte at x retired, once a store to the extent has
abbrev pub since_closed : Extent → ℕ → List KeptOp → List KeptOp
since_closed extent x since = if is_among extent.addr extent.len x then [] else since

-- it loads the byte at x, from another source than this one
abbrev pub loads_from_elsewhere : ℕ → Option Origin → KeptOp → Bool
loads_from_elsewhere x source o = loads_at x o && not (same_origin (source_at x o) source)

-- it passes a test, and was performed after a place
abbrev pub passes_over : (KeptOp → Bool) → Position → KeptOp → Bool
passes_over test place o = test o && came_after place o
