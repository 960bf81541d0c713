-- How a slot of inputs in memory is kept: by the place of its content among the contents.
use Rattle.std.specs.Prelude.{◌≡◌, ℕ, ◌<◌, ◌≤◌, Bool, List, [], length, take, drop, slice_index_or, Option}
use Rattle.std.specs.Prelude.{Some, None, ⊤}
use Rattle.tandem_io.specs.declared.cursor.Cursor.{Cursor}
use Rattle.tandem_io.specs.Inputs.{Named}
use Rattle.tandem_io.specs.Store.{HeldSlot}

-- the bytes of the content at a place
abbrev pub content_at : List Named → Option ℕ → List ℕ
content_at files None = []
content_at files (Some place) = (slice_index_or files place (record { name = []; bytes = [] })).bytes

-- the place is that of a content
abbrev pub IsPlace : List Named → Option ℕ → Type 0
IsPlace files None = ⊤
IsPlace files (Some place) = place < length files

-- no content is attached before the first attach
abbrev pub IsNoneBefore : Option Bool → Option ℕ → Type 0
IsNoneBefore None file = file ≡ None
IsNoneBefore (Some _) file = ⊤

-- the slot that a cursor reads
abbrev pub slot_at : List Named → Cursor → HeldSlot
slot_at files cursor = record {
  left = drop cursor.at (content_at files cursor.file);
  gone = take cursor.at (content_at files cursor.file);
  ended = cursor.ended;
  attached = cursor.attached;
}

-- a cursor stands in a content that is there
pub record PointsInto (files : List Named) (cursor : Cursor) : Type 0 where
  pub place : IsPlace files cursor.file
  pub at : cursor.at ≤ length (content_at files cursor.file)
  pub before : IsNoneBefore cursor.attached cursor.file
