-- What memory, and what a report saw of it, stand for in a trace.
use Rattle.std.specs.Prelude.{ℕ, ◌+◌, ◌<◌, ◌≡◌, ◌≢◌, Option, None, Some, true, slice_index, slice_index_or}
use Rattle.std.specs.List.{Contains}
use Rattle.tandem_base.specs.declared.extent.Extent.{Extent}
use Rattle.tandem_base.specs.declared.names.Place.{Place}
use Rattle.tandem_base.specs.Extents.{is_among}
use Rattle.rvwmo_model.specs.declared.operations.Op.{Op}
use Rattle.rvwmo_model.specs.declared.traces.Trace.{Trace}
use Rattle.rvwmo_model.specs.Order.{everything, writes, put_at}
use Rattle.rvwmo_model.specs.Sources.{byte_from}
use Rattle.rvwmo_model.specs.InForm.{IsPlaced}
use Rattle.rvwmo_model.specs.Report.{IsLatest, IsLowest}
use Rattle.byte_memory.specs.declared.capture.Capture.{Capture}
use Rattle.byte_memory.specs.declared.capture.Foreign.{Foreign}
use Rattle.byte_memory.specs.declared.capture.StoreCapture.{StoreCapture}
use Rattle.byte_memory.specs.declared.memory.Memory.{Memory}
use Rattle.byte_memory.specs.declared.writer.Writer.{Writer}
use Rattle.byte_memory.specs.Captures.{capture_base, capture_size, block_base}
use Rattle.byte_memory.specs.Memory.{Written, written_at}
use Rattle.window_laws.specs.Latest.{IsLatestIfAny}
use Rattle.window_laws.specs.Tables.{untimed, IsBeforePlace, writer_of, writer_from}

-- v is a store to byte x that was performed, early or not
abbrev pub IsStored : Trace → ℕ → Op → Type 0
IsStored t x v = Contains (everything t) v × (writes x v ≡ true) × IsPlaced v

-- v is a store to byte x that was performed before a place
abbrev pub IsStoredBefore : Trace → Place → ℕ → Op → Type 0
IsStoredBefore t place x v = Contains (everything t) v × (writes x v ≡ true) × IsBeforePlace place v

-- v has the property, and is of another hart than this one
abbrev pub IsForeignOf : (Op → Type 0) → ℕ → Op → Type 0
IsForeignOf P h v = P v × (v.name.hart ≢ h)

-- the writer is that of the latest that has the property, or there is none
pub record TellsLatest (P : Op → Type 0) (writer : Option Writer) : Type 0 where
  pub store : Option Op
  pub latest : IsLatestIfAny P store
  pub told : writer ≡ writer_from store

-- the last writer of byte x and its value are those of the latest store that has the property; the value is the
-- initial one where there is none
pub record TellsByte (initial : ℕ → ℕ) (P : Op → Type 0) (x : ℕ) (last : Option Writer) (value : ℕ) : Type 0 where
  pub store : Option Op
  pub latest : IsLatestIfAny P store
  pub told : last ≡ writer_from store
  pub byte : value ≡ byte_from initial store x

-- what is kept of byte x tells of the latest store that has the property, and of the latest of another hart than its
pub record TellsWritten (P : Op → Type 0) (x : ℕ) (was : Written) : Type 0 where
  pub store : Op
  pub latest : IsLatest P store
  pub told : writer_of store ≡ Some was.last
  pub byte : was.value ≡ put_at store x
  pub foreign : TellsLatest (IsForeignOf P store.name.hart) was.other

-- nothing is kept of byte x where no store has the property
abbrev pub TellsStores : (Op → Type 0) → ℕ → Option Written → Type 0
TellsStores P x None = (v : Op) → P v → ⊥
TellsStores P x (Some was) = TellsWritten P x was

-- memory holds what the performed stores of the trace left
abbrev pub IsMemoryOf : Trace → Memory → Type 0
IsMemoryOf t memory = (x : ℕ) → TellsStores (IsStored t x) x (written_at memory x)

-- the capture, taken at the place, has what the stores before it left of the bytes about the extent
pub record IsCaptureOf (initial : ℕ → ℕ) (t : Trace) (place : Place) (extent : Extent) (capture : Capture) : Type 0
  where
    pub taken : capture.place ≡ untimed place
    pub base : capture.base ≡ capture_base extent
    pub bytes : (k : ℕ) → k < capture_size extent →
        TellsByte initial (IsStoredBefore t place (capture.base + k)) (capture.base + k)
        (slice_index_or capture.last k None) (slice_index capture.values k)

-- v is a store of another hart than h to one of the `size` bytes from `base` up, performed before a place
abbrev pub IsForeignStore : Trace → Place → ℕ → ℕ → ℕ → Op → Type 0
IsForeignStore t place h base size v =
    (x : ℕ) × (is_among base size x ≡ true) × IsForeignOf (IsStoredBefore t place x) h v

-- found is the latest of them, and the lowest of these bytes that it stores to
pub record TellsForeign (t : Trace) (place : Place) (h base size : ℕ) (found : Foreign) : Type 0 where
  pub store : Op
  pub latest : IsLatest (IsForeignStore t place h base size) store
  pub told : writer_of store ≡ Some found.writer
  pub lowest : IsLowest (λ x. (is_among base size x ≡ true) × (writes x store ≡ true)) found.at

-- or there is none
abbrev pub TellsForeignIfAny : Trace → Place → ℕ → ℕ → ℕ → Option Foreign → Type 0
TellsForeignIfAny t place h base size None = (v : Op) → IsForeignStore t place h base size v → ⊥
TellsForeignIfAny t place h base size (Some found) = TellsForeign t place h base size found

-- the capture of a store of a hart tells also of the latest store before the place by another hart: for each byte by
-- another than that of its last writer, and to the block of its first byte by another than the store's
pub record IsStoreCaptureOf (initial : ℕ → ℕ) (t : Trace) (place : Place) (extent : Extent) (hart block : ℕ)
    (capture : StoreCapture) : Type 0 where
  pub seen : IsCaptureOf initial t place extent capture.seen
  pub other : (k : ℕ) (w : Writer) → k < capture_size extent → slice_index_or capture.seen.last k None ≡ Some w →
      TellsLatest (IsForeignOf (IsStoredBefore t place (capture.seen.base + k)) w.hart)
      (slice_index_or capture.other k None)
  pub foreign : TellsForeignIfAny t place hart (block_base extent.addr block) block capture.foreign
