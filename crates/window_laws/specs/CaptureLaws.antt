-- Laws of memory and of what reports saw of it, while a trace grows.
use Rattle.std.specs.Prelude.{ℕ, ◌<◌, ◌≡◌, slice_index_or, List, Option, None, Some, true, false}
use Rattle.std.specs.List.{Contains}
use Rattle.tandem_base.specs.declared.extent.Extent.{Extent}
use Rattle.tandem_base.specs.declared.names.Place.{Place}
use Rattle.elf_image.specs.Images.{Loaded, initial_byte}
use Rattle.rvwmo_model.specs.declared.instructions.Retired.{Retired}
use Rattle.rvwmo_model.specs.declared.operations.Op.{Op}
use Rattle.rvwmo_model.specs.declared.traces.Trace.{Trace}
use Rattle.rvwmo_model.specs.Order.{op_stores, writes, put_at, everything}
use Rattle.rvwmo_model.specs.InForm.{IsPlaced}
use Rattle.growth_laws.specs.Kinds.{WellKinded}
use Rattle.growth_laws.specs.Growth.{IsAbove, Same, AddEarly, AddInsn, PerformsPart, Growth}
use Rattle.growth_laws.specs.Laws.{nothing_yet}
use Rattle.byte_memory.specs.declared.capture.Capture.{Capture}
use Rattle.byte_memory.specs.declared.capture.StoreCapture.{StoreCapture}
use Rattle.byte_memory.specs.declared.memory.Memory.{Memory}
use Rattle.byte_memory.specs.declared.writer.Writer.{Writer}
use Rattle.byte_memory.specs.Captures.{Sees, FindsForeign, block_base, captured}
use Rattle.byte_memory.specs.Memory.{written_at, overwritten}
use Rattle.window_laws.specs.Tables.{untimed, ArePositioned, IsBeforePlace, writer_of}
use Rattle.window_laws.specs.Captures.{IsMemoryOf, IsCaptureOf, IsStoreCaptureOf}

-- no store that a growth performs stands before the place
abbrev pub StoresAreLate : Trace → Trace → Place → Type 0
StoresAreLate t t' place = (n : Op) → Contains (everything t') n → op_stores n ≡ true → IsAbove t n
    → IsBeforePlace place n → ⊥

-- under each growth whose stores aren't performed before its place, a capture stays what the stores before it left
pub record CapturesStay : Type 0 where
  pub loads : (initial : ℕ → ℕ) (t t' : Trace) (place : Place) (extent : Extent) (capture : Capture) → WellKinded t
      → Growth t t' → StoresAreLate t t' place
      → IsCaptureOf initial t place extent capture → IsCaptureOf initial t' place extent capture
  pub stores : (initial : ℕ → ℕ) (t t' : Trace) (place : Place) (extent : Extent) (hart block : ℕ)
      (capture : StoreCapture) → WellKinded t → Growth t t' → StoresAreLate t t' place
      → IsStoreCaptureOf initial t place extent hart block capture
      → IsStoreCaptureOf initial t' place extent hart block capture

-- all stores that were performed stand before the place
abbrev pub AllStoredBefore : Trace → Place → Type 0
AllStoredBefore t place = (v : Op) → Contains (everything t) v → op_stores v ≡ true → IsPlaced v
    → IsBeforePlace place v

-- a capture of memory stands for the trace at a place that comes after all stores that were performed
pub record CapturesAreTaken : Type 0 where
  pub loads : (image : Loaded) (t : Trace) (memory : Memory) (place : Place) (extent : Extent) (capture : Capture)
      → IsMemoryOf t memory → AllStoredBefore t place → Sees memory image extent capture
      → capture.place ≡ untimed place → IsCaptureOf (initial_byte image) t place extent capture
  pub stores : (image : Loaded) (t : Trace) (memory : Memory) (place : Place) (extent : Extent) (hart block : ℕ)
      (capture : StoreCapture)
      → IsMemoryOf t memory → ArePositioned t → AllStoredBefore t place → Sees memory image extent capture.seen
      → ((k : ℕ) → k < 8 → slice_index_or capture.other k None ≡ (captured memory image extent k).other)
      → FindsForeign memory hart (block_base extent.addr block) block capture.foreign
      → capture.seen.place ≡ untimed place
      → IsStoreCaptureOf (initial_byte image) t place extent hart block capture

-- memory that nothing was stored to stands for the trace of nothing
abbrev pub MemoryStarts : Type 0
MemoryStarts = (granule : ℕ) (memory : Memory) → ((x : ℕ) → written_at memory x ≡ None)
    → IsMemoryOf (nothing_yet granule) memory

-- where nothing is performed, memory stands for the trace as before
pub record MemoryStays : Type 0 where
  pub nothing : (t t' : Trace) (memory : Memory) → WellKinded t → Same t t' → IsMemoryOf t memory → IsMemoryOf t' memory
  pub insn : (t t' : Trace) (r : Retired) (new : List Op) (memory : Memory) → WellKinded t → AddInsn t t' r new
      → IsMemoryOf t memory → IsMemoryOf t' memory

-- memory after one more store, n, has been written at its bytes and nowhere else
pub record IsStoredTo (memory later : Memory) (n : Op) : Type 0 where
  pub writer : Writer
  pub told : writer_of n ≡ Some writer
  pub written : (x : ℕ) → writes x n ≡ true
      → written_at later x ≡ Some (overwritten (written_at memory x) writer (put_at n x))
  pub others : (x : ℕ) → writes x n ≡ false → written_at later x ≡ written_at memory x

-- where a store is performed, early or not, memory with its bytes stored stands for the longer trace
pub record MemoryGains : Type 0 where
  pub early : (t t' : Trace) (e : Op) (memory later : Memory) → WellKinded t → AddEarly t t' e
      → IsStoredTo memory later e → IsMemoryOf t memory → IsMemoryOf t' later
  pub part : (t t' : Trace) (o n : Op) (rest : Option Op) (memory later : Memory) → WellKinded t
      → PerformsPart t t' o n rest → IsStoredTo memory later n → IsMemoryOf t memory → IsMemoryOf t' later
