-- The source of a byte, from what tables find of it.
use Rattle.std.specs.Prelude.{ℕ, ◌-◌, ◌≡◌, List, Option, None, Some, true, false, slice_index, slice_index_or}
use Rattle.tandem_base.specs.declared.extent.Extent.{Extent}
use Rattle.tandem_base.specs.declared.names.Place.{Place}
use Rattle.tandem_base.specs.Extents.{is_among}
use Rattle.tandem_base.specs.Places.{earlier}
use Rattle.rvwmo_model.specs.declared.instructions.Retired.{Retired}
use Rattle.rvwmo_model.specs.declared.operations.Op.{Op}
use Rattle.rvwmo_model.specs.declared.traces.Trace.{Trace}
use Rattle.rvwmo_model.specs.Sources.{source}
use Rattle.growth_laws.specs.Kinds.{WellKinded}
use Rattle.byte_memory.specs.declared.capture.Capture.{Capture}
use Rattle.byte_memory.specs.Captures.{capture_size}
use Rattle.kept_ops.specs.declared.operation.KeptOp.{KeptOp}
use Rattle.kept_ops.specs.Tables.{KeptTable, KnowsLatest}
use Rattle.window_laws.specs.declared.source.ByteSource.{ByteSource}
use Rattle.window_laws.specs.Tables.{ArePositioned, source_told}
use Rattle.window_laws.specs.Captures.{IsCaptureOf}
use Rattle.window_laws.specs.Waiting.{AreWaiting}
use Rattle.window_laws.specs.Keeping.{AreKeptOps}
use Rattle.window_laws.specs.SourceLaws.{IsNewAt}
use Rattle.window_laws.specs.ToldSources.{waiting_source, kept_source, memory_source}
use Rattle.store_buffer.specs.declared.pending.Pending.{Pending}
use Rattle.store_buffer.specs.Stores.{StoreList, AllTagged}
use Rattle.store_buffer.specs.Waiting.{waiting_bytes}

-- the byte of a capture at x, as a source
abbrev pub captured_source : Capture → ℕ → ByteSource
captured_source seen x =
    memory_source (slice_index_or seen.last (x - seen.base) None) (slice_index seen.values (x - seen.base))

-- what waits at x, else what is kept, else what was captured
abbrev pub source_chosen : Option Pending → Option KeptOp → Capture → ℕ → ByteSource
source_chosen (Some w) kept seen x = waiting_source w.hart w.tag w.byte
source_chosen None (Some m) seen x = kept_source m x
source_chosen None None seen x = captured_source seen x

-- an instruction r retires, and b is an operation of it that was performed at the place; the tables stand for the trace
-- before: the stores of the hart, what is kept of it, and what the report of b saw, which has byte x
pub record IsAsked (initial : ℕ → ℕ) (t t' : Trace) (b : Op) (stores : StoreList) (kept : KeptTable) (seen : Capture)
    (x : ℕ) : Type 0 where
  pub kinded : WellKinded t
  pub r : Retired
  pub place : Place
  pub new : IsNewAt t t' r b place
  pub positioned : ArePositioned t'
  -- the stores of the hart, which retired before r
  pub hart : stores.hart ≡ r.hart
  pub before : AllTagged r.tag stores.stores
  pub waits : AreWaiting t r.hart (waiting_bytes stores.stores)
  -- what is kept of it, after a place that isn't after that of b
  pub oldest : Place
  pub since : earlier place oldest ≡ false
  pub keeps : AreKeptOps t r.hart (Some oldest) kept.ops
  pub loads : List KeptOp
  pub knows : KnowsLatest kept x loads
  -- what the report of b saw, which has the byte
  pub extent : Extent
  pub captured : IsCaptureOf initial t place extent seen
  pub inside : is_among seen.base (capture_size extent) x ≡ true

-- whatever trace the tables stand for, the answer is the source of byte x of the operation: its hart and tag, its place
-- and its byte
abbrev pub TellsSource : StoreList → KeptTable → Capture → ℕ → ByteSource → Type 0
TellsSource stores kept seen x answer = (initial : ℕ → ℕ) (t t' : Trace) (b : Op)
    → IsAsked initial t t' b stores kept seen x → answer ≡ source_told initial (source t' b x) x
