-- Laws of what tables tell of the source of a byte that an instruction loads when it retires.
use Rattle.std.specs.Prelude.{ℕ, ◌-◌, ◌<◌, ◌≡◌, List, Option, None, Some, true, false, slice_index}
use Rattle.std.specs.List.{Contains}
use Rattle.std.specs.Option.{option_map}
use Rattle.tandem_base.specs.declared.names.Place.{Place}
use Rattle.tandem_base.specs.declared.names.Position.{Position}
use Rattle.tandem_base.specs.Places.{earlier, comes_before}
use Rattle.rvwmo_model.specs.declared.instructions.Retired.{Retired}
use Rattle.rvwmo_model.specs.declared.operations.Op.{Op}
use Rattle.rvwmo_model.specs.declared.traces.Trace.{Trace}
use Rattle.rvwmo_model.specs.Sources.{source}
use Rattle.growth_laws.specs.Kinds.{WellKinded}
use Rattle.byte_memory.specs.declared.writer.Writer.{Writer}
use Rattle.kept_ops.specs.declared.operation.KeptOp.{KeptOp}
use Rattle.kept_ops.specs.Operations.{stores_at}
use Rattle.window_laws.specs.declared.source.ByteSource.{ByteSource}
use Rattle.window_laws.specs.Tables.{untimed, ArePositioned, source_told}
use Rattle.window_laws.specs.Captures.{IsStoredBefore, TellsByte}
use Rattle.window_laws.specs.Waiting.{AreWaiting, IsLatestWaiting}
use Rattle.window_laws.specs.Keeping.{AreKeptOps}
use Rattle.window_laws.specs.SourceLaws.{IsNewAt}

-- m is kept, stores to byte x, and was performed after the place
pub record IsKeptAfter (kept : List KeptOp) (place : Position) (x : ℕ) (m : KeptOp) : Type 0 where
  pub here : Contains kept m
  pub stores : stores_at x m ≡ true
  pub after : comes_before place m.place ≡ true

-- and none of those comes after it
pub record IsLatestKept (kept : List KeptOp) (place : Position) (x : ℕ) (m : KeptOp) : Type 0 where
  pub kept_after : IsKeptAfter kept place x m
  pub latest : (n : KeptOp) → IsKeptAfter kept place x n → comes_before m.place n.place ≡ false

-- no byte waits at x under a tag below the bound
abbrev pub NoneWaits : (ℕ → ℕ → Option ℕ) → ℕ → ℕ → Type 0
NoneWaits waiting below x = (tag : ℕ) → tag < below → waiting tag x ≡ None

-- a byte that waits, as a source
abbrev pub waiting_source : ℕ → ℕ → ℕ → ByteSource
waiting_source hart tag value =
    record { writer = Some (record { hart = hart; tag = tag }); place = None; byte = value }

-- the byte at x of a kept store, as a source
abbrev pub kept_source : KeptOp → ℕ → ByteSource
kept_source m x = record {
  writer = Some (record { hart = m.name.hart; tag = m.name.tag });
  place = Some m.place;
  byte = slice_index m.put (x - m.extent.addr);
}

-- a byte of memory with its last writer, as a source
abbrev pub memory_source : Option Writer → ℕ → ByteSource
memory_source last value = record {
  writer = option_map (λ w. record { hart = w.hart; tag = w.tag }) last;
  place = option_map (λ w. w.place) last;
  byte = value;
}

-- tables that stand for a trace tell the source of a byte of an operation that is new: by what waits of its hart, else
-- by what is kept after its place, else by what memory held at its place
pub record SourcesAreTold : Type 0 where
  pub waiting : (initial : ℕ → ℕ) (t t' : Trace) (r : Retired) (b : Op) (place : Place) (x tag value : ℕ)
      (waiting : ℕ → ℕ → Option ℕ)
      → WellKinded t → IsNewAt t t' r b place
      → AreWaiting t r.hart waiting → IsLatestWaiting waiting r.tag x tag value
      → source_told initial (source t' b x) x ≡ waiting_source r.hart tag value
  pub kept : (initial : ℕ → ℕ) (t t' : Trace) (r : Retired) (b : Op) (place oldest : Place) (x : ℕ)
      (waiting : ℕ → ℕ → Option ℕ) (kept : List KeptOp) (m : KeptOp)
      → WellKinded t → IsNewAt t t' r b place → ArePositioned t' → earlier place oldest ≡ false
      → AreWaiting t r.hart waiting → NoneWaits waiting r.tag x
      → AreKeptOps t r.hart (Some oldest) kept → IsLatestKept kept (untimed place) x m
      → source_told initial (source t' b x) x ≡ kept_source m x
  pub captured : (initial : ℕ → ℕ) (t t' : Trace) (r : Retired) (b : Op) (place oldest : Place) (x : ℕ)
      (waiting : ℕ → ℕ → Option ℕ) (kept : List KeptOp) (last : Option Writer) (value : ℕ)
      → WellKinded t → IsNewAt t t' r b place → ArePositioned t' → earlier place oldest ≡ false
      → AreWaiting t r.hart waiting → NoneWaits waiting r.tag x
      → AreKeptOps t r.hart (Some oldest) kept → ((m : KeptOp) → IsKeptAfter kept (untimed place) x m → ⊥)
      → TellsByte initial (IsStoredBefore t place x) x last value
      → source_told initial (source t' b x) x ≡ memory_source last value
