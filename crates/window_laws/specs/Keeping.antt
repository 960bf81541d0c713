-- What kept operations stand for in a trace.
use Rattle.std.specs.Prelude.{ℕ, ◌+◌, ◌≡◌, ◌≢◌, List, Option, None, Some, true, slice_index_or}
use Rattle.std.specs.List.{Contains, AllPairs}
use Rattle.std.specs.Option.{option_map}
use Rattle.tandem_base.specs.declared.names.Place.{Place}
use Rattle.rv_decode.specs.Kinds.{is_amo_or_sc}
use Rattle.rvwmo_model.specs.declared.operations.Op.{Op}
use Rattle.rvwmo_model.specs.declared.traces.Trace.{Trace}
use Rattle.rvwmo_model.specs.Order.{reads, writes}
use Rattle.rvwmo_model.specs.ProgramOrder.{insn_of, is_one}
use Rattle.rvwmo_model.specs.Sources.{origin}
use Rattle.kept_ops.specs.declared.operation.KeptOp.{KeptOp}
use Rattle.window_laws.specs.Tables.{untimed, IsAfterPlace}

-- v is an operation of hart h that was performed after a place
abbrev pub IsOwnAfter : Trace → ℕ → Place → Op → Type 0
IsOwnAfter t h place v = Contains t.ops v × (v.name.hart ≡ h) × IsAfterPlace place v

-- and stores to byte x
abbrev pub IsStoredAfter : Trace → ℕ → Place → ℕ → Op → Type 0
IsStoredAfter t h place x v = IsOwnAfter t h place v × (writes x v ≡ true)

-- v is an operation of hart h that was performed after the oldest place that still matters; none is where there is no
-- such place
abbrev pub IsRecent : Trace → ℕ → Option Place → Op → Type 0
IsRecent t h None v = ⊥
IsRecent t h (Some oldest) v = IsOwnAfter t h oldest v

-- the operation o of the trace is kept as m
pub record IsKeptAs (t : Trace) (o : Op) (m : KeptOp) : Type 0 where
  pub name : m.name ≡ o.name
  pub place : Some m.place ≡ option_map untimed o.place
  pub kind : m.kind ≡ o.kind
  pub extent : m.extent ≡ o.extent
  pub mask : m.mask ≡ o.mask
  pub put : m.put ≡ o.put
  pub atomic : m.atomic ≡ is_one is_amo_or_sc (insn_of t o)
  pub sources : (k : ℕ) → reads (o.extent.addr + k) o ≡ true
      → slice_index_or m.sources k None ≡ origin t o (o.extent.addr + k)

-- the kept operations of hart h are those that were performed after the oldest place that still matters, each once
pub record AreKeptOps (t : Trace) (h : ℕ) (oldest : Option Place) (kept : List KeptOp) : Type 0 where
  pub each : (m : KeptOp) → Contains kept m → (o : Op) × IsRecent t h oldest o × IsKeptAs t o m
  pub all : (o : Op) → IsRecent t h oldest o → (m : KeptOp) × Contains kept m × IsKeptAs t o m
  pub once : AllPairs (λ m n. m.name ≢ n.name) kept
