-- An operation that is asked for the first operations of its broken pairs, and what the answers are.
use Rattle.std.specs.Prelude.{ℕ, ◌+◌, ◌≡◌, List, Option, Some, true, false, slice_index_or}
use Rattle.std.specs.List.{Contains}
use Rattle.tandem_base.specs.declared.mark.Mark.{Mark}
use Rattle.tandem_base.specs.declared.names.OpName.{OpName}
use Rattle.tandem_base.specs.declared.names.Place.{Place}
use Rattle.tandem_base.specs.Places.{earlier}
use Rattle.tandem_base.specs.Extents.{Covers}
use Rattle.rvwmo_model.specs.declared.instructions.Retired.{Retired}
use Rattle.rvwmo_model.specs.declared.operations.Op.{Op}
use Rattle.rvwmo_model.specs.declared.preserved.Rule.TheVariants.{R1, R2, R3, R12}
use Rattle.rvwmo_model.specs.declared.traces.Trace.{Trace}
use Rattle.rvwmo_model.specs.Order.{performed, kind_stores, op_stores, has_byte, reads}
use Rattle.rvwmo_model.specs.Sources.{source}
use Rattle.rvwmo_model.specs.Legal.{Legal}
use Rattle.growth_laws.specs.Kinds.{WellKinded}
use Rattle.kept_ops.specs.declared.operation.KeptOp.{KeptOp}
use Rattle.kept_ops.specs.Tables.{KeptTable, KnowsLatest}
use Rattle.store_buffer.specs.declared.store.Store.{Store}
use Rattle.store_buffer.specs.Stores.{StoreList, store_of_tag}
use Rattle.store_buffer.specs.Waiting.{AreRetired, waiting_bytes}
use Rattle.window_laws.specs.declared.source.ByteSource.{ByteSource}
use Rattle.window_laws.specs.Keeping.{AreKeptOps, IsKeptAs}
use Rattle.window_laws.specs.Tables.{ArePositioned, source_told}
use Rattle.window_laws.specs.Waiting.{AreWaiting}
use Rattle.rule_laws.specs.FirstLaws.{IsRetiredWith}
use Rattle.rule_laws.specs.Named.{NamesFirst}
use Rattle.rule_laws.specs.Own.{IsOwnWaiting}
use Rattle.rule_laws.specs.Sourced.{LeadsTo}
use Rattle.overlap_rules.specs.Answers.{unsourced}
use Rattle.overlap_rules.specs.Found.{MarksLatestOver}
use Rattle.overlap_rules.specs.Since.{AreLoadsSince}

-- the mark tells the latest operation after the place on which the store of hart h under a tag depends by address or
-- data
abbrev pub TellsLead : Trace → ℕ → Place → ℕ → Option Mark → Type 0
TellsLead t h oldest tag lead = MarksLatestOver t (LeadsTo t h tag) (performed oldest) lead

-- the stores of the list are those of hart h that wait, each with its address and with what it depends on
pub record AreStoresOf (t : Trace) (h : ℕ) (oldest : Place) (stores : StoreList) : Type 0 where
  pub hart : stores.hart ≡ h
  pub retired : AreRetired stores.stores
  pub waits : AreWaiting t h (waiting_bytes stores.stores)
  pub begins : (v : Op) (s : Store) → IsOwnWaiting t h v → store_of_tag v.name.tag stores.stores ≡ Some s
      → v.extent.addr ≡ s.entry.piece.addr
  pub leads : (tag : ℕ) (s : Store) → store_of_tag tag stores.stores ≡ Some s
      → TellsLead t h oldest tag s.entry.marks.lead

-- the table keeps the operations of hart h after the place, and of each byte the loads since a store to it retired; a
-- store is kept with what it depends on
pub record AreKeptOf (t : Trace) (h : ℕ) (oldest : Place) (kept : KeptTable) : Type 0 where
  pub ops : AreKeptOps t h (Some oldest) kept.ops
  pub loads : (x : ℕ) → (since : List KeptOp) × KnowsLatest kept x since × AreLoadsSince t h (Some oldest) x since
  pub leads : (m : KeptOp) → Contains kept.ops m → kind_stores m.kind ≡ true
      → TellsLead t h oldest m.name.tag m.lead

-- an instruction retires, and b is an operation of it that was performed, told by `fresh`; the tables stand for the
-- trace before. An operation that stores has all bytes of its extent
pub record IsAskedBy (t t' : Trace) (b : Op) (fresh : KeptOp) (stores : StoreList) (kept : KeptTable) : Type 0 where
  pub kinded : WellKinded t
  pub r : Retired
  pub new : IsRetiredWith t t' r b
  pub told : IsKeptAs t' b fresh
  pub whole : op_stores b ≡ true → (x : ℕ) → Covers b.extent x → has_byte x b ≡ true
  pub positioned : ArePositioned t'
  -- the oldest place that still matters isn't after that of b
  pub oldest : Place
  pub since : (place : Place) → b.place ≡ Some place → earlier place oldest ≡ false
  pub waiting : AreStoresOf t b.name.hart oldest stores
  pub keeps : AreKeptOf t b.name.hart oldest kept

-- of each byte that b loads the list has the source
abbrev pub AreSourcesOf : (ℕ → ℕ) → Trace → Op → List ByteSource → Type 0
AreSourcesOf initial t b sources =
    (k : ℕ) → reads (b.extent.addr + k) b ≡ true
    → slice_index_or sources k unsourced
    ≡ source_told initial (source t b (b.extent.addr + k)) (b.extent.addr + k)

-- whatever trace the tables stand for, the answer names the first operation of a broken pair of rule 1; the trace
-- before has to be legal
abbrev pub NamesOverlap : KeptOp → StoreList → KeptTable → Option OpName → Type 0
NamesOverlap fresh stores kept answer = (initial : ℕ → ℕ) (t t' : Trace) (b : Op)
    → IsAskedBy t t' b fresh stores kept → Legal initial t → NamesFirst R1 t' b answer

-- of rule 2
abbrev pub NamesLoad : KeptOp → StoreList → KeptTable → Option OpName → Type 0
NamesLoad fresh stores kept answer = (t t' : Trace) (b : Op)
    → IsAskedBy t t' b fresh stores kept → NamesFirst R2 t' b answer

-- of rule 3
abbrev pub NamesAtomic : KeptOp → List ByteSource → StoreList → KeptTable → Option OpName → Type 0
NamesAtomic fresh sources stores kept answer = (initial : ℕ → ℕ) (t t' : Trace) (b : Op)
    → IsAskedBy t t' b fresh stores kept → AreSourcesOf initial t' b sources → NamesFirst R3 t' b answer

-- of rule 12; the trace before has to be legal
abbrev pub NamesLead : KeptOp → List ByteSource → StoreList → KeptTable → Option OpName → Type 0
NamesLead fresh sources stores kept answer = (initial : ℕ → ℕ) (t t' : Trace) (b : Op)
    → IsAskedBy t t' b fresh stores kept → AreSourcesOf initial t' b sources → Legal initial t
    → NamesFirst R12 t' b answer
