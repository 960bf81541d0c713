-- Laws of kept operations while a trace grows.
use Rattle.std.specs.Prelude.{ℕ, ◌≡◌, ◌≢◌, List, [], Option, Some}
use Rattle.std.specs.List.{Contains, filter}
use Rattle.std.specs.Option.{option_map}
use Rattle.tandem_base.specs.declared.names.Place.{Place}
use Rattle.tandem_base.specs.Places.{earlier, comes_before}
use Rattle.rvwmo_model.specs.declared.instructions.Retired.{Retired}
use Rattle.rvwmo_model.specs.declared.operations.Op.{Op}
use Rattle.rvwmo_model.specs.declared.traces.Trace.{Trace}
use Rattle.growth_laws.specs.Kinds.{WellKinded}
use Rattle.growth_laws.specs.Growth.{Same, AddEarly, AddInsn, Performs}
use Rattle.growth_laws.specs.Laws.{nothing_yet, HasOverlap}
use Rattle.kept_ops.specs.declared.operation.KeptOp.{KeptOp}
use Rattle.kept_ops.specs.Tables.{op_stays}
use Rattle.window_laws.specs.Tables.{untimed}
use Rattle.window_laws.specs.Keeping.{IsRecent, AreKeptOps}

-- nothing is kept of the trace of nothing
abbrev pub KeepingStarts : Type 0
KeepingStarts = (granule h : ℕ) (oldest : Option Place) → AreKeptOps (nothing_yet granule) h oldest []

-- what is kept is right as before where nothing changes, where a store is performed early, where an instruction
-- retires none of whose operations is recent, and where a message performs stores of another hart and breaks no pair of
-- rule 1
pub record KeepingStays : Type 0 where
  pub nothing : (t t' : Trace) (h : ℕ) (oldest : Option Place) (kept : List KeptOp) → WellKinded t → Same t t'
      → AreKeptOps t h oldest kept → AreKeptOps t' h oldest kept
  pub early : (t t' : Trace) (e : Op) (h : ℕ) (oldest : Option Place) (kept : List KeptOp) → WellKinded t
      → AddEarly t t' e → AreKeptOps t h oldest kept → AreKeptOps t' h oldest kept
  pub insn : (t t' : Trace) (r : Retired) (new : List Op) (h : ℕ) (oldest : Option Place) (kept : List KeptOp)
      → WellKinded t → AddInsn t t' r new → ((v : Op) → Contains new v → IsRecent t' h oldest v → ⊥)
      → AreKeptOps t h oldest kept → AreKeptOps t' h oldest kept
  pub stores : (t t' : Trace) (g h : ℕ) (parts : List Op) (oldest : Option Place) (kept : List KeptOp)
      → WellKinded t → Performs g t parts t' → g ≢ h → (HasOverlap t' → ⊥)
      → AreKeptOps t h oldest kept → AreKeptOps t' h oldest kept

-- what is left where only operations after a later place still matter
abbrev pub KeepingNarrows : Type 0
KeepingNarrows = (t : Trace) (h : ℕ) (before oldest : Option Place) (kept : List KeptOp) → AreKeptOps t h before kept
    → ((o : Op) → IsRecent t h oldest o → IsRecent t h before o)
    → ((o : Op) (p q : Place) → IsRecent t h before o → o.place ≡ Some p → oldest ≡ Some q
    → earlier q p ≡ comes_before (untimed q) (untimed p))
    → AreKeptOps t h oldest (filter (op_stays (option_map untimed oldest)) kept)
