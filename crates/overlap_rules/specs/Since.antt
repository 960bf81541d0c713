-- The loads that are kept of a byte since a store to it retired.
use Rattle.std.specs.Prelude.{ℕ, ◌≡◌, List, Option, true}
use Rattle.std.specs.List.{Contains}
use Rattle.tandem_base.specs.declared.names.Place.{Place}
use Rattle.rvwmo_model.specs.declared.operations.Op.{Op}
use Rattle.rvwmo_model.specs.declared.traces.Trace.{Trace}
use Rattle.kept_ops.specs.declared.operation.KeptOp.{KeptOp}
use Rattle.kept_ops.specs.Operations.{loads_at}
use Rattle.window_laws.specs.Keeping.{IsRecent, IsKeptAs}
use Rattle.rule_laws.specs.TwoMarks.{LoadsLast}

-- v is a load of byte x that was performed after the oldest place that still matters, and no store of the hart to x is
-- after it in program order
abbrev pub IsRecentLoad : Trace → ℕ → Option Place → ℕ → Op → Type 0
IsRecentLoad t h oldest x v = IsRecent t h oldest v × LoadsLast t h x v

-- the loads of byte x in the list are those
pub record AreLoadsSince (t : Trace) (h : ℕ) (oldest : Option Place) (x : ℕ) (since : List KeptOp) : Type 0 where
  pub each : (m : KeptOp) → Contains since m → loads_at x m ≡ true → (v : Op) × IsRecentLoad t h oldest x v
      × IsKeptAs t v m
  pub all : (v : Op) → IsRecentLoad t h oldest x v → (m : KeptOp) × Contains since m × IsKeptAs t v m
