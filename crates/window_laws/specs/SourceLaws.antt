-- Laws of the source of a byte that an instruction loads when it retires.
use Rattle.std.specs.Prelude.{ℕ, ◌≡◌, List, Option, Some, true}
use Rattle.std.specs.List.{Contains}
use Rattle.tandem_base.specs.declared.names.Place.{Place}
use Rattle.rvwmo_model.specs.declared.instructions.Retired.{Retired}
use Rattle.rvwmo_model.specs.declared.operations.Op.{Op}
use Rattle.rvwmo_model.specs.declared.traces.Trace.{Trace}
use Rattle.rvwmo_model.specs.Order.{reads}
use Rattle.rvwmo_model.specs.Sources.{source}
use Rattle.growth_laws.specs.Kinds.{WellKinded}
use Rattle.growth_laws.specs.Growth.{AddInsn, Growth}
use Rattle.growth_laws.specs.Laws.{HasOverlap}
use Rattle.growth_laws.specs.Writers.{SameSource}
use Rattle.window_laws.specs.Latest.{IsLatestIfAny, first_there}
use Rattle.window_laws.specs.Captures.{IsStoredBefore}
use Rattle.window_laws.specs.Waiting.{IsWaitingBelow}
use Rattle.window_laws.specs.Keeping.{IsStoredAfter}

-- the instruction r retires, and b is an operation of it that was performed at the place
pub record IsNewAt (t t' : Trace) (r : Retired) (b : Op) (place : Place) : Type 0 where
  pub new : List Op
  pub retires : AddInsn t t' r new
  pub here : Contains new b
  pub performed : b.place ≡ Some place

-- the source of a byte of a new operation is what it would be in the trace before, where the operation isn't yet
abbrev pub NewSourcesAreOld : Type 0
NewSourcesAreOld = (t t' : Trace) (r : Retired) (b : Op) (place : Place) (x : ℕ) → WellKinded t
    → IsNewAt t t' r b place → source t' b x ≡ source t b x

-- it is the latest store of its hart that waits; else the latest store of its hart that was performed after it; else
-- the latest of all stores that were performed before it
abbrev pub SourcesSplit : Type 0
SourcesSplit = (t t' : Trace) (r : Retired) (b : Op) (place : Place) (x : ℕ) (waiting after before : Option Op)
    → WellKinded t → IsNewAt t t' r b place
    → IsLatestIfAny (IsWaitingBelow t r.hart r.tag x) waiting
    → IsLatestIfAny (IsStoredAfter t r.hart place x) after
    → IsLatestIfAny (IsStoredBefore t place x) before
    → source t' b x ≡ first_there waiting (first_there after before)

-- under a growth that breaks no pair of rule 1 the source of a byte of an old load goes on: it is the same store with
-- the same byte, at its place, or performed now, above all that was performed; or it is the initial value as before
abbrev pub SourcesGoOn : Type 0
SourcesGoOn = (t t' : Trace) (i : Op) (x : ℕ) → WellKinded t → Growth t t' → Contains t.ops i → reads x i ≡ true
    → (HasOverlap t' → ⊥) → SameSource t t' x (source t i x) (source t' i x)
