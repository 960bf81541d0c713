-- Laws of waiting stores while a trace grows.
use Rattle.std.specs.Prelude.{ℕ, ◌<◌, ◌≡◌, ◌≢◌, ◌⊎◌, List, Option, None, Some, true, false}
use Rattle.rv_decode.specs.Kinds.{is_store}
use Rattle.rvwmo_model.specs.declared.instructions.Retired.{Retired}
use Rattle.rvwmo_model.specs.declared.operations.Op.{Op}
use Rattle.rvwmo_model.specs.declared.traces.Trace.{Trace}
use Rattle.rvwmo_model.specs.Order.{writes, put_at}
use Rattle.growth_laws.specs.Kinds.{WellKinded}
use Rattle.growth_laws.specs.Growth.{Same, AddEarly, AddInsn, AddsStore, PerformsPart, Performs}
use Rattle.growth_laws.specs.Laws.{nothing_yet}
use Rattle.window_laws.specs.Waiting.{IsWaitingBelow, AreWaiting, IsLatestWaiting}
use Rattle.rvwmo_model.specs.Report.{IsLatest}

-- in the trace of nothing no byte waits
abbrev pub WaitingStarts : Type 0
WaitingStarts = (granule h : ℕ) → AreWaiting (nothing_yet granule) h (λ tag x. None)

-- the same bytes wait where nothing changes, where a store is performed early, where another instruction than a plain
-- store of the hart retires, and where a message performs stores of another hart
pub record WaitingStays : Type 0 where
  pub nothing : (t t' : Trace) (h : ℕ) (waiting : ℕ → ℕ → Option ℕ) → Same t t' → AreWaiting t h waiting
      → AreWaiting t' h waiting
  pub early : (t t' : Trace) (e : Op) (h : ℕ) (waiting : ℕ → ℕ → Option ℕ) → AddEarly t t' e → AreWaiting t h waiting
      → AreWaiting t' h waiting
  pub insn : (t t' : Trace) (r : Retired) (new : List Op) (h : ℕ) (waiting : ℕ → ℕ → Option ℕ) → WellKinded t
      → AddInsn t t' r new → (is_store r.insn ≡ false) ⊎ (r.hart ≢ h) → AreWaiting t h waiting
      → AreWaiting t' h waiting
  pub stores : (t t' : Trace) (g h : ℕ) (parts : List Op) (waiting : ℕ → ℕ → Option ℕ) → Performs g t parts t'
      → g ≢ h → AreWaiting t h waiting → AreWaiting t' h waiting

-- the bytes of o wait too, under its tag
pub record AlsoWaits (waiting later : ℕ → ℕ → Option ℕ) (o : Op) : Type 0 where
  pub here : (x : ℕ) → writes x o ≡ true → later o.name.tag x ≡ Some (put_at o x)
  pub elsewhere : (x : ℕ) → writes x o ≡ false → later o.name.tag x ≡ None
  pub others : (tag x : ℕ) → tag ≢ o.name.tag → later tag x ≡ waiting tag x

-- the bytes of n wait no longer under its tag, and all else does
pub record NoLongerWaits (waiting later : ℕ → ℕ → Option ℕ) (n : Op) : Type 0 where
  pub here : (x : ℕ) → writes x n ≡ true → later n.name.tag x ≡ None
  pub elsewhere : (x : ℕ) → writes x n ≡ false → later n.name.tag x ≡ waiting n.name.tag x
  pub others : (tag x : ℕ) → tag ≢ n.name.tag → later tag x ≡ waiting tag x

-- a plain store that retires waits with all its bytes, and bytes of it that are performed wait no longer
pub record WaitingChanges : Type 0 where
  pub retired : (t t' : Trace) (r : Retired) (new : List Op) (o : Op) (waiting later : ℕ → ℕ → Option ℕ) → WellKinded t
      → AddInsn t t' r new → AddsStore t t' r new o → AlsoWaits waiting later o → AreWaiting t r.hart waiting
      → AreWaiting t' r.hart later
  pub performed : (t t' : Trace) (o n : Op) (rest : Option Op) (waiting later : ℕ → ℕ → Option ℕ) → WellKinded t
      → PerformsPart t t' o n rest → NoLongerWaits waiting later n → AreWaiting t n.name.hart waiting
      → AreWaiting t' n.name.hart later

-- the byte that waits under the greatest tag below a bound is that of the latest store of the hart that waits with it
pub record WaitingIsTold : Type 0 where
  pub some : (t : Trace) (h below x tag value : ℕ) (waiting : ℕ → ℕ → Option ℕ) → AreWaiting t h waiting
      → IsLatestWaiting waiting below x tag value
      → (v : Op) × IsLatest (IsWaitingBelow t h below x) v × (v.name.tag ≡ tag) × (put_at v x ≡ value)
  pub none : (t : Trace) (h below x : ℕ) (waiting : ℕ → ℕ → Option ℕ) → AreWaiting t h waiting
      → ((tag : ℕ) → tag < below → waiting tag x ≡ None) → (v : Op) → IsWaitingBelow t h below x v → ⊥
