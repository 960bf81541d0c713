-- What waiting stores stand for in a trace.
use Rattle.std.specs.Prelude.{ℕ, ◌<◌, ◌≡◌, Option, None, Some, true}
use Rattle.std.specs.List.{Contains}
use Rattle.rvwmo_model.specs.declared.operations.Op.{Op}
use Rattle.rvwmo_model.specs.declared.traces.Trace.{Trace}
use Rattle.rvwmo_model.specs.Order.{writes, put_at}

-- v is a store of hart h to byte x that isn't performed
abbrev pub IsWaiting : Trace → ℕ → ℕ → Op → Type 0
IsWaiting t h x v = Contains t.ops v × (v.name.hart ≡ h) × (v.place ≡ None) × (writes x v ≡ true)

-- and is of an instruction before this tag
abbrev pub IsWaitingBelow : Trace → ℕ → ℕ → ℕ → Op → Type 0
IsWaitingBelow t h below x v = IsWaiting t h x v × (v.name.tag < below)

-- the bytes that wait under each tag of hart h, each at its address with its value, are those of its stores that aren't
-- performed
pub record AreWaiting (t : Trace) (h : ℕ) (waiting : ℕ → ℕ → Option ℕ) : Type 0 where
  pub each : (tag x value : ℕ) → waiting tag x ≡ Some value
      → (v : Op) × IsWaiting t h x v × (v.name.tag ≡ tag) × (put_at v x ≡ value)
  pub all : (v : Op) (x : ℕ) → IsWaiting t h x v → waiting v.name.tag x ≡ Some (put_at v x)

-- the byte at x waits with this value under the tag, which is below a bound, and under no greater one
pub record IsLatestWaiting (waiting : ℕ → ℕ → Option ℕ) (below x tag value : ℕ) : Type 0 where
  pub here : waiting tag x ≡ Some value
  pub inside : tag < below
  pub latest : (k : ℕ) → tag < k → k < below → waiting k x ≡ None
