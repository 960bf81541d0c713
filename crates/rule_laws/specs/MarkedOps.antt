-- What the running marks of a hart stand for.
use Rattle.std.specs.Prelude.{ℕ, ◌≡◌, Bool, true}
use Rattle.rvwmo_model.specs.declared.operations.Op.{Op}
use Rattle.rvwmo_model.specs.declared.traces.Trace.{Trace}
use Rattle.rule_laws.specs.Own.{IsOwnPerformed}
use Rattle.rule_laws.specs.Fences.{Class, FencedOff}

-- v is a performed operation of hart h that passes a test: that it loads, stores, stores to a byte, acquires, is RCsc
abbrev pub IsMarked : Trace → ℕ → (Op → Bool) → Op → Type 0
IsMarked t h test v = IsOwnPerformed t h v × (test v ≡ true)

-- v is a performed operation of hart h that a FENCE of the order is after
abbrev pub IsFenced : Trace → ℕ → Class → Class → Op → Type 0
IsFenced t h c d v = IsOwnPerformed t h v × FencedOff t h c d v
