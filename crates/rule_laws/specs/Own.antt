-- The operations of a hart.
use Rattle.std.specs.Prelude.{ℕ, ◌≡◌, None}
use Rattle.std.specs.List.{Contains}
use Rattle.rvwmo_model.specs.declared.operations.Op.{Op}
use Rattle.rvwmo_model.specs.declared.traces.Trace.{Trace}
use Rattle.rvwmo_model.specs.InForm.{IsPlaced}

-- v is an operation of hart h
abbrev pub IsOwn : Trace → ℕ → Op → Type 0
IsOwn t h v = Contains t.ops v × (v.name.hart ≡ h)

-- and was performed
abbrev pub IsOwnPerformed : Trace → ℕ → Op → Type 0
IsOwnPerformed t h v = IsOwn t h v × IsPlaced v

-- v is an operation of hart h that waits: it isn't performed
abbrev pub IsOwnWaiting : Trace → ℕ → Op → Type 0
IsOwnWaiting t h v = IsOwn t h v × (v.place ≡ None)
