-- The latest of the operations that have a property, in global order.
use Rattle.std.specs.Prelude.{Option, None, Some}
use Rattle.rvwmo_model.specs.declared.operations.Op.{Op}
use Rattle.rvwmo_model.specs.Report.{IsLatest}

-- m is the latest that has the property, or none has it
abbrev pub IsLatestIfAny : (Op → Type 0) → Option Op → Type 0
IsLatestIfAny P None = (v : Op) → P v → ⊥
IsLatestIfAny P (Some m) = IsLatest P m

-- the first where there is one, else the second
abbrev pub first_there : Option Op → Option Op → Option Op
first_there None n = n
first_there (Some m) n = Some m
