-- The latest of some operations, above a standing in global order.
use Rattle.std.specs.Prelude.{ℕ, ◌≡◌, List, [], ◌∷◌, Option, None, Some, true, if◌then◌else◌}
use Rattle.rvwmo_model.specs.declared.operations.Op.{Op}
use Rattle.rvwmo_model.specs.Order.{Standing, stands_before, standing}
use Rattle.rvwmo_model.specs.Sources.{later}

-- v has the property, and comes after a standing: that of an operation, or of the oldest place that still matters
abbrev pub Over : (Op → Type 0) → Standing → Op → Type 0
Over P q v = P v × (stands_before q (standing v) ≡ true)

-- an operation, where it comes after a standing
abbrev pub if_over : Standing → Option Op → Option Op
if_over q None = None
if_over q (Some m) = if stands_before q (standing m) then Some m else None

-- the later of two, where they are there
abbrev pub later_of : Option Op → Option Op → Option Op
later_of m None = m
later_of m (Some n) = later m n

-- the latest of the answers for some bytes
abbrev pub latest_of_bytes : (ℕ → Option Op) → List ℕ → Option Op
latest_of_bytes f [] = None
latest_of_bytes f (x ∷ xs) = later_of (f x) (latest_of_bytes f xs)
