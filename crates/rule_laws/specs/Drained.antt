-- Operations that one message performs, the last performed first.
use Rattle.std.specs.Prelude.{◌≡◌, List, [], ◌∷◌, Bool, true, Option, None, Some, if◌then◌else◌}
use Rattle.std.specs.List.{Contains}
use Rattle.rvwmo_model.specs.declared.operations.Op.{Op}
use Rattle.rvwmo_model.specs.Order.{precedes}

-- each precedes all that stand before it in the list
abbrev pub AreFalling : List Op → Type 0
AreFalling [] = Unit {0}
AreFalling (p ∷ ps) = ((q : Op) → Contains ps q → precedes q p ≡ true) × AreFalling ps

-- the first of a list that passes
abbrev pub first_passing : (Op → Bool) → List Op → Option Op
first_passing test [] = None
first_passing test (p ∷ ps) = if test p then Some p else first_passing test ps
