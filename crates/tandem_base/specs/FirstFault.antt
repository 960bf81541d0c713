-- The first fault of several tests. A test answers None where all is fine.
use Rattle.std.specs.Prelude.{Option, Some, None, Result, Ok, Err}
use Rattle.std.specs.Option.{option_or}

infixr 30 ◌or_else◌
-- the library's option_or, between its two: the first fault where there is one, and else the later
abbrev pub ◌or_else◌ : {X : Type 0} → Option X → Option X → Option X
first or_else later = option_or first later

-- the value where there is no fault, and else the fault
abbrev pub unless : {F X : Type 0} → Option F → X → Result X F
unless None value = Ok value
unless (Some fault) value = Err fault

-- no fault is Ok, and a fault is an error
abbrev pub passed : {F : Type 0} → Option F → Result (Unit {0}) F
passed fault = unless fault tt
