-- How a check tells what it found.
use Rattle.std.specs.Prelude.{◌≡◌, OnErr, Some, None, Ok, Err}
use Rattle.std.specs.declared.option.Option.{Option}
use Rattle.std.specs.declared.result.Result.{Result}
use Rattle.verdict_report.specs.declared.fault.Fault.{Fault}
use Rattle.matching.specs.declared.faulty.Faulty.{Faulty}

-- whether there is no fault
abbrev pub told : Option Fault → Result (Unit {0}) Faulty
told None = Ok tt
told (Some fault) = Err (record {})

-- a check of a fault tells whether there is none, and puts one that there is into the place that it was lent
abbrev pub Checks : Option Fault → Result (Unit {0}) Faulty → Option Fault → Type 0
Checks fault result place = (result ≡ told fault) × OnErr result (place ≡ fault)
