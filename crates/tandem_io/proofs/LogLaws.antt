-- How what was logged in one call and what was logged in the next join.
use Rattle.std.proofs.Common.{List, [], ◌++◌, arith}
use Rattle.std.specs.Prelude.{Some, None}
use Rattle.std.proofs.lemmas.Grind.{common_steps}
use Rattle.tandem_io.specs.declared.types.Logged.{Logged}
use Rattle.tandem_io.specs.Told.{Log, Logs}

-- a log that stays grew by nothing
pub Logs-nil : (log : Log) → Logs log log []
Logs-nil None = tt
Logs-nil (Some entries) = grind (arith, common_steps)

-- a log that grew by some entries and then by others grew by both
pub Logs-trans : (old between new : Log) (first second : List Logged)
    → Logs old between first → Logs between new second → Logs old new (first ++ second)
Logs-trans None between new first second l m = tt
Logs-trans (Some es) None new first second l m = absurd l
Logs-trans (Some es) (Some fs) None first second l m = absurd m
Logs-trans (Some es) (Some fs) (Some gs) first second l m = grind (arith, common_steps)
