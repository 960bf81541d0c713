use Rattle.std.proofs.Common.{◌≡◌, reverse, take}
use Rattle.matching.specs.EndFaults.{first_bypass}
use Rattle.matching.proofs.reports.first_early.Given as goal

abbrev pub invariant-loop-report : goal.invariant-loop-report
invariant-loop-report l =
    l.least ≡ first_bypass (reverse (take l.report-index l.early))
