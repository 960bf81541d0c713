use Rattle.std.proofs.Common.{◌≡◌, reverse, take}
use Rattle.matching.specs.Reports
use Rattle.matching.proofs.reports.early_of.Given as goal

abbrev pub invariant-loop-report : goal.invariant-loop-report
invariant-loop-report l =
    l.found ≡ Reports.early_of (reverse (take l.report-index l.early)) l.hart l.tag
