use Rattle.std.proofs.Common.{◌≡◌, reverse, take, IfSome, true}
use Rattle.matching.specs.Reports
use Rattle.msg_frames.specs.Pieces.{has}
use Rattle.matching.proofs.reports.counting.Given as goal

abbrev pub invariant-loop-report : goal.invariant-loop-report
invariant-loop-report l =
    (l.found ≡ Reports.counting (reverse (take l.report-index l.live)) l.tag l.x)
    × IfSome l.found (λ r. has r.piece l.x ≡ true)
