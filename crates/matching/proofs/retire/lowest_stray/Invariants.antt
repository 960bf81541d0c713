use Rattle.std.proofs.Common.{◌≡◌, reverse, take}
use Rattle.rv_step.specs.Plans.{doing_seen}
use Rattle.matching.specs.RetireFaults
use Rattle.matching.proofs.retire.lowest_stray.Given as goal

abbrev pub invariant-loop-report : goal.invariant-loop-report
invariant-loop-report l =
    l.least ≡ RetireFaults.lowest_stray (doing_seen l.what) l.hart l.tag (reverse (take l.report-index l.early))
