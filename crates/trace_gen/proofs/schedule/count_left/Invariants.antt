use Rattle.std.proofs.Common.{◌≡◌, ◌+◌, ◌≤◌, length, drop}
use Rattle.trace_gen.specs.Schedule.{harts_left}
use Rattle.trace_gen.proofs.schedule.count_left.Given as goal

abbrev pub invariant-loop-progress : goal.invariant-loop-progress
invariant-loop-progress l =
    (l.left + length (harts_left l.rounds l.progress-index (drop l.progress-index l.harts))
    ≡ length (harts_left l.rounds 0 l.harts))
    × (l.left ≤ l.progress-index)
