use Rattle.std.proofs.Common.{◌≡◌, ◌<◌, length, drop, slice_index}
use Rattle.trace_gen.specs.Schedule.{harts_left}
use Rattle.trace_gen.proofs.schedule.find_left.Given as goal

abbrev pub invariant-loop-hart : goal.invariant-loop-hart
invariant-loop-hart l =
    (l.before < length (harts_left l.rounds l.hart (drop l.hart l.harts)))
    × (slice_index (harts_left l.rounds l.hart (drop l.hart l.harts)) l.before
    ≡ slice_index (harts_left l.rounds 0 l.harts) l.place)
