use Rattle.std.proofs.Common.{◌≡◌, replicate}
use Rattle.trace_gen.specs.Rounds.{first_progress}
use Rattle.trace_gen.specs.Making.{opened}
use Rattle.trace_gen.proofs.schedule.Run.open.Given as goal

abbrev pub invariant-loop-hart : goal.invariant-loop-hart
invariant-loop-hart l = l.run ≡ record {
  random = l.seed;
  counter = 0;
  harts = replicate l.harts first_progress;
  messages = opened l.harts l.hart;
}
