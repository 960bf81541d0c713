use Rattle.std.proofs.Common.{◌≡◌}
use Rattle.trace_gen.specs.Schedule.{after_turns}
use Rattle.trace_gen.specs.Making.{before_turns}
use Rattle.trace_gen.proofs.making.made_messages.Given as goal

abbrev pub invariant-loop-turn : goal.invariant-loop-turn
invariant-loop-turn l = l.run ≡ after_turns l.count l._turn (before_turns l.seed l.harts)
