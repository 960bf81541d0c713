use Rattle.std.proofs.Common.{refl}
use Rattle.trace_gen.proofs.schedule.Run.say_step.Goals as goal

pub returns-in-AddOne : goal.returns-in-AddOne
returns-in-AddOne c = rw c.in-AddOne.is (c.say_add.ensures c.args.at.now refl)
