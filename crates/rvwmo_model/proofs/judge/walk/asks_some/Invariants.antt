use Rattle.std.proofs.Common.{drop}
use Rattle.rvwmo_model.specs.Walk.{AsksSome}
use Rattle.rvwmo_model.proofs.judge.walk.asks_some.Given as goal

abbrev pub invariant-loop-w : goal.invariant-loop-w
invariant-loop-w l = AsksSome l.search l.insns → AsksSome l.search (drop l.w-index l.insns)
