use Rattle.std.proofs.Common.{◌≡◌, drop}
use Rattle.rvwmo_model.specs.Answer.{order_from}
use Rattle.rvwmo_model.proofs.judge.order.order_from.Given as goal

abbrev pub invariant-loop-rule : goal.invariant-loop-rule
invariant-loop-rule l = order_from l.t l.rules ≡ order_from l.t (drop l.rule-index l.rules)
