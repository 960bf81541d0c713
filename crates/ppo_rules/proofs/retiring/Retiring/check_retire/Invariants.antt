use Rattle.ppo_rules.proofs.Joined.{NoneBelow}
use Rattle.ppo_rules.proofs.retiring.Retiring.check_retire.Given as goal

-- no rule before this one has an answer
abbrev pub invariant-loop-rule : goal.invariant-loop-rule
invariant-loop-rule l = NoneBelow l.rule l.self l.ops
