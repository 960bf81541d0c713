use Rattle.ppo_rules.proofs.Joined.{NoneYet}
use Rattle.ppo_rules.proofs.retiring.Retiring.pair_by.Given as goal

-- none of the operations before this one has an answer
abbrev pub invariant-loop-fresh : goal.invariant-loop-fresh
invariant-loop-fresh l = NoneYet l.rule l.self l.ops l.fresh-index
