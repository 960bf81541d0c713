use Rattle.drain_rules.proofs.Steps.{Progress}
use Rattle.drain_rules.proofs.worst.worst_of.Given as goal

-- the answer for the parts before this one
abbrev pub invariant-loop-index : goal.invariant-loop-index
invariant-loop-index l = Progress l.hart l.stores l.parts l.index l.seen l.worst
