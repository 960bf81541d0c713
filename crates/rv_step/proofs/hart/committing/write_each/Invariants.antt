use Rattle.std.proofs.Common.{◌≡◌, drop}
use Rattle.rv_step.specs.Steps.{csrs_set}
use Rattle.rv_step.proofs.hart.committing.write_each.Given as goal

abbrev pub invariant-loop-k : goal.invariant-loop-k
invariant-loop-k l = csrs_set l.csrs (drop l.k l.list) ≡ csrs_set l.fn.csrs l.list
