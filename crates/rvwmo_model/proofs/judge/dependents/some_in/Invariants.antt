use Rattle.std.proofs.Common.{◌≡◌, drop}
use Rattle.rvwmo_model.specs.Looks.{some_in}
use Rattle.rvwmo_model.proofs.judge.dependents.some_in.Given as goal

abbrev pub invariant-loop-k : goal.invariant-loop-k
invariant-loop-k l = some_in l.first l.last l.tags ≡ some_in l.first l.last (drop l.k-index l.tags)
