use Rattle.std.proofs.Common.{◌≡◌, None, drop}
use Rattle.std.specs.List.{filter}
use Rattle.rvwmo_model.specs.Answer.{is_named_first}
use Rattle.rvwmo_model.specs.Search.{best_from}
use Rattle.rvwmo_model.specs.Tests.{is_unpaired}
use Rattle.rvwmo_model.proofs.judge.answers.least_unpaired.Given as goal

abbrev pub invariant-loop-w : goal.invariant-loop-w
invariant-loop-w l = best_from is_named_first None (filter (is_unpaired l.t) l.ops) ≡ best_from is_named_first l.best
    (filter (is_unpaired l.t) (drop l.w-index l.ops))
