use Rattle.std.proofs.Common.{◌≡◌, None, drop}
use Rattle.std.specs.List.{filter}
use Rattle.rvwmo_model.specs.Answer.{is_named_first}
use Rattle.rvwmo_model.specs.Search.{best_from}
use Rattle.rvwmo_model.specs.LastAnswer.{retires_torn}
use Rattle.rvwmo_model.proofs.judge.newest.least_torn.Given as goal

abbrev pub invariant-loop-w : goal.invariant-loop-w
invariant-loop-w l =
    best_from is_named_first None (filter (retires_torn l.t l.hart l.tag) l.ops) ≡ best_from is_named_first l.best
    (filter (retires_torn l.t l.hart l.tag) (drop l.w-index l.ops))
