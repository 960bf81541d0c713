use Rattle.std.proofs.Common.{◌≡◌, None, drop}
use Rattle.std.specs.List.{filter}
use Rattle.rvwmo_model.specs.Answer.{is_named_first, has_first}
use Rattle.rvwmo_model.specs.Search.{best_from}
use Rattle.rvwmo_model.proofs.judge.order.least_second.Given as goal

abbrev pub invariant-loop-b : goal.invariant-loop-b
invariant-loop-b l = best_from is_named_first None (filter (has_first l.rule l.t) l.ops) ≡ best_from is_named_first
    l.best (filter (has_first l.rule l.t) (drop l.b-index l.ops))
