use Rattle.std.proofs.Common.{◌≡◌, None, drop}
use Rattle.std.specs.List.{filter}
use Rattle.rvwmo_model.specs.Answer.{is_named_first}
use Rattle.rvwmo_model.specs.Search.{best_from}
use Rattle.rvwmo_model.specs.LastAnswer.{retires_wrong}
use Rattle.rvwmo_model.proofs.judge.newest.least_wrong_at.Given as goal

abbrev pub invariant-loop-i : goal.invariant-loop-i
invariant-loop-i g l =
    best_from is_named_first None
    (filter (retires_wrong (g.I.InitialBytes.initial_of l.image) l.t l.hart l.tag l.x) l.ops) ≡ best_from is_named_first
    l.best (filter (retires_wrong (g.I.InitialBytes.initial_of l.image) l.t l.hart l.tag l.x) (drop l.i-index l.ops))
