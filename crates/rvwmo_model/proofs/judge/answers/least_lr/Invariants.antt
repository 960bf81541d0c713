use Rattle.std.proofs.Common.{◌≡◌, None, drop}
use Rattle.std.specs.List.{filter}
use Rattle.rvwmo_model.specs.Answer.{is_named_first}
use Rattle.rvwmo_model.specs.Search.{best_from}
use Rattle.rvwmo_model.specs.Tests.{is_pair_torn}
use Rattle.rvwmo_model.proofs.judge.answers.least_lr.Given as goal

abbrev pub invariant-loop-r : goal.invariant-loop-r
invariant-loop-r l =
    best_from is_named_first None (filter (λ r. is_pair_torn l.t r l.w) l.ops) ≡ best_from is_named_first
    l.best (filter (λ r. is_pair_torn l.t r l.w) (drop l.r-index l.ops))
