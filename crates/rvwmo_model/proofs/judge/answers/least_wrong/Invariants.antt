use Rattle.std.proofs.Common.{◌≡◌, None, drop, is_some}
use Rattle.std.specs.List.{filter}
use Rattle.rvwmo_model.specs.Answer.{is_named_first}
use Rattle.rvwmo_model.specs.Search.{best_from}
use Rattle.rvwmo_model.specs.Tests.{wrong_byte}
use Rattle.rvwmo_model.proofs.judge.answers.least_wrong.Given as goal

abbrev pub invariant-loop-i : goal.invariant-loop-i
invariant-loop-i g l =
    best_from is_named_first None
    (filter (λ i. is_some (wrong_byte (g.I.InitialBytes.initial_of l.image) l.t i)) l.ops) ≡ best_from is_named_first
    l.best (filter (λ i. is_some (wrong_byte (g.I.InitialBytes.initial_of l.image) l.t i)) (drop l.i-index l.ops))
