use Rattle.std.proofs.Common.{◌≡◌, drop}
use Rattle.rvwmo_model.specs.Tests.{is_pair_torn}
use Rattle.rvwmo_model.proofs.judge.answers.some_lr.Given as goal
use Rattle.std.specs.List.{list_any}

abbrev pub invariant-loop-r : goal.invariant-loop-r
invariant-loop-r l =
    list_any (λ r. is_pair_torn l.t r l.w) l.ops ≡ list_any (λ r. is_pair_torn l.t r l.w) (drop l.r-index l.ops)
