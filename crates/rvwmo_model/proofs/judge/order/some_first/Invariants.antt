use Rattle.std.proofs.Common.{◌≡◌, drop}
use Rattle.rvwmo_model.specs.Tests.{is_broken}
use Rattle.rvwmo_model.proofs.judge.order.some_first.Given as goal
use Rattle.std.specs.List.{list_any}

abbrev pub invariant-loop-a : goal.invariant-loop-a
invariant-loop-a l = list_any (λ a. is_broken l.rule l.t a l.b) l.ops ≡ list_any (λ a. is_broken l.rule l.t a l.b)
    (drop l.a-index l.ops)
