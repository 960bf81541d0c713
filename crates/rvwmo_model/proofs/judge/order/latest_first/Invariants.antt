use Rattle.std.proofs.Common.{◌≡◌, None, drop}
use Rattle.std.specs.List.{filter}
use Rattle.rvwmo_model.specs.Sources.{latest_from}
use Rattle.rvwmo_model.specs.Tests.{is_broken}
use Rattle.rvwmo_model.proofs.judge.order.latest_first.Given as goal

abbrev pub invariant-loop-a : goal.invariant-loop-a
invariant-loop-a l = latest_from None (filter (λ a. is_broken l.rule l.t a l.b) l.ops) ≡ latest_from l.best
    (filter (λ a. is_broken l.rule l.t a l.b) (drop l.a-index l.ops))
