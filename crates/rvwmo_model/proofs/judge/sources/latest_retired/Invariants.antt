use Rattle.std.proofs.Common.{◌≡◌, ◌&&◌, ◌||◌, None, drop}
use Rattle.std.specs.List.{filter}
use Rattle.rvwmo_model.specs.Order.{writes, precedes}
use Rattle.rvwmo_model.specs.ProgramOrder.{is_older}
use Rattle.rvwmo_model.specs.Sources.{latest_from}
use Rattle.rvwmo_model.proofs.judge.sources.latest_retired.Given as goal

abbrev pub invariant-loop-w : goal.invariant-loop-w
invariant-loop-w l =
    latest_from None (filter (λ w. writes l.x w && (precedes w l.i || is_older w l.i)) l.ops) ≡ latest_from l.best
    (filter (λ w. writes l.x w && (precedes w l.i || is_older w l.i)) (drop l.w-index l.ops))
