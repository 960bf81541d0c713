use Rattle.std.proofs.Common.{◌≡◌, ◌&&◌, drop}
use Rattle.std.specs.List.{filter}
use Rattle.rvwmo_model.specs.Order.{writes, precedes}
use Rattle.rvwmo_model.specs.Sources.{latest_from}
use Rattle.rvwmo_model.proofs.judge.sources.latest_early.Given as goal

abbrev pub invariant-loop-w : goal.invariant-loop-w
invariant-loop-w l =
    latest_from l.fn.start (filter (λ w. writes l.x w && precedes w l.i) l.early) ≡ latest_from l.best
    (filter (λ w. writes l.x w && precedes w l.i) (drop l.w-index l.early))
