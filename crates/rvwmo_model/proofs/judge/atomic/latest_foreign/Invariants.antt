use Rattle.std.proofs.Common.{◌≡◌, drop}
use Rattle.std.specs.List.{filter}
use Rattle.rvwmo_model.specs.Sources.{latest_from}
use Rattle.rvwmo_model.specs.Tests.{is_foreign}
use Rattle.rvwmo_model.proofs.judge.atomic.latest_foreign.Given as goal

abbrev pub invariant-loop-v : goal.invariant-loop-v
invariant-loop-v l = latest_from l.fn.start (filter (is_foreign l.w l.x) l.list) ≡ latest_from l.best
    (filter (is_foreign l.w l.x) (drop l.v-index l.list))
