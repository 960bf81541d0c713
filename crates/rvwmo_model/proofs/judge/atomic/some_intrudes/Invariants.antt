use Rattle.std.proofs.Common.{◌≡◌, drop}
use Rattle.rvwmo_model.specs.Tests.{intrudes}
use Rattle.rvwmo_model.proofs.judge.atomic.some_intrudes.Given as goal
use Rattle.std.specs.List.{list_any}

abbrev pub invariant-loop-v : goal.invariant-loop-v
invariant-loop-v l = list_any (intrudes l.source l.w l.x) l.list ≡ list_any (intrudes l.source l.w l.x)
    (drop l.v-index l.list)
