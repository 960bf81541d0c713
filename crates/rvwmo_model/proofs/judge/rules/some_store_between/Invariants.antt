use Rattle.std.proofs.Common.{◌≡◌, drop}
use Rattle.rvwmo_model.specs.Tests.{store_between}
use Rattle.rvwmo_model.proofs.judge.rules.some_store_between.Given as goal
use Rattle.std.specs.List.{list_any}

abbrev pub invariant-loop-o : goal.invariant-loop-o
invariant-loop-o l = list_any (store_between l.a l.b l.x) l.ops ≡ list_any (store_between l.a l.b l.x)
    (drop l.o-index l.ops)
