use Rattle.std.proofs.Common.{◌≡◌, drop}
use Rattle.std.specs.List.{list_any}
use Rattle.rvwmo_model.specs.Tests.{stands_with}
use Rattle.rvwmo_model.proofs.judge.sources.is_operation.Given as goal

abbrev pub invariant-loop-o : goal.invariant-loop-o
invariant-loop-o l = list_any (stands_with l.s) l.ops ≡ list_any (stands_with l.s) (drop l.o-index l.ops)
