use Rattle.std.proofs.Common.{◌≡◌, drop}
use Rattle.rvwmo_model.specs.Tests.{intrudes_block}
use Rattle.rvwmo_model.proofs.judge.atomic.some_intrudes_block.Given as goal
use Rattle.std.specs.List.{list_any}

abbrev pub invariant-loop-v : goal.invariant-loop-v
invariant-loop-v l = list_any (intrudes_block l.t l.r l.w) l.list ≡ list_any (intrudes_block l.t l.r l.w)
    (drop l.v-index l.list)
