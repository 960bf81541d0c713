use Rattle.std.proofs.Common.{◌≡◌, drop}
use Rattle.std.specs.List.{filter}
use Rattle.rvwmo_model.specs.Sources.{latest_from}
use Rattle.rvwmo_model.specs.Tests.{intrudes_block}
use Rattle.rvwmo_model.proofs.judge.atomic.latest_in_block.Given as goal

abbrev pub invariant-loop-v : goal.invariant-loop-v
invariant-loop-v l = latest_from l.fn.start (filter (intrudes_block l.t l.r l.w) l.list) ≡ latest_from l.best
    (filter (intrudes_block l.t l.r l.w) (drop l.v-index l.list))
