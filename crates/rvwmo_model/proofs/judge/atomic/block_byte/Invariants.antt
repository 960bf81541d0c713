use Rattle.std.proofs.Common.{◌≡◌}
use Rattle.rvwmo_model.specs.Search.{first_at}
use Rattle.rvwmo_model.specs.Tests.{writes_block}
use Rattle.rvwmo_model.proofs.judge.atomic.block_byte.Given as goal

abbrev pub invariant-loop-j : goal.invariant-loop-j
invariant-loop-j l = l.found ≡ first_at (writes_block l.t l.r l.v) l.v.extent.addr l.j
