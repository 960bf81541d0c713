use Rattle.std.proofs.Common.{◌≡◌}
use Rattle.rvwmo_model.specs.Search.{first_at}
use Rattle.rvwmo_model.specs.Tests.{is_torn_at}
use Rattle.rvwmo_model.proofs.judge.atomic.torn_byte.Given as goal

abbrev pub invariant-loop-j : goal.invariant-loop-j
invariant-loop-j l = l.found ≡ first_at (is_torn_at l.t l.r l.w) l.r.extent.addr l.j
