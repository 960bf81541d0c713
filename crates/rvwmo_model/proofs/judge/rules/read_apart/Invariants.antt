use Rattle.std.proofs.Common.{◌≡◌}
use Rattle.rvwmo_model.specs.Tests.{read_apart_at}
use Rattle.rvwmo_model.specs.Search.{some_at}
use Rattle.rvwmo_model.proofs.judge.rules.read_apart.Given as goal

abbrev pub invariant-loop-j : goal.invariant-loop-j
invariant-loop-j l = l.found ≡ some_at (read_apart_at l.t l.a l.b) l.a.extent.addr l.j
