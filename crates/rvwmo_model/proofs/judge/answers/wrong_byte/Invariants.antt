use Rattle.std.proofs.Common.{◌≡◌}
use Rattle.rvwmo_model.specs.Search.{first_at}
use Rattle.rvwmo_model.specs.Tests.{is_wrong}
use Rattle.rvwmo_model.proofs.judge.answers.wrong_byte.Given as goal

abbrev pub invariant-loop-j : goal.invariant-loop-j
invariant-loop-j g l = l.found ≡ first_at (is_wrong (g.I.InitialBytes.initial_of l.image) l.t l.i) l.i.extent.addr l.j
