use Rattle.std.proofs.Common.{◌≡◌}
use Rattle.rvwmo_model.specs.Looks.{tags_from}
use Rattle.rvwmo_model.proofs.judge.looks.tags_read.Given as goal

abbrev pub invariant-loop-j : goal.invariant-loop-j
invariant-loop-j l = l.tags.items ≡ tags_from l.t l.b l.b.extent.addr l.j
