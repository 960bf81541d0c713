use Rattle.std.proofs.Common.{◌≡◌, ◌&&◌}
use Rattle.rvwmo_model.specs.Order.{has_byte, writes}
use Rattle.rvwmo_model.specs.Search.{some_at}
use Rattle.rvwmo_model.proofs.judge.rules.overlap.Given as goal

abbrev pub invariant-loop-j : goal.invariant-loop-j
invariant-loop-j l = l.found ≡ some_at (λ x. has_byte x l.a && writes x l.b) l.a.extent.addr l.j
