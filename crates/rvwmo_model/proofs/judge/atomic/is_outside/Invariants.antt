use Rattle.std.proofs.Common.{◌≡◌, ◌&&◌, not}
use Rattle.rvwmo_model.specs.Order.{has_byte}
use Rattle.rvwmo_model.specs.Search.{some_at}
use Rattle.rvwmo_model.proofs.judge.atomic.is_outside.Given as goal

abbrev pub invariant-loop-j : goal.invariant-loop-j
invariant-loop-j l = l.found ≡ some_at (λ x. has_byte x l.w && not (has_byte x l.r)) l.w.extent.addr l.j
