use Rattle.std.proofs.Common.{◌≡◌, ◌<◌, ℕ, None}
use Rattle.amo_pairing.specs.Breaches.{blamed_at}
use Rattle.amo_pairing.proofs.reservation.Reservation.broken_byte.Given as goal

abbrev pub invariant-loop-k : goal.invariant-loop-k
invariant-loop-k l = (j : ℕ) → j < l.k → blamed_at l.self l.hart l.seen j ≡ None
