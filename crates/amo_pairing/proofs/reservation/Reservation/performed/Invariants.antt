use Rattle.std.proofs.Common.{◌≡◌, ◌<◌, ◌≤◌, ◌+◌, ℕ}
use Rattle.amo_pairing.specs.Sources.{source_at_byte, given_place}
use Rattle.amo_pairing.proofs.reservation.Reservation.performed.Given as goal

abbrev pub invariant-loop-k : goal.invariant-loop-k
invariant-loop-k l = record {
  extent : l.self.extent ≡ l.fn.self.extent;
  place : l.self.place ≡ l.fn.self.place;
  below : (j : ℕ) → j < l.k → source_at_byte l.self j
      ≡ given_place l.tag l.extent l.place (l.fn.self.extent.addr + j) (source_at_byte l.fn.self j);
  above : (j : ℕ) → l.k ≤ j → source_at_byte l.self j ≡ source_at_byte l.fn.self j;
}
