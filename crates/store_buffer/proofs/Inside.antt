-- Bytes among those of a store.
use Rattle.std.proofs.Common.{ℕ, ◌≡◌, ◌+◌, ◌≤◌, ◌&&◌, nat_le, length, true, arith}
use Rattle.std.proofs.lemmas.Bool.Decides.{nat_tests}
use Rattle.msg_frames.specs.declared.message.Piece.{Piece}
use Rattle.store_buffer.specs.declared.store.Store.{Store}
use Rattle.store_buffer.specs.Store.{covers}

both : (a b c d : ℕ) → (nat_le a b && nat_le c d) ≡ true → (a ≤ b) × (c ≤ d)
both a b c d e = (grind (arith, nat_tests, e), grind (arith, nat_tests, e))

pub inside : (s : Store) (piece : Piece) → covers s piece ≡ true → (s.entry.piece.addr ≤ piece.addr)
    × (piece.addr + length piece.bytes ≤ s.entry.piece.addr + length s.entry.piece.bytes)
inside s piece e = both s.entry.piece.addr piece.addr (piece.addr + length piece.bytes)
    (s.entry.piece.addr + length s.entry.piece.bytes) e
