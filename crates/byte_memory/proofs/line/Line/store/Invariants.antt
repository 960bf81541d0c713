use Rattle.std.proofs.Common.{ℕ, ◌≡◌, ◌/◌, ◌%◌}
use Rattle.byte_memory.specs.Memory.{written_in, after_part}
use Rattle.byte_memory.proofs.line.Line.store.Given as goal

abbrev pub invariant-loop-k : goal.invariant-loop-k
invariant-loop-k l = (x : ℕ) → x / 64 ≡ l.line → written_in l.self
    (x % 64) ≡ after_part l.piece l.first l.k l.writer x (written_in l.fn.self (x % 64))
