use Rattle.std.proofs.Common.{ℕ, ◌≡◌, ◌+◌, ◌<◌}
use Rattle.msg_frames.specs.Pieces.{byte_written}
use Rattle.merge_buffer.specs.Chains.{merged_byte}
use Rattle.merge_buffer.proofs.merging.first_difference.Given as goal

abbrev pub invariant-loop-k : goal.invariant-loop-k
invariant-loop-k l = (j : ℕ) → j < l.k → merged_byte l.merged j ≡ byte_written l.write (l.write.line + j)
