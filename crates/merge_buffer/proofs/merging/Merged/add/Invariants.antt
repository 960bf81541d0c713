use Rattle.std.proofs.Common.{ℕ, ◌≡◌, ◌+◌, ◌*◌, ◌<◌}
use Rattle.merge_buffer.specs.Parts.{}
use Rattle.tandem_base.specs.FirstFault.{◌or_else◌}
use Rattle.merge_buffer.specs.Chains.{merged_byte}
use Rattle.merge_buffer.proofs.Merges.{front_byte}
use Rattle.merge_buffer.proofs.merging.Merged.add.Given as goal

abbrev pub invariant-loop-k : goal.invariant-loop-k
invariant-loop-k l = (j : ℕ) → j < 64 → merged_byte l.self j
    ≡ ◌or_else◌ (merged_byte l.initial.self j) (front_byte l.piece l.k (l.line * 64 + j))
