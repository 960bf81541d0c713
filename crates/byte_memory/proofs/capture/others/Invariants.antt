use Rattle.std.proofs.Common.{◌≡◌, ◌≤◌, ℕ, None, length, slice_index_or}
use Rattle.byte_memory.specs.Captures.{other_from}
use Rattle.byte_memory.proofs.capture.others.Given as goal

abbrev pub invariant-loop-k : goal.invariant-loop-k
invariant-loop-k l = record {
  whole : length l.other ≡ 8;
  size : l.size ≤ 8;
  so_far : (j : ℕ) → slice_index_or l.other j None ≡ other_from l.memory l.base l.k j;
}
