use Rattle.std.proofs.Common.{ℕ, ◌≡◌, ◌+◌, ◌<◌, ◌≤◌, None, slice_index, slice_index_or}
use Rattle.elf_image.specs.Images.{loaded_of}
use Rattle.byte_memory.specs.Memory.{value_over}
use Rattle.elf_image.specs.Images.{initial_byte}
use Rattle.byte_memory.proofs.initial.fill_initial.Given as goal

abbrev pub invariant-loop-k : goal.invariant-loop-k
invariant-loop-k l = record {
  filled : (j : ℕ) → j < l.k → slice_index l.values j ≡ value_over (initial_byte (loaded_of l.image) (l.base + j))
      (slice_index_or l.last j None) (slice_index l.initial.values j);
  left : (j : ℕ) → l.k ≤ j → slice_index l.values j ≡ slice_index l.initial.values j;
}
