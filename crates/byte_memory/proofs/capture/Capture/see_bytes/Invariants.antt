use Rattle.std.proofs.Common.{◌≡◌, ◌<◌, ℕ, None, slice_index, slice_index_or}
use Rattle.elf_image.specs.Images.{loaded_of}
use Rattle.byte_memory.specs.Captures.{cell_from}
use Rattle.byte_memory.proofs.capture.Capture.see_bytes.Given as goal

abbrev pub invariant-loop-k : goal.invariant-loop-k
invariant-loop-k l = record {
  place : l.self.place ≡ l.fn.self.place;
  base : l.self.base ≡ l.fn.self.base;
  value : (j : ℕ) → j < l.k → slice_index l.self.values j ≡
      (cell_from l.memory (loaded_of l.image) l.extent.addr l.extent.len j).value;
  last : (j : ℕ) → j < l.k → slice_index_or l.self.last j None ≡
      (cell_from l.memory (loaded_of l.image) l.extent.addr l.extent.len j).last;
}
