use Rattle.std.proofs.Common.{◌≡◌, ◌<◌, ◌≤◌, ◌+◌, ℕ, None, length, slice_index_or}
use Rattle.msg_frames.specs.Pieces.{has}
use Rattle.tag_window.specs.Slots.{noted}
use Rattle.tag_window.proofs.counting.note.Given as goal

abbrev pub invariant-loop-k : goal.invariant-loop-k
invariant-loop-k l = record {
  size : length l.slots ≡ 8;
  below : (j : ℕ) → j < l.k → slice_index_or l.slots j None
      ≡ noted (has l.piece (l.load.addr + j)) l.slot (slice_index_or l.fn.slots j None);
  above : (j : ℕ) → l.k ≤ j → slice_index_or l.slots j None ≡ slice_index_or l.fn.slots j None;
}
