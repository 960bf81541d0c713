use Rattle.std.proofs.Common.{◌≡◌, ◌<◌, ℕ, length, slice_index}
use Rattle.tag_window.specs.Slots.{IsFirstSame}
use Rattle.tag_window.proofs.counting.parts_of.Given as goal

abbrev pub invariant-loop-k : goal.invariant-loop-k
invariant-loop-k l = record {
  size : length l.parts ≡ 8;
  same : (i : ℕ) → i < l.k → IsFirstSame l.slots i (slice_index l.parts i);
}
