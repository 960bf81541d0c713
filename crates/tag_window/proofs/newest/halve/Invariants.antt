use Rattle.std.proofs.Common.{◌<◌, ◌≤◌, ◌-◌, ℕ, length, slice_index_or}
use Rattle.tag_window.specs.declared.newest.Newest.{Newest}
use Rattle.tag_window.proofs.newest.halve.Given as goal

abbrev pub invariant-loop-low : goal.invariant-loop-low
invariant-loop-low l = record {
  order : l.low ≤ l.high;
  within : l.high ≤ length l.newest.items;
  below : (k : ℕ) (d : Newest) → k < l.low → (slice_index_or l.newest.items k d).tag < l.tag;
  from : (k : ℕ) (d : Newest) → l.high ≤ k → k < length l.newest.items
      → l.tag ≤ (slice_index_or l.newest.items k d).tag;
}

abbrev pub decreases-loop-low : goal.decreases-loop-low
decreases-loop-low l = l.high - l.low
