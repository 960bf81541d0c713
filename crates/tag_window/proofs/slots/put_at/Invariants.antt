use Rattle.std.proofs.Common.{◌≡◌, ◌<◌, ◌≤◌, ℕ, length, slice_index_or, vec_capacity, ◌+◌, ◌-◌}
use Rattle.tag_window.proofs.slots.put_at.Given as goal

abbrev pub invariant-loop-items : goal.invariant-loop-items
invariant-loop-items g l = record {
  there : (k : ℕ) (d : g.row.T.Denot) → length l.fn.items.items ≤ k → k < length l.items.items →
      slice_index_or l.items.items k d ≡ l.item;
  past : length l.fn.items.items ≤ l.slot;
  others : (k : ℕ) (d : g.row.T.Denot) → k < length l.fn.items.items →
      slice_index_or l.items.items k d ≡ slice_index_or l.fn.items.items k d;
  upto : length l.items.items ≤ l.slot + 1;
  grows : length l.fn.items.items ≤ length l.items.items;
  capacity : vec_capacity l.items ≡ vec_capacity l.fn.items;
}

abbrev pub decreases-loop-items : goal.decreases-loop-items
decreases-loop-items g l = l.slot + 1 - length l.items.items
