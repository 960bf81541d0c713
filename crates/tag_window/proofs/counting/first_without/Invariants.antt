use Rattle.std.proofs.Common.{◌≡◌, ◌<◌, ℕ, None, true, is_some, slice_index_or}
use Rattle.tag_window.proofs.counting.first_without.Given as goal

abbrev pub invariant-loop-k : goal.invariant-loop-k
invariant-loop-k l = (i : ℕ) → i < l.k → is_some (slice_index_or l.slots i None) ≡ true
