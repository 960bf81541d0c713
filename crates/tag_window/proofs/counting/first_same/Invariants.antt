use Rattle.std.proofs.Common.{◌≢◌, ◌<◌, ℕ, None, slice_index_or}
use Rattle.tag_window.proofs.counting.first_same.Given as goal

abbrev pub invariant-loop-j : goal.invariant-loop-j
invariant-loop-j l = (i : ℕ) → i < l.j → slice_index_or l.slots i None ≢ slice_index_or l.slots l.k None
