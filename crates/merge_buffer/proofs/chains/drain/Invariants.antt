use Rattle.std.proofs.Common.{◌≡◌, ◌+◌, ◌≤◌, vec_len, vec_capacity}
use Rattle.slab.specs.Slab.{get, slab_len}
use Rattle.merge_buffer.proofs.Walks.{Draining}
use Rattle.merge_buffer.proofs.chains.drain.Given as goal

abbrev pub invariant-loop-at : goal.invariant-loop-at
invariant-loop-at l = record {
  draining : Draining (get l.fn.waiting) (get l.waiting) l.fn.head l.at l.line l.fn.drained.items l.drained.items
      (slab_len l.fn.waiting) (slab_len l.waiting);
  room : vec_len l.drained + slab_len l.waiting ≤ vec_capacity l.drained;
  capacity : l.waiting.capacity ≡ l.fn.waiting.capacity;
  reserved : vec_capacity l.fn.drained ≤ vec_capacity l.drained;
}

abbrev pub decreases-loop-at : goal.decreases-loop-at
decreases-loop-at l = slab_len l.waiting
