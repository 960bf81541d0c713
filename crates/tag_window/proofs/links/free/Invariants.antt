use Rattle.std.proofs.Common.{◌≡◌}
use Rattle.slab.specs.Slab.{get, slab_len}
use Rattle.tag_window.proofs.Chains.{Freeing}
use Rattle.tag_window.proofs.links.free.Given as goal

abbrev pub invariant-loop-at : goal.invariant-loop-at
invariant-loop-at l = record {
  freeing : Freeing (get l.fn.links) (get l.links) l.fn.head l.at (slab_len l.fn.links) (slab_len l.links);
  capacity : l.links.capacity ≡ l.fn.links.capacity;
}

abbrev pub decreases-loop-at : goal.decreases-loop-at
decreases-loop-at l = slab_len l.links
