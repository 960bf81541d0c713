use Rattle.slab.specs.Slab.{get}
use Rattle.merge_buffer.proofs.Walks.{Merging, rank}
use Rattle.merge_buffer.proofs.chains.merge.Given as goal

abbrev pub invariant-loop-at : goal.invariant-loop-at
invariant-loop-at l = Merging (get l.waiting) l.fn.head l.at l.line l.merged

abbrev pub decreases-loop-at : goal.decreases-loop-at
decreases-loop-at l = rank (get l.waiting) l.at
