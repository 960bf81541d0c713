use Rattle.slab.specs.Slab.{get}
use Rattle.tag_window.proofs.Finding.{Finding}
use Rattle.tag_window.proofs.counting.find.Given as goal

abbrev pub invariant-loop-left : goal.invariant-loop-left
invariant-loop-left l = Finding (get l.links) l.fn.head l.at l.addr l.reads.items l.left

abbrev pub decreases-loop-left : goal.decreases-loop-left
decreases-loop-left l = l.left
