use Rattle.slab.specs.Slab.{get}
use Rattle.tag_window.proofs.Finding.{Walking}
use Rattle.tag_window.proofs.counting.slots_of.Given as goal

abbrev pub invariant-loop-left : goal.invariant-loop-left
invariant-loop-left l = Walking (get l.links) l.fn.head l.at l.load.addr l.load.len l.reads.items l.left l.slots

abbrev pub decreases-loop-left : goal.decreases-loop-left
decreases-loop-left l = l.left
