use Rattle.std.proofs.Common.{◌-◌}
use Rattle.slab.specs.Slab.{get}
use Rattle.key_tree.proofs.Leaves.{Below}
use Rattle.key_tree.proofs.nodes.leaf_below.Given as goal

abbrev pub invariant-loop-next : goal.invariant-loop-next
invariant-loop-next l = Below (get l.nodes) l.from l.at l.depth

abbrev pub decreases-loop-next : goal.decreases-loop-next
decreases-loop-next l = 64 - l.depth
