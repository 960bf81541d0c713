use Rattle.std.proofs.Common.{◌-◌}
use Rattle.slab.specs.Slab.{get}
use Rattle.key_tree.specs.Trees.{Reached}
use Rattle.key_tree.proofs.nodes.reach.Given as goal

abbrev pub invariant-loop-node : goal.invariant-loop-node
invariant-loop-node l = Reached (get l.nodes) l.key l.at l.depth

abbrev pub decreases-loop-node : goal.decreases-loop-node
decreases-loop-node l = 64 - l.depth
