use Rattle.std.proofs.Common.{sym, arith}
use Rattle.slab.specs.Slab.{get}
use Rattle.key_tree.proofs.Leaves.{leaf_next, leaf_room}
use Rattle.key_tree.proofs.nodes.leaf_below.Goals as goal

pub overflow_add-depth : goal.overflow_add-depth
overflow_add-depth c =
    let l = leaf_room (get c.args.nodes.now) c.args.from c.loop-next.at c.loop-next.depth c.requires.tree
    c.loop-next.invariant c.node_at-node.result.now c.node_at-node.ensures c.in-Some.next (sym c.in-Some.ensures) in
    omega (arith, l)

pub loop-next-smaller : goal.loop-next-smaller
loop-next-smaller c =
    let l = leaf_room (get c.args.nodes.now) c.args.from c.loop-next.at c.loop-next.depth c.requires.tree
    c.loop-next.invariant c.node_at-node.result.now c.node_at-node.ensures c.in-Some.next (sym c.in-Some.ensures) in
    omega (arith, l)

pub loop-next-preserved : goal.loop-next-preserved
loop-next-preserved c = leaf_next (get c.args.nodes.now) c.args.from c.loop-next.at c.loop-next.depth c.requires.tree
    c.loop-next.invariant c.node_at-node.result.now c.node_at-node.ensures c.in-Some.next (sym c.in-Some.ensures)
