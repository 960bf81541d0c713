use Rattle.std.proofs.Common.{Bool, Some, sym, ap, ◌∙◌, arith}
use Rattle.slab.specs.Slab.{get}
use Rattle.key_tree.specs.Trees.{child}
use Rattle.key_tree.proofs.Ways.{way_begins, way_found, way_room, way_ended, way_next}
use Rattle.key_tree.proofs.nodes.reach.Goals as goal

pub loop-node-init : goal.loop-node-init
loop-node-init c = way_begins (get c.args.nodes.now) c.args.root c.args.key c.requires

pub returns-then-node-key : goal.returns-then-node-key
returns-then-node-key c = way_found (get c.args.nodes.now) (Some c.args.root) c.requires c.args.key c.loop-node.at
    c.loop-node.depth c.loop-node.invariant c.node_at-node.result.now c.node_at-node.ensures c.if-node-key.true

pub is_right-requires : goal.is_right-requires
is_right-requires c = way_room (get c.args.nodes.now) (Some c.args.root) c.requires c.args.key c.loop-node.at
    c.loop-node.depth c.loop-node.invariant c.node_at-node.result.now c.node_at-node.ensures (omega arith)
    c.if-node-key.false

pub returns-in-None : goal.returns-in-None
returns-in-None c = way_ended (get c.args.nodes.now) (Some c.args.root) c.requires c.args.key c.loop-node.at
    c.loop-node.depth c.loop-node.invariant c.node_at-node.result.now c.node_at-node.ensures (omega arith)
    c.if-node-key.false
    (ap (λ (b : Bool). child b c.node_at-node.result.now) (sym c.is_right.ensures) ∙ sym c.in-None.ensures)

pub loop-node-smaller : goal.loop-node-smaller
loop-node-smaller c =
    let l = way_room (get c.args.nodes.now) (Some c.args.root) c.requires c.args.key c.loop-node.at
    c.loop-node.depth c.loop-node.invariant c.node_at-node.result.now c.node_at-node.ensures (omega arith)
    c.if-node-key.false in
    omega (arith, l)

pub loop-node-preserved : goal.loop-node-preserved
loop-node-preserved c = way_next (get c.args.nodes.now) (Some c.args.root) c.requires c.args.key c.loop-node.at
    c.loop-node.depth c.loop-node.invariant c.node_at-node.result.now c.node_at-node.ensures c.in-Some.next
    c.if-node-key.false
    (ap (λ (b : Bool). child b c.node_at-node.result.now) (sym c.is_right.ensures) ∙ sym c.in-Some.ensures)
