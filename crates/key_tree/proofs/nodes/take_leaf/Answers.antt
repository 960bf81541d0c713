use Rattle.std.proofs.Common.{◌≡◌, Bool, Some, None, subst}
use Rattle.slab.specs.Slab.{get}
use Rattle.key_tree.specs.declared.node.Node.{Node}
use Rattle.key_tree.specs.Trees.{with_child}
use Rattle.key_tree.proofs.Taking.{sound_emptied, deep, shallow, is_there, sound_unlinked, unlinked_but}
use Rattle.key_tree.proofs.nodes.take_leaf.Goals as goal

pub overflow_sub-node : goal.overflow_sub-node
overflow_sub-node c =
    let e = c.remove-node.ensures in
    deep (get c.args.nodes.now) (get c.remove-node.new.self) c.args.root.now c.requires.sound c.args.leaf
    c.remove-node.result c.requires.leaf e.value e.updates.changed e.updates.others c.in-Some.parent c.in-Some.is

pub is_right-right-requires : goal.is_right-right-requires
is_right-right-requires c =
    let e = c.remove-node.ensures in
    shallow (get c.args.nodes.now) (get c.remove-node.new.self) c.args.root.now c.requires.sound c.args.leaf
    c.remove-node.result c.requires.leaf e.value e.updates.changed e.updates.others c.in-Some.parent c.in-Some.is

pub set_child-requires : goal.set_child-requires
set_child-requires c =
    let e = c.remove-node.ensures in
    is_there (get c.args.nodes.now) (get c.remove-node.new.self) c.args.root.now c.requires.sound c.args.leaf
    c.remove-node.result c.requires.leaf e.value e.updates.changed e.updates.others c.in-Some.parent c.in-Some.is

pub returns-in-None-clause-sound : goal.returns-in-None-clause-sound
returns-in-None-clause-sound c =
    let e = c.remove-node.ensures in
    sound_emptied (get c.args.nodes.now) (get c.remove-node.new.self) c.args.root.now c.requires.sound c.args.leaf
    c.remove-node.result c.requires.leaf e.value e.updates.changed e.updates.others c.in-None.is

pub returns-in-Some-clause-sound : goal.returns-in-Some-clause-sound
returns-in-Some-clause-sound c =
    let e = c.remove-node.ensures in
    sound_unlinked (get c.args.nodes.now) (get c.remove-node.new.self) c.args.root.now c.requires.sound c.args.leaf
    c.remove-node.result c.requires.leaf e.value e.updates.changed e.updates.others c.in-Some.parent c.in-Some.is
    (get c.set_child.new.nodes)
    (subst (λ (b : Bool). (n : Node) → get c.remove-node.new.self c.in-Some.parent ≡ Some n
    → get c.set_child.new.nodes c.in-Some.parent ≡ Some (with_child b None n)) c.is_right-right.ensures
    c.set_child.ensures.there)
    c.set_child.ensures.others

pub returns-in-Some-clause-others : goal.returns-in-Some-clause-others
returns-in-Some-clause-others c =
    let e = c.remove-node.ensures in
    unlinked_but (get c.args.nodes.now) (get c.remove-node.new.self) c.args.root.now c.requires.sound c.args.leaf
    c.remove-node.result c.requires.leaf e.value e.updates.changed e.updates.others c.in-Some.parent c.in-Some.is
    (get c.set_child.new.nodes)
    (subst (λ (b : Bool). (n : Node) → get c.remove-node.new.self c.in-Some.parent ≡ Some n
    → get c.set_child.new.nodes c.in-Some.parent ≡ Some (with_child b None n)) c.is_right-right.ensures
    c.set_child.ensures.there)
    c.set_child.ensures.others
