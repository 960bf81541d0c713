use Rattle.key_tree.proofs.Gone.{leaf_gone, moved_sound, moved_gone}
use Rattle.key_tree.proofs.nodes.take_at.Goals as goal

pub returns-then-leaf-at-clause-sound : goal.returns-then-leaf-at-clause-sound
returns-then-leaf-at-clause-sound c =
    let r = c.requires.there in
    let t = c.take_leaf-last in
    moved_sound c.args.nodes.now.slots t.new.nodes.slots c.args.root.now t.new.root c.args.at
    c.leaf_below-leaf.result c.args.key r.0 t.result c.requires.sound r.1 r.2 c.leaf_below-leaf.ensures t.ensures.taken
    t.ensures.sound t.ensures.others c.set_entry.new.nodes.slots c.if-leaf-at.true c.set_entry.ensures.there
    c.set_entry.ensures.others

pub returns-then-leaf-at-clause-numbers : goal.returns-then-leaf-at-clause-numbers
returns-then-leaf-at-clause-numbers c =
    let r = c.requires.there in
    let t = c.take_leaf-last in
    moved_gone c.args.nodes.now.slots t.new.nodes.slots c.args.root.now t.new.root c.args.at
    c.leaf_below-leaf.result c.args.key r.0 t.result c.requires.sound r.1 r.2 c.leaf_below-leaf.ensures t.ensures.taken
    t.ensures.sound t.ensures.others c.set_entry.new.nodes.slots c.if-leaf-at.true c.set_entry.ensures.there
    c.set_entry.ensures.others

pub returns-else-leaf-at-clause-numbers : goal.returns-else-leaf-at-clause-numbers
returns-else-leaf-at-clause-numbers c =
    let r = c.requires.there in
    let t = c.take_leaf-last in
    leaf_gone c.args.nodes.now.slots t.new.nodes.slots c.args.root.now t.new.root c.args.at
    c.leaf_below-leaf.result c.args.key r.0 t.result c.requires.sound r.1 r.2 c.leaf_below-leaf.ensures t.ensures.taken
    t.ensures.sound t.ensures.others c.if-leaf-at.false
