use Rattle.std.proofs.Common.{arith}
use Rattle.slab.specs.Slab.{slab_len}
use Rattle.key_tree.specs.Entries.{number_of, entries_of}
use Rattle.key_tree.proofs.Putting.{len_absent, len_there, planted_sound, planted_numbers, planted_absent}
use Rattle.key_tree.proofs.Putting.{set_sound, set_numbers, set_there, hung_sound, hung_numbers, hung_absent}
use Rattle.key_tree.proofs.nodes.put.Goals as goal

pub returns-in-None-clause-sound : goal.returns-in-None-clause-sound
returns-in-None-clause-sound c =
    planted_sound c.args.nodes.now.slots c.plant.new.nodes.slots c.args.root.now c.plant.result c.args.key c.args.number
    c.requires.sound c.in-None.is c.plant.ensures.vacant c.plant.ensures.there c.plant.ensures.others (omega arith)

pub returns-in-None-clause-numbers : goal.returns-in-None-clause-numbers
returns-in-None-clause-numbers c =
    planted_numbers c.args.nodes.now.slots c.plant.new.nodes.slots c.args.root.now c.plant.result c.args.key
    c.args.number c.requires.sound c.in-None.is c.plant.ensures.vacant c.plant.ensures.there c.plant.ensures.others
    (omega arith)

pub returns-in-None-clause-len : goal.returns-in-None-clause-len
returns-in-None-clause-len c =
    len_absent (number_of (entries_of c.args.nodes.now.slots) c.args.key) (slab_len c.plant.new.nodes)
    (slab_len c.args.nodes.now)
    (planted_absent c.args.nodes.now.slots c.plant.new.nodes.slots c.args.root.now c.plant.result c.args.key
    c.args.number c.requires.sound c.in-None.is c.plant.ensures.vacant c.plant.ensures.there c.plant.ensures.others
    (omega arith))
    c.plant.ensures.len

pub returns-then-node_at-key-clause-sound : goal.returns-then-node_at-key-clause-sound
returns-then-node_at-key-clause-sound c =
    let n = c.node_at.result.now in
    set_sound c.args.nodes.now.slots c.set_entry.new.nodes.slots c.args.root.now c.reach-at.result c.args.key
    c.args.number n c.requires.sound c.node_at.ensures c.if-node_at-key.true
    (c.set_entry.ensures.there n c.node_at.ensures)
    c.set_entry.ensures.others (omega arith)

pub returns-then-node_at-key-clause-numbers : goal.returns-then-node_at-key-clause-numbers
returns-then-node_at-key-clause-numbers c =
    let n = c.node_at.result.now in
    set_numbers c.args.nodes.now.slots c.set_entry.new.nodes.slots c.args.root.now c.reach-at.result c.args.key
    c.args.number n c.requires.sound c.node_at.ensures c.if-node_at-key.true
    (c.set_entry.ensures.there n c.node_at.ensures)
    c.set_entry.ensures.others (omega arith)

pub returns-then-node_at-key-clause-len : goal.returns-then-node_at-key-clause-len
returns-then-node_at-key-clause-len c =
    let n = c.node_at.result.now in
    len_there (number_of (entries_of c.args.nodes.now.slots) c.args.key) n.number (slab_len c.set_entry.new.nodes)
    (slab_len c.args.nodes.now)
    (set_there c.args.nodes.now.slots c.set_entry.new.nodes.slots c.args.root.now c.reach-at.result c.args.key
    c.args.number n c.requires.sound c.node_at.ensures c.if-node_at-key.true
    (c.set_entry.ensures.there n c.node_at.ensures)
    c.set_entry.ensures.others (omega arith))
    c.set_entry.ensures.len

pub returns-else-node_at-key-clause-sound : goal.returns-else-node_at-key-clause-sound
returns-else-node_at-key-clause-sound c =
    let n = c.node_at.result.now in
    let h = c.hang.ensures in
    hung_sound c.args.nodes.now.slots c.hang.new.nodes.slots c.args.root.now c.reach-at.result c.hang.result c.args.key
    c.args.number n c.requires.sound c.reach-at.ensures c.node_at.ensures c.if-node_at-key.false h.vacant
    (h.there n c.node_at.ensures) (h.linked n c.node_at.ensures) h.others (omega arith)

pub returns-else-node_at-key-clause-numbers : goal.returns-else-node_at-key-clause-numbers
returns-else-node_at-key-clause-numbers c =
    let n = c.node_at.result.now in
    let h = c.hang.ensures in
    hung_numbers c.args.nodes.now.slots c.hang.new.nodes.slots c.args.root.now c.reach-at.result c.hang.result
    c.args.key
    c.args.number n c.requires.sound c.reach-at.ensures c.node_at.ensures c.if-node_at-key.false h.vacant
    (h.there n c.node_at.ensures) (h.linked n c.node_at.ensures) h.others (omega arith)

pub returns-else-node_at-key-clause-len : goal.returns-else-node_at-key-clause-len
returns-else-node_at-key-clause-len c =
    let n = c.node_at.result.now in
    let h = c.hang.ensures in
    len_absent (number_of (entries_of c.args.nodes.now.slots) c.args.key) (slab_len c.hang.new.nodes)
    (slab_len c.args.nodes.now)
    (hung_absent c.args.nodes.now.slots c.hang.new.nodes.slots c.args.root.now c.reach-at.result c.hang.result
    c.args.key
    c.args.number n c.requires.sound c.reach-at.ensures c.node_at.ensures c.if-node_at-key.false h.vacant
    (h.there n c.node_at.ensures) (h.linked n c.node_at.ensures) h.others (omega arith))
    h.len
