use Rattle.std.proofs.Common.{sym, ◌∙◌, arith}
use Rattle.key_tree.proofs.Numbers.{length-entries_of}
use Rattle.key_tree.proofs.tree.KeyTree.len.Goals as goal

pub returns-clause-count : goal.returns-clause-count
returns-clause-count c = rw (sym c.self.view_is) (c.len.ensures ∙ sym (length-entries_of c.self.inside.nodes.slots))

pub returns-clause-room : goal.returns-clause-room
returns-clause-room c = rw (sym c.self.view_is)
    (omega (arith, length-entries_of c.self.inside.nodes.slots, c.self.invariant.1))
