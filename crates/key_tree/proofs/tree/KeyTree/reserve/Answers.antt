use Rattle.std.proofs.Common.{sym, arith}
use Rattle.key_tree.proofs.Numbers.{length-entries_of}
use Rattle.key_tree.proofs.tree.KeyTree.reserve.Goals as goal

pub returns-then-len-self-clause-room : goal.returns-then-len-self-clause-room
returns-then-len-self-clause-room c =
    rw (sym c.self.view_is)
    (omega (arith, length-entries_of c.self.inside.nodes.slots, c.len.ensures, c.if-len-self.true))

pub invariant_of-self : goal.invariant_of-self
invariant_of-self c = rw c.reserve.ensures.rest_kept
    (c.self.invariant.0, c.self.invariant.1, omega (arith, c.self.invariant.2, c.reserve.ensures.capacity))

pub invariant_of-self-2 : goal.invariant_of-self-2
invariant_of-self-2 c =
    let room = rw c.reserve.ensures.rest_kept at c.in_ok-reserve.ensures.room in
    rw c.reserve.ensures.rest_kept
    (c.self.invariant.0, omega (arith, c.self.invariant.1), omega (arith, c.len.ensures, c.if-len-self.false, room))

pub returns-clause-room : goal.returns-clause-room
returns-clause-room c = rw c.reserve.ensures.rest_kept
    (omega (arith, length-entries_of c.self.inside.nodes.slots, c.self.invariant.1))
