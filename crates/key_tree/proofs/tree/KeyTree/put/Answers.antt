use Rattle.std.proofs.Common.{◌<◌, sym, arith}
use Rattle.slab.specs.Slab.{slab_len}
use Rattle.key_tree.specs.Entries.{number_of, entries_of}
use Rattle.key_tree.proofs.Numbers.{length-entries_of}
use Rattle.key_tree.proofs.Putting.{len_within}
use Rattle.key_tree.proofs.tree.KeyTree.put.Goals as goal

pub put-requires-clause-room : goal.put-requires-clause-room
put-requires-clause-room c =
    let r = rw (sym c.self.view_is) at c.requires in
    omega (arith, length-entries_of c.self.inside.nodes.slots, r, c.self.invariant.2)

pub invariant_of-self : goal.invariant_of-self
invariant_of-self c =
    let r = rw (sym c.self.view_is) at c.requires in
    let l : slab_len c.self.inside.nodes < c.self.inside.capacity = omega
    (arith, length-entries_of c.self.inside.nodes.slots, r) in (
      c.put.ensures.sound,
      len_within (number_of (entries_of c.self.inside.nodes.slots) c.args.key) (slab_len c.put.new.nodes)
          (slab_len c.self.inside.nodes) c.self.inside.capacity c.put.ensures.len l,
      omega (arith, c.self.invariant.2, c.put.ensures.capacity),
    )
