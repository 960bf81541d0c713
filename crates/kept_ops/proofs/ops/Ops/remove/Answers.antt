use Rattle.std.proofs.Common.{◌≡◌, false, Some, refl, sym, subst, arith}
use Rattle.slab.specs.Slab.{Slab, get}
use Rattle.kept_ops.specs.declared.operation.KeptOp.{KeptOp}
use Rattle.kept_ops.proofs.Vacant.{even_emptied, inside_slots, node_inside, nodes_emptied, one_fewer, slots_set}
use Rattle.kept_ops.proofs.Vacant.{updated}
use Rattle.kept_ops.proofs.ops.Ops.remove.Goals as goal

pub invariant_of-self : goal.invariant_of-self
invariant_of-self c =
    let there = subst (λ (s : Slab KeptOp). get s c.args.key ≡ Some c.requires.0) (sym c.self.view_is) c.requires.1 in (
      nodes_emptied c.self.inside.nodes.items c.args.key
          (record { op = c.index_mut.result.now.op; division = c.index_mut.result.now.division; live = false })
          c.self.inside.vacant.items c.push_key.new.keys.items c.requires.0 refl there c.push_key.ensures.items
          c.self.invariant.0,
      even_emptied c.self.inside.nodes.items c.args.key c.index_mut.result.now c.self.invariant.1
          (node_inside c.self.inside.nodes.items c.args.key c.index_mut.result.now
          (inside_slots _ c.args.key c.requires.0 there))
          c.index_mut.ensures.value,
      c.self.invariant.2,
      c.self.invariant.3,
      omega (arith, c.push_key.ensures.capacity, c.self.invariant.4),
    )

pub returns-clause-updates : goal.returns-clause-updates
returns-clause-updates c =
    let there = subst (λ (s : Slab KeptOp). get s c.args.key ≡ Some c.requires.0) (sym c.self.view_is) c.requires.1 in
    rw (← c.self.view_is)
    (updated c.self.inside.nodes.items c.args.key
    (record { op = c.index_mut.result.now.op; division = c.index_mut.result.now.division; live = false }) _
    c.self.inside.capacity (inside_slots _ c.args.key c.requires.0 there) refl)

pub returns-clause-slots : goal.returns-clause-slots
returns-clause-slots c = rw (← c.self.view_is)
    (slots_set c.self.inside.nodes.items c.args.key
    (record { op = c.index_mut.result.now.op; division = c.index_mut.result.now.division; live = false }))

pub returns-clause-len : goal.returns-clause-len
returns-clause-len c =
    let there = subst (λ (s : Slab KeptOp). get s c.args.key ≡ Some c.requires.0) (sym c.self.view_is) c.requires.1 in
    rw (← c.self.view_is)
    (one_fewer c.self.inside.nodes.items c.args.key
    (record { op = c.index_mut.result.now.op; division = c.index_mut.result.now.division; live = false })
    c.requires.0 refl there)
