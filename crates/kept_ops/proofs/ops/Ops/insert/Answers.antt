use Rattle.std.proofs.Common.{rules, ◌≡◌, ◌<◌, List, length, refl, sym, subst, vec_len, arith}
use Rattle.std.proofs.lemmas.List.{length-map}
use Rattle.slab.specs.Slab.{Slab, slab_len}
use Rattle.kept_ops.specs.declared.operation.KeptOp.{KeptOp}
use Rattle.kept_ops.specs.declared.ops.Node.{Node}
use Rattle.kept_ops.specs.Ops.{live_node, op_in, AreEven}
use Rattle.kept_ops.proofs.Vacant.{even_push, even_set, last_below, last_empty, nodes_filled, nodes_pushed, one_more}
use Rattle.kept_ops.proofs.Vacant.{updated}
use Rattle.kept_ops.proofs.ops.Ops.insert.Goals as goal

pub invariant_of-self : goal.invariant_of-self
invariant_of-self c =
    let e = c.in-Some.ensures {u = tt} in (
      nodes_filled c.self.inside.nodes.items c.fill.new.nodes.items c.self.inside.vacant.items c.pop.new.self.items
          c.in-Some.key c.args.op.now c.args.division c.self.invariant.0 e.items c.fill.ensures.items,
      subst (λ (l : List Node). AreEven l) (sym c.fill.ensures.items)
          (even_set c.self.inside.nodes.items c.in-Some.key (live_node c.args.op.now c.args.division)
          c.self.invariant.1 c.requires.even),
      omega (arith, c.fill.ensures.len, c.self.invariant.2),
      omega (arith, c.fill.ensures.capacity, c.self.invariant.3),
      omega (arith, c.pop.ensures.capacity, c.self.invariant.4),
    )

pub invariant_of-self-in-None : goal.invariant_of-self-in-None
invariant_of-self-in-None c =
    let e = c.in-None.ensures {u = tt} in
    let n : vec_len c.self.inside.nodes ≡ length c.self.inside.nodes.items = search rules in
    let m : vec_len c.self.inside.vacant ≡ length c.self.inside.vacant.items = search rules in
    let room : slab_len c.args.self.now < c.args.self.now.capacity = c.requires.room in
    let room = subst (λ (s : Slab KeptOp). slab_len s < s.capacity) (sym c.self.view_is) room in (
      nodes_pushed c.self.inside.nodes.items c.push.new.nodes.items c.self.inside.vacant.items c.pop.new.self.items
          c.args.op.now c.args.division c.self.invariant.0 e.items c.push.ensures.items,
      subst (λ (l : List Node). AreEven l) (sym c.push.ensures.items)
          (even_push c.self.inside.nodes.items (live_node c.args.op.now c.args.division) c.self.invariant.1
          c.requires.even),
      omega (
        arith,
        c.push.ensures.len,
        n,
        m,
        c.self.invariant.0.counted,
        length-map c.self.inside.nodes.items op_in,
        room,
        e.cases.0,
      ),
      omega (arith, c.push.ensures.capacity, c.self.invariant.3),
      omega (arith, c.pop.ensures.capacity, c.self.invariant.4),
    )

pub returns-in-Some-clause-updates : goal.returns-in-Some-clause-updates
returns-in-Some-clause-updates c =
    let e = c.in-Some.ensures {u = tt} in
    rw (← c.self.view_is)
    (updated c.self.inside.nodes.items c.in-Some.key (live_node c.args.op.now c.args.division) c.fill.new.nodes.items
    c.self.inside.capacity (last_below _ _ c.pop.new.self.items c.in-Some.key c.args.op.now c.self.invariant.0 e.items)
    c.fill.ensures.items)

pub returns-in-Some-clause-len : goal.returns-in-Some-clause-len
returns-in-Some-clause-len c =
    let e = c.in-Some.ensures {u = tt} in
    rw (← c.self.view_is)
    (one_more c.self.inside.nodes.items c.in-Some.key (live_node c.args.op.now c.args.division) c.fill.new.nodes.items
    c.args.op.now refl
    (last_below _ _ c.pop.new.self.items c.in-Some.key c.args.op.now c.self.invariant.0 e.items)
    (last_empty _ _ c.pop.new.self.items c.in-Some.key c.args.op.now c.self.invariant.0 e.items) c.fill.ensures.items)
