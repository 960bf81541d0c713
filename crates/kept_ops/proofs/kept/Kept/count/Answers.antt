use Rattle.std.proofs.Common.{sym, ◌∙◌, arith}
use Rattle.kept_ops.proofs.Slots.{values_counted}
use Rattle.kept_ops.proofs.kept.Kept.count.Goals as goal

pub returns-clause-count : goal.returns-clause-count
returns-clause-count c = rw (← c.self.view_is) (c.len.ensures ∙ sym (values_counted c.self.inside.ops.slots))

pub returns-clause-room : goal.returns-clause-room
returns-clause-room c =
    rw (← c.self.view_is) (omega (arith, values_counted c.self.inside.ops.slots, c.self.invariant.1))
