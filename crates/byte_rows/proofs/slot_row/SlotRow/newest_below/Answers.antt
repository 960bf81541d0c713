use Rattle.std.proofs.Common.{sym}
use Rattle.byte_rows.specs.Links.{at}
use Rattle.byte_rows.proofs.Found.{below_found}
use Rattle.byte_rows.proofs.slot_row.SlotRow.newest_below.Goals as goal

pub returns : goal.returns
returns c = rw (sym c.self.view_is, c.waiter_at.ensures, c.deref-2.ensures.value)
    (below_found (at c.self.inside.links.items) c.self.invariant.1 c.self.invariant.0.apart c.args.below
    c.last_below-place.result
    (rw c.deref.ensures.value at c.last_below-place.ensures))
