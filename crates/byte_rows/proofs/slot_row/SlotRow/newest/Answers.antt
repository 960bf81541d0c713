use Rattle.std.proofs.Common.{sym}
use Rattle.byte_rows.specs.Links.{at}
use Rattle.byte_rows.proofs.Found.{newest_found}
use Rattle.byte_rows.proofs.slot_row.SlotRow.newest.Goals as goal

pub returns : goal.returns
returns c = rw (sym c.self.view_is, c.waiter_at.ensures, c.deref.ensures.value)
    (newest_found (at c.self.inside.links.items) c.self.invariant.1 c.self.invariant.0.apart c.self.inside.ends.newest
    c.self.invariant.0.newest_is)
