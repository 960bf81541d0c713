use Rattle.std.proofs.Common.{sym, ◌∙◌}
use Rattle.store_buffer.proofs.Newest.{open_counted}
use Rattle.store_buffer.proofs.stores.Stores.count.Goals as goal

pub returns : goal.returns
returns c = rw (← c.self.view_is) (sym (open_counted c.self.inside.stores.slots ∙ c.self.invariant.1))
