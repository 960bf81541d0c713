use Rattle.slab.specs.Slab.{slab_len}
use Rattle.tag_window.specs.Order.{arrivals_above}
use Rattle.tag_window.proofs.Orders.{Dropping}
use Rattle.tag_window.proofs.order.TagOrder.drop_to.Given as goal

abbrev pub invariant-loop-first : goal.invariant-loop-first
invariant-loop-first l = Dropping (arrivals_above l.tag) l.fn.self l.self

abbrev pub decreases-loop-first : goal.decreases-loop-first
decreases-loop-first l = slab_len l.self.links
