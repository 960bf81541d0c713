use Rattle.slab.specs.Slab.{slab_len}
use Rattle.tag_window.specs.Order.{arrivals_below}
use Rattle.tag_window.proofs.Orders.{Dropping}
use Rattle.tag_window.proofs.order.TagOrder.drop_from.Given as goal

abbrev pub invariant-loop-last : goal.invariant-loop-last
invariant-loop-last l = Dropping (arrivals_below l.tag) l.fn.self l.self

abbrev pub decreases-loop-last : goal.decreases-loop-last
decreases-loop-last l = slab_len l.self.links
