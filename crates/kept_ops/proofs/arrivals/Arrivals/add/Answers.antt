use Rattle.std.proofs.Common.{heap_items}
use Rattle.kept_ops.specs.Arrivals.{unreversed}
use Rattle.kept_ops.proofs.Late.{added_rising, added_late}
use Rattle.kept_ops.proofs.arrivals.Arrivals.add.Goals as goal

pub returns-then-rises-clause-items : goal.returns-then-rises-clause-items
returns-then-rises-clause-items c = rw (← c.self.view_is) (added_rising c.self.inside.rising.items
    c.add_rising.new.rising.items (unreversed (heap_items c.self.inside.late)) c.args.arrival
    c.add_rising.ensures.items)

pub returns-else-rises-clause-items : goal.returns-else-rises-clause-items
returns-else-rises-clause-items c = rw (← c.self.view_is) (added_late c.self.inside.rising.items
    (unreversed (heap_items c.self.inside.late)) (unreversed (heap_items c.add_late.new.late)) c.args.arrival
    c.add_late.ensures.items)
