use Rattle.std.proofs.Common.{◌≡◌, length}
use Rattle.std.specs.List.{filter}
use Rattle.std.specs.VecDeque.{deque_capacity}
use Rattle.slab.specs.Slab.{get}
use Rattle.tag_window.specs.Order.{PlacesFall, is_live}
use Rattle.tag_window.proofs.order.trim_newest.Given as goal

abbrev pub invariant-loop-newest : goal.invariant-loop-newest
invariant-loop-newest l = record {
  live : filter (is_live (get l.links)) l.arrivals.items ≡ filter (is_live (get l.links)) l.fn.arrivals.items;
  falls : PlacesFall l.arrivals.items;
  capacity : deque_capacity l.arrivals ≡ deque_capacity l.fn.arrivals;
}

abbrev pub decreases-loop-newest : goal.decreases-loop-newest
decreases-loop-newest l = length l.arrivals.items
