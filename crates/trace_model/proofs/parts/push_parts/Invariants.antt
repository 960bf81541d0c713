use Rattle.std.proofs.Common.{◌≡◌, ◌≤◌, ◌++◌}
use Rattle.trace_model.specs.Groups.{parts_below}
use Rattle.trace_model.specs.Marks.{place_in}
use Rattle.trace_model.proofs.parts.push_parts.Given as goal

abbrev pub invariant-loop-n : goal.invariant-loop-n
invariant-loop-n l =
    (l.n ≤ 8)
    × (l.list ++ parts_below l.access (place_in l.places) l.n
    ≡ l.fn.list ++ parts_below l.access (place_in l.places) l.access.extent.len)

abbrev pub decreases-loop-n : goal.decreases-loop-n
decreases-loop-n l = l.n
