use Rattle.std.proofs.Common.{◌≡◌, ◌≤◌, length}
use Rattle.trace_model.specs.Groups.{parts_below}
use Rattle.trace_model.specs.Marks.{place_in}
use Rattle.trace_model.proofs.parts.count_parts.Given as goal

abbrev pub invariant-loop-n : goal.invariant-loop-n
invariant-loop-n l = (l.count ≤ l.n) × (l.count ≡ length (parts_below l.access (place_in l.places) l.n))
