use Rattle.std.proofs.Common.{◌≡◌, ◌≤◌, ◌-◌}
use Rattle.trace_model.specs.Groups.{first_from}
use Rattle.trace_model.specs.Marks.{is_marked}
use Rattle.trace_model.proofs.parts.first_of.Given as goal

abbrev pub invariant-loop-k : goal.invariant-loop-k
invariant-loop-k l = (l.k ≤ l.len) × (l.first ≡ first_from (is_marked l.marks) l.k (l.len - l.k))

abbrev pub decreases-loop-k : goal.decreases-loop-k
decreases-loop-k l = l.k
