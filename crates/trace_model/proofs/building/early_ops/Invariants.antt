use Rattle.std.proofs.Common.{◌≡◌, ◌≤◌, ◌++◌, length, map, reverse, take}
use Rattle.trace_model.specs.Traces.{early_op}
use Rattle.trace_model.proofs.building.early_ops.Given as goal

abbrev pub invariant-loop-n : goal.invariant-loop-n
invariant-loop-n l =
    (l.n ≤ length l.early) × (l.list ++ map early_op (reverse (take l.n l.early)) ≡ map early_op (reverse l.early))

abbrev pub decreases-loop-n : goal.decreases-loop-n
decreases-loop-n l = l.n
