use Rattle.std.proofs.Common.{◌≡◌}
use Rattle.matching.specs.Tables.{with_line}
use Rattle.matching.proofs.Mapped.{mapped}
use Rattle.matching.proofs.stores.take_line.Given as goal

abbrev pub invariant-loop-tracked : goal.invariant-loop-tracked
invariant-loop-tracked l = l.tracked-items ≡ mapped (with_line l.time l.n l.line) l.tracked-index l.fn.stores.items
