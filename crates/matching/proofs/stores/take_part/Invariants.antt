use Rattle.std.proofs.Common.{◌≡◌}
use Rattle.matching.specs.Tables.{with_part}
use Rattle.matching.proofs.Mapped.{mapped}
use Rattle.matching.proofs.stores.take_part.Given as goal

abbrev pub invariant-loop-tracked : goal.invariant-loop-tracked
invariant-loop-tracked l = l.tracked-items ≡ mapped (with_part l.new l.tag l.piece) l.tracked-index l.fn.stores.items
