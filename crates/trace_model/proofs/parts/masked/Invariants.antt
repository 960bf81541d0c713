use Rattle.std.proofs.Common.{◌≡◌, take, length}
use Rattle.trace_model.specs.Groups.{masked_from}
use Rattle.trace_model.specs.Marks.{is_marked}
use Rattle.trace_model.proofs.parts.masked.Given as goal

abbrev pub invariant-loop-k : goal.invariant-loop-k
invariant-loop-k l = (take l.k l.buf ≡ masked_from (is_marked l.marks) 0 (take l.k l.bytes)) × (length l.buf ≡ 8)
