use Rattle.std.proofs.Common.{◌≡◌, drop}
use Rattle.synchronization_rules.specs.Marks.{with_ops}
use Rattle.synchronization_rules.proofs.marks.HartMarks.note_all.Given as goal

abbrev pub invariant-loop-op : goal.invariant-loop-op
invariant-loop-op l = with_ops l.ops l.fn.self ≡ with_ops (drop l.op-index l.ops) l.self
