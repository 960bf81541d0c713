use Rattle.std.proofs.Common.{◌≡◌, drop}
use Rattle.memory_traces.specs.FormTest.{lone, is_of_insn}
use Rattle.memory_traces.proofs.forms.is_lone.Given as goal

abbrev pub invariant-loop-k : goal.invariant-loop-k
invariant-loop-k l = lone (is_of_insn l.w) l.ops ≡ lone (is_of_insn l.w) (drop l.k l.ops)
