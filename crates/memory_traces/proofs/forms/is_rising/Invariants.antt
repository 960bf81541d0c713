use Rattle.std.proofs.Common.{◌≡◌, drop}
use Rattle.memory_traces.specs.FormTest.{each_two, follows}
use Rattle.memory_traces.proofs.forms.is_rising.Given as goal

abbrev pub invariant-loop-k : goal.invariant-loop-k
invariant-loop-k l = each_two follows l.insns ≡ each_two follows (drop l.k l.insns)
