use Rattle.std.proofs.Common.{◌≡◌, take}
use Rattle.memory_traces.proofs.tests.judging.insn_list.Given as goal

abbrev pub invariant-loop-w : goal.invariant-loop-w
invariant-loop-w l = l.list ≡ take l.w-index l.insns
