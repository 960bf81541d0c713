use Rattle.std.proofs.Common.{◌≡◌, take}
use Rattle.memory_traces.proofs.tests.judging.op_list.Given as goal

abbrev pub invariant-loop-o : goal.invariant-loop-o
invariant-loop-o l = l.list ≡ take l.o-index l.ops
