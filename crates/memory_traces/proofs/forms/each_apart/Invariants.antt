use Rattle.std.proofs.Common.{◌≡◌, drop}
use Rattle.memory_traces.specs.FormTest.{each_two, apart}
use Rattle.memory_traces.proofs.forms.each_apart.Given as goal

abbrev pub invariant-loop-k : goal.invariant-loop-k
invariant-loop-k l = each_two apart l.ops ≡ each_two apart (drop l.k l.ops)
