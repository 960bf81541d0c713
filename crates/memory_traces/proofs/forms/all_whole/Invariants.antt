use Rattle.std.proofs.Common.{◌≡◌, drop}
use Rattle.std.specs.List.{list_all}
use Rattle.memory_traces.specs.FormTest.{whole}
use Rattle.memory_traces.proofs.forms.all_whole.Given as goal

abbrev pub invariant-loop-o : goal.invariant-loop-o
invariant-loop-o l = list_all whole l.ops ≡ list_all whole (drop l.o-index l.ops)
