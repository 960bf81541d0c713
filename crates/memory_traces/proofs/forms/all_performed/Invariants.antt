use Rattle.std.proofs.Common.{◌≡◌, drop}
use Rattle.std.specs.List.{list_all}
use Rattle.memory_traces.specs.FormTest.{is_performed}
use Rattle.memory_traces.proofs.forms.all_performed.Given as goal

abbrev pub invariant-loop-o : goal.invariant-loop-o
invariant-loop-o l = list_all is_performed l.early ≡ list_all is_performed (drop l.o-index l.early)
