use Rattle.std.proofs.Common.{◌≡◌, drop}
use Rattle.std.specs.List.{list_all}
use Rattle.memory_traces.specs.FormTest.{is_named}
use Rattle.memory_traces.proofs.forms.all_named.Given as goal

abbrev pub invariant-loop-o : goal.invariant-loop-o
invariant-loop-o l = list_all (is_named l.insns) l.ops ≡ list_all (is_named l.insns) (drop l.o-index l.ops)
