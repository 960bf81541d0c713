use Rattle.std.proofs.Common.{◌≡◌, drop}
use Rattle.std.specs.List.{list_any}
use Rattle.memory_traces.specs.FormTest.{is_of_insn}
use Rattle.memory_traces.proofs.forms.some_of_insn.Given as goal

abbrev pub invariant-loop-o : goal.invariant-loop-o
invariant-loop-o l = list_any (is_of_insn l.w) l.ops ≡ list_any (is_of_insn l.w) (drop l.o-index l.ops)
