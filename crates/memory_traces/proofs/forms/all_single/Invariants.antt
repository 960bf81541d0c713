use Rattle.std.proofs.Common.{◌≡◌, drop}
use Rattle.std.specs.List.{list_all}
use Rattle.memory_traces.specs.FormTest.{single}
use Rattle.memory_traces.proofs.forms.all_single.Given as goal

abbrev pub invariant-loop-w : goal.invariant-loop-w
invariant-loop-w l = list_all (single l.ops) l.insns ≡ list_all (single l.ops) (drop l.w-index l.insns)
