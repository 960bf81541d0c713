use Rattle.std.proofs.Common.{◌≡◌, drop}
use Rattle.std.specs.List.{list_all}
use Rattle.memory_traces.specs.FormTest.{lr_is_aligned}
use Rattle.memory_traces.proofs.forms.all_aligned.Given as goal

abbrev pub invariant-loop-o : goal.invariant-loop-o
invariant-loop-o l = list_all (lr_is_aligned l.granule l.insns) l.ops ≡ list_all (lr_is_aligned l.granule l.insns)
    (drop l.o-index l.ops)
