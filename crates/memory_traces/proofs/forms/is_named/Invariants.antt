use Rattle.std.proofs.Common.{◌≡◌, drop, is_some}
use Rattle.rvwmo_model.specs.ProgramOrder.{insn_at}
use Rattle.memory_traces.proofs.forms.is_named.Given as goal

abbrev pub invariant-loop-w : goal.invariant-loop-w
invariant-loop-w l = is_some (insn_at l.insns l.o.name.hart l.o.name.tag) ≡ is_some
    (insn_at (drop l.w-index l.insns) l.o.name.hart l.o.name.tag)
