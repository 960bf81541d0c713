use Rattle.std.proofs.Common.{◌≡◌, drop}
use Rattle.rv_decode.specs.Kinds.{is_lr}
use Rattle.rvwmo_model.specs.ProgramOrder.{insn_at, is_one}
use Rattle.memory_traces.proofs.forms.is_lr_of.Given as goal

abbrev pub invariant-loop-w : goal.invariant-loop-w
invariant-loop-w l = is_one is_lr (insn_at l.insns l.o.name.hart l.o.name.tag) ≡ is_one is_lr
    (insn_at (drop l.w-index l.insns) l.o.name.hart l.o.name.tag)
