use Rattle.std.proofs.Common.{◌≡◌, drop}
use Rattle.rvwmo_model.specs.ProgramOrder.{insn_at}
use Rattle.rvwmo_model.proofs.judge.sources.insn_at.Given as goal

abbrev pub invariant-loop-w : goal.invariant-loop-w
invariant-loop-w l = insn_at l.insns l.hart l.tag ≡ insn_at (drop l.w-index l.insns) l.hart l.tag
