use Rattle.std.proofs.Common.{◌≡◌, take}
use Rattle.trace_model.proofs.building.insns.Given as goal

abbrev pub invariant-loop-insn : goal.invariant-loop-insn
invariant-loop-insn l = l.list ≡ take l.insn-index l.insns
