use Rattle.std.proofs.Common.{◌≡◌, drop}
use Rattle.rvwmo_model.proofs.judge.walk.carries_some.Given as goal
use Rattle.rv_decode.specs.Registers.{carries}
use Rattle.std.specs.List.{list_any}

abbrev pub invariant-loop-p : goal.invariant-loop-p
invariant-loop-p l = list_any (λ p. carries l.insn p l.to) l.marks ≡ list_any (λ p. carries l.insn p l.to)
    (drop l.p-index l.marks)
