use Rattle.std.proofs.Common.{◌≡◌, drop}
use Rattle.rvwmo_model.specs.Walk.{use_of}
use Rattle.rvwmo_model.proofs.judge.walk.uses_some.Given as goal
use Rattle.std.specs.List.{list_any}

abbrev pub invariant-loop-r : goal.invariant-loop-r
invariant-loop-r l = list_any (λ r. use_of l.by l.insn r) l.marks ≡ list_any (λ r. use_of l.by l.insn r)
    (drop l.r-index l.marks)
