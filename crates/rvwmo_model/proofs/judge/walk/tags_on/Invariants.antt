use Rattle.std.proofs.Common.{◌≡◌, ◌++◌, [], drop}
use Rattle.rvwmo_model.specs.Walk.{tags_on}
use Rattle.rvwmo_model.proofs.judge.walk.tags_on.Given as goal

abbrev pub invariant-loop-w : goal.invariant-loop-w
invariant-loop-w l = tags_on l.by l.hart l.start [] l.insns
    ≡ l.tags.items ++ tags_on l.by l.hart l.start l.marks.items (drop l.w-index l.insns)
