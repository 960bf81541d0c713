use Rattle.std.proofs.Common.{◌≡◌, drop}
use Rattle.rvwmo_model.specs.Walk.{finds, finds_from}
use Rattle.rvwmo_model.proofs.judge.walk.walk_finds.Given as goal

abbrev pub invariant-loop-w : goal.invariant-loop-w
invariant-loop-w l = finds l.search l.insns ≡ finds_from l.search l.marks.items (drop l.w-index l.insns)
