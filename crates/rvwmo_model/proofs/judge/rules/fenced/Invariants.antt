use Rattle.std.proofs.Common.{◌≡◌, drop}
use Rattle.rvwmo_model.specs.Tests.{fence_at}
use Rattle.rvwmo_model.proofs.judge.rules.fenced.Given as goal
use Rattle.std.specs.List.{list_any}

abbrev pub invariant-loop-w : goal.invariant-loop-w
invariant-loop-w l = list_any (fence_at l.a l.b) l.insns ≡ list_any (fence_at l.a l.b) (drop l.w-index l.insns)
