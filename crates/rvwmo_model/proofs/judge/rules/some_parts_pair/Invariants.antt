use Rattle.std.proofs.Common.{◌≡◌, drop}
use Rattle.rvwmo_model.specs.Tests.{parts_pair}
use Rattle.rvwmo_model.proofs.judge.rules.some_parts_pair.Given as goal
use Rattle.std.specs.List.{list_any}

abbrev pub invariant-loop-w : goal.invariant-loop-w
invariant-loop-w l = list_any (parts_pair l.a l.b) l.insns ≡ list_any (parts_pair l.a l.b) (drop l.w-index l.insns)
