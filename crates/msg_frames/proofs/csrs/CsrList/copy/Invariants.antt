use Rattle.std.proofs.Common.{◌≡◌, take}
use Rattle.msg_frames.proofs.csrs.CsrList.copy.Given as goal

abbrev pub invariant-loop-k : goal.invariant-loop-k
invariant-loop-k l = l.list ≡ take l.k l.self
