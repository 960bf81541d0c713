use Rattle.std.proofs.Common.{◌≡◌, ◌+◌, drop}
use Rattle.msg_frames.specs.Reading.{zeros}
use Rattle.msg_frames.proofs.checks.zeros.Given as goal

abbrev pub invariant-loop-k : goal.invariant-loop-k
invariant-loop-k l = zeros (l.at + l.k) (drop l.k l.bytes) ≡ zeros l.at l.bytes
