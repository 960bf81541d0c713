use Rattle.std.proofs.Common.{◌≡◌, ◌<◌, IfSome}
use Rattle.msg_frames.specs.Pieces.{byte_in}
use Rattle.matching.specs.Pieces.{first_other}
use Rattle.matching.proofs.pieces.first_different.Given as goal

abbrev pub invariant-loop-k : goal.invariant-loop-k
invariant-loop-k l =
    (l.first ≡ first_other (byte_in l.want) (byte_in l.got) l.base l.k) × IfSome l.first (λ k. k < l.k)
