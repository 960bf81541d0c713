use Rattle.std.proofs.Common.{◌≡◌, ◌<◌, reverse, IfSome}
use Rattle.std.specs.List.{filter}
use Rattle.matching.specs.Pieces.{first_other}
use Rattle.msg_frames.specs.Pieces.{byte_written}
use Rattle.matching.specs.PartFaults.{byte_waiting}
use Rattle.matching.specs.Tables.{is_in}
use Rattle.matching.proofs.checks.first_unlike.Given as goal

abbrev pub invariant-loop-k : goal.invariant-loop-k
invariant-loop-k l =
    (l.first
    ≡ first_other (byte_waiting (filter (is_in l.write.line) (reverse l.inserts))) (byte_written l.write) l.write.line
    l.k)
    × IfSome l.first (λ k. k < l.k)
