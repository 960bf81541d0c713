use Rattle.std.proofs.Common.{◌≡◌}
use Rattle.drain_rules.specs.Seen.{least_among}
use Rattle.drain_rules.proofs.seen.Seen.least_of.Given as goal

-- the least of the bytes before this one
abbrev pub invariant-loop-k : goal.invariant-loop-k
invariant-loop-k l = l.least ≡ least_among l.self l.first l.k
