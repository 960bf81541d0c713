use Rattle.std.proofs.Common.{◌≡◌, ◌<◌, reverse, IfSome}
use Rattle.matching.specs.Searches.{first_below}
use Rattle.matching.specs.RetireFaults.{is_missing}
use Rattle.matching.proofs.reports.first_missing.Given as goal

abbrev pub invariant-loop-k : goal.invariant-loop-k
invariant-loop-k l =
    (l.first ≡ first_below (is_missing (reverse l.live) l.tag l.extent.addr) l.k) × IfSome l.first (λ k. k < l.k)
