use Rattle.std.proofs.Common.{◌≡◌, ◌<◌, reverse, IfSome}
use Rattle.matching.specs.Searches.{first_below}
use Rattle.matching.specs.RetireFaults.{is_torn}
use Rattle.matching.proofs.reports.first_torn.Given as goal

abbrev pub invariant-loop-k : goal.invariant-loop-k
invariant-loop-k l =
    (l.first ≡ first_below (is_torn (reverse l.live) l.tag l.extent.addr) l.k) × IfSome l.first (λ k. k < l.k)
