use Rattle.std.proofs.Common.{◌≡◌}
use Rattle.matching.specs.Searches.{first_below}
use Rattle.matching.specs.EndFaults.{is_left}
use Rattle.matching.specs.Tables.{fate_in_store}
use Rattle.matching.proofs.stores.Tracked.first_open_of.Given as goal

abbrev pub invariant-loop-k : goal.invariant-loop-k
invariant-loop-k l =
    l.first ≡ first_below (is_left (fate_in_store l.self) l.self.store) l.k
