use Rattle.std.proofs.Common.{◌≡◌, is_some}
use Rattle.matching.specs.Searches.{first_below}
use Rattle.matching.specs.PartFaults.{is_again}
use Rattle.matching.specs.Tables.{fate_in_store}
use Rattle.matching.proofs.stores.Tracked.is_touched.Given as goal

abbrev pub invariant-loop-k : goal.invariant-loop-k
invariant-loop-k l =
    l.touched ≡ is_some (first_below (is_again (fate_in_store l.self) l.piece l.self.store) l.k)
