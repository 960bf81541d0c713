use Rattle.std.proofs.Common.{◌≡◌, reverse, take}
use Rattle.matching.specs.Searches.{earliest}
use Rattle.matching.specs.Tables.{is_left_open}
use Rattle.matching.proofs.stores.earliest_open.Given as goal

abbrev pub invariant-loop-tracked : goal.invariant-loop-tracked
invariant-loop-tracked l =
    l.found ≡ earliest is_left_open (reverse (take l.tracked-index l.stores))
