use Rattle.std.proofs.Common.{◌≡◌, reverse, take}
use Rattle.matching.specs.Tables.{tracked_under}
use Rattle.matching.proofs.stores.store_under.Given as goal

abbrev pub invariant-loop-tracked : goal.invariant-loop-tracked
invariant-loop-tracked l =
    l.found ≡ tracked_under l.tag (reverse (take l.tracked-index l.stores))
