use Rattle.std.proofs.Common.{◌≡◌, reverse, take}
use Rattle.std.specs.List.{filter}
use Rattle.matching.specs.PartFaults.{byte_waiting}
use Rattle.matching.specs.Tables.{is_in}
use Rattle.matching.proofs.stores.waiting_byte.Given as goal

abbrev pub invariant-loop-held : goal.invariant-loop-held
invariant-loop-held l =
    l.found ≡ byte_waiting (filter (is_in l.line) (reverse (take l.held-index l.inserts))) l.x
