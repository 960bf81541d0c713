use Rattle.std.proofs.Common.{◌≡◌}
use Rattle.store_buffer.specs.Searches.{lowest_below}
use Rattle.store_buffer.specs.Store.{is_open_byte}
use Rattle.store_buffer.proofs.store.Store.lowest_open_of.Given as goal

abbrev pub invariant-loop-k : goal.invariant-loop-k
invariant-loop-k l = l.lowest ≡ lowest_below (is_open_byte l.self) l.k
