use Rattle.std.proofs.Common.{◌≡◌, is_some}
use Rattle.store_buffer.specs.Searches.{lowest_below}
use Rattle.store_buffer.specs.Store.{is_byte_again}
use Rattle.store_buffer.proofs.store.Store.is_touched.Given as goal

abbrev pub invariant-loop-k : goal.invariant-loop-k
invariant-loop-k l = l.touched ≡ is_some (lowest_below (is_byte_again l.piece l.self) l.k)
