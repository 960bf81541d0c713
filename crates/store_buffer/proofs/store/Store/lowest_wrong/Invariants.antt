use Rattle.std.proofs.Common.{◌≡◌, ◌<◌, IfSome}
use Rattle.store_buffer.specs.Searches.{lowest_below}
use Rattle.store_buffer.specs.Store.{differs}
use Rattle.store_buffer.proofs.store.Store.lowest_wrong.Given as goal

abbrev pub invariant-loop-k : goal.invariant-loop-k
invariant-loop-k l = (l.lowest ≡ lowest_below (differs l.self l.piece) l.k) × IfSome l.lowest (λ k. k < l.k)
