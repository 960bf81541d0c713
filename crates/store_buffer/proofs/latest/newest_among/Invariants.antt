use Rattle.std.proofs.Common.{◌≡◌, ◌&&◌, nat_lt, find, option_copied}
use Rattle.slab.specs.Slab.{values}
use Rattle.store_buffer.specs.Slots.{newest_first}
use Rattle.store_buffer.specs.Waiting.{waits_among}
use Rattle.store_buffer.proofs.latest.newest_among.Given as goal

abbrev pub invariant-loop-k : goal.invariant-loop-k
invariant-loop-k l =
    option_copied l.newest
    ≡ find (λ s. nat_lt s.tag l.below && waits_among l.addr l.k s) (newest_first (values l.stores))
