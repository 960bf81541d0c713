use Rattle.std.proofs.Common.{◌≡◌, ◌&&◌, nat_lt, find, option_copied}
use Rattle.slab.specs.Slab.{values}
use Rattle.store_buffer.specs.Slots.{newest_first}
use Rattle.store_buffer.specs.Waiting.{waits_at}
use Rattle.store_buffer.proofs.Finding.{found_from}
use Rattle.store_buffer.proofs.latest.newest_below.Given as goal

abbrev pub invariant-loop-at : goal.invariant-loop-at
invariant-loop-at l =
    (goal.iterator-loop-at).can_next l._at-iterator
    × (goal.iterator-loop-at).is_finite l._at-iterator
    × (found_from (λ s. nat_lt s.tag l.below && waits_at l.addr s) (option_copied l.newest) l._at-iterator
    ≡ find (λ s. nat_lt s.tag l.below && waits_at l.addr s) (newest_first (values l.stores)))
