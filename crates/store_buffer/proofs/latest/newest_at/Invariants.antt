use Rattle.std.proofs.Common.{◌≡◌, find, option_copied}
use Rattle.slab.specs.Slab.{values}
use Rattle.store_buffer.specs.Slots.{newest_first}
use Rattle.store_buffer.specs.Waiting.{waits_at}
use Rattle.store_buffer.proofs.Finding.{found_from}
use Rattle.store_buffer.proofs.latest.newest_at.Given as goal

abbrev pub invariant-loop-at : goal.invariant-loop-at
invariant-loop-at l =
    (goal.iterator-loop-at).can_next l._at-iterator
    × (goal.iterator-loop-at).is_finite l._at-iterator
    × (found_from (waits_at l.addr) (option_copied l.newest) l._at-iterator
    ≡ find (waits_at l.addr) (newest_first (values l.stores)))
