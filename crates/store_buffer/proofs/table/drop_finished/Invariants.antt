use Rattle.std.proofs.Common.{◌≡◌, ◌+◌, ◌≤◌, [], length, false, cond, count_by, vec_capacity}
use Rattle.slab.specs.Slab.{values, slab_len}
use Rattle.store_buffer.specs.Slots.{AreSlotted, newest_first, is_open_slot}
use Rattle.store_buffer.specs.Stores.{open_stores}
use Rattle.store_buffer.proofs.table.drop_finished.Given as goal

abbrev pub invariant-loop-more : goal.invariant-loop-more
invariant-loop-more l = record {
  slotted : AreSlotted l.stores l.slots l.finished.items;
  unperformed : open_stores (newest_first (values l.stores)) ≡ open_stores (newest_first (values l.fn.stores));
  counted : count_by is_open_slot l.stores.slots ≡ count_by is_open_slot l.fn.stores.slots;
  none : l.more ≡ false → l.finished.items ≡ [];
  stores_len : slab_len l.stores ≤ slab_len l.fn.stores;
  room : l.stores.capacity ≡ l.fn.stores.capacity;
  slots_room : l.slots.capacity ≡ l.fn.slots.capacity;
  finished_room : vec_capacity l.finished ≡ vec_capacity l.fn.finished;
}

abbrev pub decreases-loop-more : goal.decreases-loop-more
decreases-loop-more l = length l.finished.items + cond l.more 1 0
