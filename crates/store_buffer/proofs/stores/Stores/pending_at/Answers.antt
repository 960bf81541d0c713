use Rattle.std.proofs.Common.{sym, subst}
use Rattle.slab.specs.Slab.{values}
use Rattle.store_buffer.specs.Slots.{newest_first}
use Rattle.store_buffer.specs.Stores.{StoreList}
use Rattle.store_buffer.specs.Waiting.{AreRetired, waits_at}
use Rattle.store_buffer.proofs.Finding.{found_passes}
use Rattle.store_buffer.proofs.Slotted.{are_retired}
use Rattle.store_buffer.proofs.stores.Stores.pending_at.Goals as goal

pub pending-requires : goal.pending-requires
pending-requires c = found_passes (waits_at c.args.addr) (newest_first (values c.self.inside.stores))
    c.in-Some.store.now (sym c.in-Some.ensures)

pub returns-in-None-clause-retired : goal.returns-in-None-clause-retired
returns-in-None-clause-retired c = subst (λ (l : StoreList). AreRetired l.stores) c.self.view_is
    (are_retired c.self.inside.stores c.self.inside.slots c.self.inside.finished.items c.self.invariant.0)

pub returns-in-Some-clause-retired : goal.returns-in-Some-clause-retired
returns-in-Some-clause-retired c = subst (λ (l : StoreList). AreRetired l.stores) c.self.view_is
    (are_retired c.self.inside.stores c.self.inside.slots c.self.inside.finished.items c.self.invariant.0)
