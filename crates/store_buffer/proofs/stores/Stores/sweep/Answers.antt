use Rattle.std.proofs.Common.{◌≡◌, List, sym, subst}
use Rattle.slab.specs.Slab.{values}
use Rattle.store_buffer.specs.declared.store.Store.{Store}
use Rattle.store_buffer.specs.Slots.{newest_first}
use Rattle.store_buffer.specs.Stores.{StoreList, open_stores}
use Rattle.store_buffer.specs.Waiting.{AreRetired}
use Rattle.store_buffer.proofs.Slotted.{are_retired}
use Rattle.store_buffer.proofs.Waits.{swept_open}
use Rattle.store_buffer.proofs.stores.Stores.sweep.Goals as goal

pub returns-clause-swept : goal.returns-clause-swept
returns-clause-swept c = subst (λ (ss : List Store). open_stores ss ≡ ss) (sym c.drop_finished.ensures.unperformed)
    (swept_open (newest_first (values c.self.inside.stores)))

pub returns-clause-retired : goal.returns-clause-retired
returns-clause-retired c = subst (λ (l : StoreList). AreRetired l.stores) c.self.view_is
    (are_retired c.self.inside.stores c.self.inside.slots c.self.inside.finished.items c.self.invariant.0)
