use Rattle.store_buffer.proofs.Slotted.{are_retired}
use Rattle.store_buffer.proofs.stores.Stores.waiting.Goals as goal

pub newest_among-newest-requires-clause-retired : goal.newest_among-newest-requires-clause-retired
newest_among-newest-requires-clause-retired c = are_retired c.self.inside.stores c.self.inside.slots
    c.self.inside.finished.items c.self.invariant.0
