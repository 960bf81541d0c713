use Rattle.std.proofs.Common.{sym, subst, List}
use Rattle.store_buffer.specs.declared.store.Store.{Store}
use Rattle.store_buffer.specs.Stores.{AllTagged}
use Rattle.window_speed.proofs.Tagged.{tagged_taken}
use Rattle.window_speed.proofs.retiring.Retiring.insert.Goals as goal

pub invariant_of-self : goal.invariant_of-self
invariant_of-self c = subst (λ (ss : List Store). AllTagged c.self.inside.next ss) (sym c.insert.ensures.stores)
    (tagged_taken c.self.inside.next c.args.tag c.insert.result c.args.piece.now c.self.inside.stores.stores
    c.self.invariant)
