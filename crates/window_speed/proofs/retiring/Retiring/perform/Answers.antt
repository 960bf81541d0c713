use Rattle.std.proofs.Common.{sym, subst, List}
use Rattle.store_buffer.specs.declared.store.ByteState.TheVariants.{Performed}
use Rattle.store_buffer.specs.declared.store.Store.{Store}
use Rattle.store_buffer.specs.Stores.{AllTagged}
use Rattle.window_speed.proofs.Tagged.{tagged_given}
use Rattle.window_speed.proofs.retiring.Retiring.perform.Goals as goal

pub invariant_of-self : goal.invariant_of-self
invariant_of-self c = subst (λ (ss : List Store). AllTagged c.self.inside.next ss) (sym c.performed.ensures.stores)
    (tagged_given c.self.inside.next c.args.tag Performed c.args.extent.now.addr c.args.extent.now.len
    c.self.inside.stores.stores c.self.invariant)
