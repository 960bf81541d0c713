use Rattle.std.proofs.Common.{◌+◌, refl, sym, subst, List, arith}
use Rattle.store_buffer.specs.declared.store.Store.{Store}
use Rattle.store_buffer.specs.Store.{stays_open, untouched_store}
use Rattle.store_buffer.specs.Stores.{AllTagged}
use Rattle.window_speed.proofs.Tagged.{tagged_up, tagged_filter, tagged_retire}
use Rattle.window_speed.proofs.retiring.Retiring.retire.Goals as goal

pub retire-took-requires-clause-newest : goal.retire-took-requires-clause-newest
retire-took-requires-clause-newest c = subst (λ (ss : List Store). AllTagged c.args.tag ss) (sym c.sweep.ensures.stores)
    (tagged_filter stays_open c.args.tag c.self.inside.stores.stores (tagged_up c.self.inside.next c.args.tag
    c.self.inside.stores.stores (omega (arith, c.if-tag-self.false)) c.self.invariant))

pub invariant_of-self : goal.invariant_of-self
invariant_of-self c = subst (λ (ss : List Store). AllTagged (c.args.tag + 1) ss) (sym c.retire-took.ensures.stores)
    (tagged_retire c.args.tag c.retire-took.result (untouched_store c.args.tag c.args.piece.now c.args.marks.now)
    c.sweep.new.self.stores refl (subst (λ (ss : List Store). AllTagged c.args.tag ss) (sym c.sweep.ensures.stores)
    (tagged_filter stays_open c.args.tag c.self.inside.stores.stores (tagged_up c.self.inside.next c.args.tag
    c.self.inside.stores.stores (omega (arith, c.if-tag-self.false)) c.self.invariant))))
