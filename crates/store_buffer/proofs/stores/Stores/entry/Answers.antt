use Rattle.std.proofs.Common.{sym, ap}
use Rattle.std.specs.Option.{option_map}
use Rattle.store_buffer.specs.declared.store.Store.{Store}
use Rattle.store_buffer.proofs.Slotted.{is_there, found, missing}
use Rattle.store_buffer.proofs.stores.Stores.entry.Goals as goal

pub store_at-requires : goal.store_at-requires
store_at-requires c = is_there c.self.inside.stores c.self.inside.slots c.self.inside.finished.items
    c.self.invariant.0 c.args.tag c.in-Some.at (sym c.in-Some.ensures.number)

pub returns-in-None : goal.returns-in-None
returns-in-None c = rw (← c.self.view_is)
    (sym (ap (option_map (λ (s : Store). s.entry)) (missing c.self.inside.stores c.self.inside.slots
    c.self.inside.finished.items c.self.invariant.0 c.args.tag (sym c.in-None.ensures.number))))

pub returns-in-Some : goal.returns-in-Some
returns-in-Some c = rw (← c.self.view_is)
    (sym (ap (option_map (λ (s : Store). s.entry)) (found c.self.inside.stores c.self.inside.slots
    c.self.inside.finished.items c.self.invariant.0 c.args.tag c.in-Some.at c.store_at.result.now
    (sym c.in-Some.ensures.number) c.store_at.ensures)))
