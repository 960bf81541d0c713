use Rattle.store_buffer.proofs.Slotted.{listed_there, slotted_left, values_left, open_left}
use Rattle.store_buffer.proofs.table.drop_one.Goals as goal

pub remove-store-requires : goal.remove-store-requires
remove-store-requires c = listed_there c.args.stores.now c.args.slots.now c.args.finished.now.items c.requires
    c.in-Some.at c.pop.new.self.items c.in-Some.ensures.items

pub returns-in-Some-clause-slotted : goal.returns-in-Some-clause-slotted
returns-in-Some-clause-slotted c = slotted_left c.args.stores.now c.args.slots.now c.args.finished.now.items c.requires
    c.remove-store.new.self c.take.new.self c.in-Some.at c.pop.new.self.items c.remove-store.result
    c.in-Some.ensures.items c.remove-store.ensures.value c.remove-store.ensures.slots c.take.ensures.numbers
    c.remove-store.ensures.len

pub returns-in-Some-clause-unperformed : goal.returns-in-Some-clause-unperformed
returns-in-Some-clause-unperformed c = values_left c.args.stores.now c.args.slots.now c.args.finished.now.items
    c.requires
    c.remove-store.new.self c.take.new.self c.in-Some.at c.pop.new.self.items c.remove-store.result
    c.in-Some.ensures.items c.remove-store.ensures.value c.remove-store.ensures.slots c.take.ensures.numbers
    c.remove-store.ensures.len

pub returns-in-Some-clause-counted : goal.returns-in-Some-clause-counted
returns-in-Some-clause-counted c = open_left c.args.stores.now c.args.slots.now c.args.finished.now.items c.requires
    c.remove-store.new.self c.take.new.self c.in-Some.at c.pop.new.self.items c.remove-store.result
    c.in-Some.ensures.items c.remove-store.ensures.value c.remove-store.ensures.slots c.take.ensures.numbers
    c.remove-store.ensures.len
