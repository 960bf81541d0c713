use Rattle.std.proofs.Common.{◌∙◌, ◌/◌, sym}
use Rattle.key_tree.specs.Entries.{number_at}
use Rattle.byte_memory.proofs.Found.{others_stay, some_led}
use Rattle.byte_memory.proofs.memory.Memory.store_part.Goals as goal

pub returns-clause-others : goal.returns-clause-others
returns-clause-others c =
    let m = c.args.self.now in
    λ x d. others_stay m.numbers.items m.lines.items m.index m.whole m.there m.back c.in-Some.at c.args.line (x / 64)
    c.store.new.self (sym c.find.ensures ∙ c.in-Some.is) d

pub returns-clause-ready : goal.returns-clause-ready
returns-clause-ready c =
    let m = c.args.self.now in
    λ x. some_led m.lines.items c.in-Some.at c.store.new.self (number_at m.index (x / 64))
