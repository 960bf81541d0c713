use Rattle.std.proofs.Common.{◌∙◌, ◌/◌, sym}
use Rattle.byte_memory.proofs.Found.{still_ready}
use Rattle.byte_memory.proofs.memory.Memory.ready.Goals as goal

pub returns-in-Some-clause-ok : goal.returns-in-Some-clause-ok
returns-in-Some-clause-ok c =
    let m = c.args.self.now in
    λ x. still_ready m.numbers.items m.lines.items m.index m.whole m.there m.back c.in-Some.at (c.args.addr / 64) x
    (sym c.find.ensures ∙ c.in-Some.is)
