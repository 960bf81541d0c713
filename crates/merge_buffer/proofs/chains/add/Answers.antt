use Rattle.std.proofs.Common.{ℕ, ◌≡◌, Some, Option, subst, arith}
use Rattle.slab.specs.Slab.{get}
use Rattle.merge_buffer.proofs.Room.{lines_fit, newest_leads}
use Rattle.merge_buffer.proofs.Sound.{chained_more, parts_more}
use Rattle.merge_buffer.proofs.chains.add.Goals as goal

pub put-requires : goal.put-requires
put-requires c =
    let f = lines_fit c.args.newest.now.entries c.args.waiting.now.slots c.get-before.ensures.distinct
    (newest_leads c.args.waiting.now c.args.newest.now c.requires.chained) in
    omega (arith, f, c.requires.lines)

pub returns-clause-chained : goal.returns-clause-chained
returns-clause-chained c =
    let i = c.insert_reserved-at in
    chained_more c.args.newest.now.capacity c.args.waiting.now i.new.self c.args.newest.now c.put.new.self
    c.args.part.now i.result c.requires.chained i.ensures.was_vacant
    (subst (λ (o : Option ℕ). get i.new.self i.result ≡ Some (record { part = c.args.part.now; before = o }))
    c.get-before.ensures.number i.ensures.updates.changed)
    i.ensures.updates.others i.ensures.len c.put.ensures.numbers c.requires.lines c.requires.newer c.requires.within

pub returns-clause-parts : goal.returns-clause-parts
returns-clause-parts c =
    let i = c.insert_reserved-at in
    parts_more c.args.newest.now.capacity c.args.waiting.now i.new.self c.args.newest.now c.put.new.self
    c.args.part.now i.result c.requires.chained i.ensures.was_vacant
    (subst (λ (o : Option ℕ). get i.new.self i.result ≡ Some (record { part = c.args.part.now; before = o }))
    c.get-before.ensures.number i.ensures.updates.changed)
    i.ensures.updates.others i.ensures.len c.put.ensures.numbers c.requires.lines c.requires.newer c.requires.within
