use Rattle.std.proofs.Common.{rules, ◌≡◌, length, deque_len, refl, arith}
use Rattle.tag_window.proofs.TagLists.{past_slot, own_slot, other_slot}
use Rattle.tag_window.proofs.newest.slot_at.Goals as goal

pub returns-in-None-clause-other : goal.returns-in-None-clause-other
returns-in-None-clause-other c =
    let n : deque_len c.args.newest.now ≡ length c.args.newest.now.items = search rules in
    past_slot c.args.newest.now.items c.args.k c.args.tag c.requires.rises c.requires.rank (search rules)

pub returns-then-item-tag-clause-own : goal.returns-then-item-tag-clause-own
returns-then-item-tag-clause-own c =
    let n : deque_len c.args.newest.now ≡ length c.args.newest.now.items = search rules in
    let e = c.in-Some.ensures {u = tt} in
    own_slot c.args.newest.now.items c.args.tag c.args.k c.in-Some.item.now c.requires.rises
    (omega (arith, n, e.variant.0 refl)) e.lookup c.if-item-tag.true c.requires.rank

pub returns-else-item-tag-clause-other : goal.returns-else-item-tag-clause-other
returns-else-item-tag-clause-other c =
    let n : deque_len c.args.newest.now ≡ length c.args.newest.now.items = search rules in
    let e = c.in-Some.ensures {u = tt} in
    other_slot c.args.newest.now.items c.args.tag c.args.k c.in-Some.item.now c.requires.rises
    (omega (arith, n, e.variant.0 refl)) e.lookup c.if-item-tag.false c.requires.rank
