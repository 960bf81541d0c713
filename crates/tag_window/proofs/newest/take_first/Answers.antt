use Rattle.std.proofs.Common.{rules, ◌≡◌, length, deque_len, refl, arith}
use Rattle.tag_window.proofs.TagLists.{all_higher, first_slots}
use Rattle.tag_window.proofs.newest.take_first.Goals as goal

pub returns-then-tag-first-clause-none : goal.returns-then-tag-first-clause-none
returns-then-tag-first-clause-none c =
    let n : deque_len c.args.newest.now ≡ length c.args.newest.now.items = search rules in
    let e = c.in-Some.ensures {u = tt} in
    all_higher c.args.newest.now.items c.args.tag c.in-Some.first.now c.requires.rises
    (omega (arith, n, e.variant.0 refl)) e.lookup c.if-tag-first.true

pub returns-clause-slots : goal.returns-clause-slots
returns-clause-slots c = first_slots c.args.newest.now.items c.pop_front.new.self.items c.pop_front.result
    c.requires.rises c.pop_front.ensures.items
