use Rattle.std.proofs.Common.{rules, ◌≡◌, ◌-◌, length, deque_len, refl, arith}
use Rattle.tag_window.proofs.TagLists.{all_lower, last_slots, last_rises, last_taken}
use Rattle.tag_window.proofs.newest.take_last.Goals as goal

pub returns-then-last-tag-clause-none : goal.returns-then-last-tag-clause-none
returns-then-last-tag-clause-none c =
    let n : deque_len c.args.newest.now ≡ length c.args.newest.now.items = search rules in
    let e = c.in-Some.ensures {u = tt} in
    all_lower c.args.newest.now.items c.args.tag (deque_len c.args.newest.now - 1) c.in-Some.last.now c.requires.rises
    (omega (arith, n, e.variant.0 refl)) e.lookup c.if-last-tag.true

pub returns-clause-taken : goal.returns-clause-taken
returns-clause-taken c =
    let n : deque_len c.args.newest.now ≡ length c.args.newest.now.items = search rules in
    let e = c.in-Some.ensures {u = tt} in
    last_taken c.args.newest.now.items c.pop_back.new.self.items c.pop_back.result c.args.tag
    (deque_len c.args.newest.now - 1) c.in-Some.last.now c.requires.rises c.pop_back.ensures.items c.if-last-tag.false
    e.lookup (omega (arith, n, e.variant.0 refl)) c.pop_back.ensures.lookup

pub returns-clause-slots : goal.returns-clause-slots
returns-clause-slots c = last_slots c.args.newest.now.items c.pop_back.new.self.items c.pop_back.result
    c.requires.rises c.pop_back.ensures.items

pub returns-clause-rises : goal.returns-clause-rises
returns-clause-rises c = last_rises c.args.newest.now.items c.pop_back.new.self.items c.pop_back.result
    c.requires.rises c.pop_back.ensures.items
