use Rattle.std.proofs.Common.{rules, ◌≡◌, length, deque_len, refl, arith}
use Rattle.tag_window.proofs.Orders.{lowest_from, none_from, first_has}
use Rattle.tag_window.proofs.order.TagOrder.lowest_tag.Goals as goal

pub returns-in-None : goal.returns-in-None
returns-in-None c =
    let n : deque_len c.args.self.now.newest ≡ length c.args.self.now.newest.items = search rules in
    none_from c.args.self.now c.requires c.args.below (search rules)

pub returns-then-first-below : goal.returns-then-first-below
returns-then-first-below c =
    let o = c.args.self.now in
    let e = c.in-Some.ensures {u = tt} in
    let n : deque_len c.args.self.now.newest ≡ length c.args.self.now.newest.items = search rules in
    let l = e.variant.0 refl in (
      c.if-first-below.true,
      first_has o c.requires c.in-Some.first.now (omega (arith, n, l)) e.lookup,
      lowest_from o c.requires c.in-Some.first.now c.in-Some.first.now.tag (omega (arith, n, l)) e.lookup
          (omega arith),
    )

pub returns-else-first-below : goal.returns-else-first-below
returns-else-first-below c =
    let o = c.args.self.now in
    let e = c.in-Some.ensures {u = tt} in
    let n : deque_len c.args.self.now.newest ≡ length c.args.self.now.newest.items = search rules in
    lowest_from o c.requires c.in-Some.first.now c.args.below (omega (arith, n, e.variant.0 refl)) e.lookup
    c.if-first-below.false
