use Rattle.std.proofs.Common.{rules, ◌≡◌, ◌-◌, length, deque_len, refl, arith}
use Rattle.slab.specs.Slab.{get}
use Rattle.tag_window.proofs.Arrivals.{oldest_is}
use Rattle.tag_window.proofs.order.TagOrder.oldest.Goals as goal

pub returns-in-Some : goal.returns-in-Some
returns-in-Some c =
    let o = c.args.self.now in
    let e = c.in-Some.ensures {u = tt} in
    let n : deque_len c.args.self.now.arrivals ≡ length c.args.self.now.arrivals.items = search rules in
    oldest_is (get o.links) o.arrivals.items c.in-Some.oldest.now (deque_len o.arrivals - 1) c.requires.kept.falls
    c.requires.ends (omega (arith, n, e.variant.0 refl)) e.lookup
