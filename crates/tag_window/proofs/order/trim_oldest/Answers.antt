use Rattle.std.proofs.Common.{rules, ◌≡◌, ◌-◌, ◌∙◌, sym, false, length, deque_len, refl, arith}
use Rattle.slab.specs.Slab.{get}
use Rattle.tag_window.specs.Order.{is_live}
use Rattle.tag_window.proofs.Orders.{back_gone_live, back_gone_falls, back_gone_starts}
use Rattle.tag_window.proofs.order.trim_oldest.Goals as goal

pub loop-oldest-preserved : goal.loop-oldest-preserved
loop-oldest-preserved c =
    let v = c.loop-oldest.invariant in
    let e = c.in-Some.ensures {u = tt} in
    let p = c.pop_back.ensures in
    let at = get c.args.links.now in
    let xs = c.loop-oldest.arrivals.items in
    let n : deque_len c.loop-oldest.arrivals ≡ length c.loop-oldest.arrivals.items = search rules in
    let gone : is_live (get c.args.links.now) c.in-Some.oldest.now ≡ false = sym c.is_here.ensures
    ∙ c.if-is_here.false in
    record {
      live = back_gone_live at xs c.pop_back.new.self.items c.pop_back.result c.in-Some.oldest.now
          (deque_len c.loop-oldest.arrivals - 1) p.items (omega (arith, n, e.variant.0 refl)) e.lookup p.lookup gone
          ∙ v.live;
      falls = back_gone_falls at xs c.pop_back.new.self.items c.pop_back.result p.items v.falls;
      starts = back_gone_starts at xs c.pop_back.new.self.items c.pop_back.result p.items v.starts;
      capacity = p.capacity ∙ v.capacity;
    }
