use Rattle.std.proofs.Common.{◌∙◌, sym, refl, arith}
use Rattle.slab.specs.Slab.{get}
use Rattle.tag_window.specs.Order.{arrivals_above, live_reports, arrivals_of_tag}
use Rattle.tag_window.proofs.Chains.{freed_chain, freed_links, freed_falls, chain_some}
use Rattle.tag_window.proofs.Orders.{dropping_goes, above_without, all_above}
use Rattle.tag_window.proofs.order.TagOrder.drop_to.Goals as goal

pub free-requires : goal.free-requires
free-requires c =
    let o = c.loop-first.self in
    let e = c.in-Some.ensures {u = tt} in
    freed_chain o.links o.links o.arrivals.items o.newest.items c.take_first.new.newest.items c.in-Some.first.tag
    c.in-Some.first.slot c.loop-first.invariant.kept e.taken.1 e.rises e.slots

pub loop-first-smaller : goal.loop-first-smaller
loop-first-smaller c =
    let o = c.loop-first.self in
    let e = c.in-Some.ensures {u = tt} in
    let f = freed_chain o.links o.links o.arrivals.items o.newest.items c.take_first.new.newest.items
    c.in-Some.first.tag
    c.in-Some.first.slot c.loop-first.invariant.kept e.taken.1 e.rises e.slots in
    omega (
      arith,
      c.free.ensures.count f.reports f.chain f.falls,
      chain_some (get o.links) c.in-Some.first.slot f.reports
          f.chain,
    )

pub loop-first-preserved : goal.loop-first-preserved
loop-first-preserved c =
    let o = c.loop-first.self in
    let v = c.loop-first.invariant in
    let e = c.in-Some.ensures {u = tt} in
    let tag = c.in-Some.first.tag in
    let chain = freed_links o.links o.links o.arrivals.items o.newest.items c.take_first.new.newest.items tag
    c.in-Some.first.slot v.kept e.taken.1 e.rises e.slots in
    let falls = freed_falls o.links o.links o.arrivals.items o.newest.items c.take_first.new.newest.items tag
    c.in-Some.first.slot v.kept e.taken.1 e.rises e.slots in
    dropping_goes (arrivals_above c.args.tag) c.args.self.now o
    (record o { links = c.free.new.links; newest = c.take_first.new.newest }) tag c.in-Some.first.slot v e.taken.1
    e.rises
    e.slots (c.free.ensures.freed (arrivals_of_tag tag (live_reports o)) chain falls)
    (c.free.ensures.count (arrivals_of_tag tag (live_reports o)) chain falls)
    (above_without c.args.tag tag (live_reports o) e.taken.0) refl c.free.ensures.capacity e.capacity refl

pub returns-clause-live : goal.returns-clause-live
returns-clause-live c =
    let o = c.loop-first.self in
    let v = c.loop-first.invariant in
    let e = c.in_default.ensures {u = tt} in
    c.trim.ensures.live ∙ sym (all_above o.links o.arrivals.items o.newest.items c.args.tag v.kept e.none) ∙ v.same
