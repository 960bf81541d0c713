use Rattle.std.proofs.Common.{◌∙◌, sym, refl, arith}
use Rattle.slab.specs.Slab.{get}
use Rattle.tag_window.specs.Order.{arrivals_below, live_reports, arrivals_of_tag}
use Rattle.tag_window.proofs.Chains.{freed_chain, freed_links, freed_falls, chain_some}
use Rattle.tag_window.proofs.Orders.{dropping_goes, below_without, all_below}
use Rattle.tag_window.proofs.order.TagOrder.drop_from.Goals as goal

pub free-requires : goal.free-requires
free-requires c =
    let o = c.loop-last.self in
    let e = c.in-Some.ensures {u = tt} in
    freed_chain o.links o.links o.arrivals.items o.newest.items c.take_last.new.newest.items c.in-Some.last.tag
    c.in-Some.last.slot c.loop-last.invariant.kept e.taken.1 e.rises e.slots

pub loop-last-smaller : goal.loop-last-smaller
loop-last-smaller c =
    let o = c.loop-last.self in
    let e = c.in-Some.ensures {u = tt} in
    let f = freed_chain o.links o.links o.arrivals.items o.newest.items c.take_last.new.newest.items c.in-Some.last.tag
    c.in-Some.last.slot c.loop-last.invariant.kept e.taken.1 e.rises e.slots in
    omega (
      arith,
      c.free.ensures.count f.reports f.chain f.falls,
      chain_some (get o.links) c.in-Some.last.slot f.reports
          f.chain,
    )

pub loop-last-preserved : goal.loop-last-preserved
loop-last-preserved c =
    let o = c.loop-last.self in
    let v = c.loop-last.invariant in
    let e = c.in-Some.ensures {u = tt} in
    let tag = c.in-Some.last.tag in
    let chain = freed_links o.links o.links o.arrivals.items o.newest.items c.take_last.new.newest.items tag
    c.in-Some.last.slot v.kept e.taken.1 e.rises e.slots in
    let falls = freed_falls o.links o.links o.arrivals.items o.newest.items c.take_last.new.newest.items tag
    c.in-Some.last.slot v.kept e.taken.1 e.rises e.slots in
    dropping_goes (arrivals_below c.args.tag) c.args.self.now o
    (record o { links = c.free.new.links; newest = c.take_last.new.newest }) tag c.in-Some.last.slot v e.taken.1 e.rises
    e.slots (c.free.ensures.freed (arrivals_of_tag tag (live_reports o)) chain falls)
    (c.free.ensures.count (arrivals_of_tag tag (live_reports o)) chain falls)
    (below_without c.args.tag tag (live_reports o) e.taken.0) refl c.free.ensures.capacity e.capacity refl

pub returns-clause-live : goal.returns-clause-live
returns-clause-live c =
    let o = c.loop-last.self in
    let v = c.loop-last.invariant in
    let e = c.in_default.ensures {u = tt} in
    c.trim.ensures.live ∙ sym (all_below o.links o.arrivals.items o.newest.items c.args.tag v.kept e.none) ∙ v.same
