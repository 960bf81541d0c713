use Rattle.std.proofs.Common.{◌∙◌, sym, refl}
use Rattle.tag_window.specs.Order.{live_reports, arrivals_of_tag}
use Rattle.tag_window.proofs.Chains.{freed_chain, freed_links, freed_falls, freed_kept, freed_live}
use Rattle.tag_window.proofs.Orders.{none_of_tag, trimmed}
use Rattle.tag_window.proofs.order.TagOrder.drop_tag.Goals as goal

pub free-requires : goal.free-requires
free-requires c =
    let o = c.args.self.now in
    let e = c.in-Some.ensures {u = tt} in
    freed_chain o.links o.links o.arrivals.items o.newest.items c.take.new.newest.items c.args.tag c.in-Some.slot
    c.requires.kept (sym e.was) e.rises e.slots

pub returns-in-None-clause-live : goal.returns-in-None-clause-live
returns-in-None-clause-live c =
    let o = c.args.self.now in
    let e = c.in-None.ensures {u = tt} in
    sym (none_of_tag o.links o.arrivals.items o.newest.items c.args.tag c.requires.kept (sym e.was))

pub returns-in-Some-clause-live : goal.returns-in-Some-clause-live
returns-in-Some-clause-live c =
    let o = c.args.self.now in
    let e = c.in-Some.ensures {u = tt} in
    let chain = freed_links o.links o.links o.arrivals.items o.newest.items c.take.new.newest.items c.args.tag
    c.in-Some.slot
    c.requires.kept (sym e.was) e.rises e.slots in
    let falls = freed_falls o.links o.links o.arrivals.items o.newest.items c.take.new.newest.items c.args.tag
    c.in-Some.slot
    c.requires.kept (sym e.was) e.rises e.slots in
    c.trim.ensures.live
    ∙ freed_live o.links c.free.new.links o.arrivals.items o.newest.items c.take.new.newest.items c.args.tag
    c.in-Some.slot c.requires.kept (sym e.was) e.rises e.slots
    (c.free.ensures.freed (arrivals_of_tag c.args.tag (live_reports o)) chain falls)
    (c.free.ensures.count (arrivals_of_tag c.args.tag (live_reports o)) chain falls)

pub returns-in-Some-clause-sound : goal.returns-in-Some-clause-sound
returns-in-Some-clause-sound c =
    let o = c.args.self.now in
    let e = c.in-Some.ensures {u = tt} in
    let t = c.trim.ensures in
    let chain = freed_links o.links o.links o.arrivals.items o.newest.items c.take.new.newest.items c.args.tag
    c.in-Some.slot
    c.requires.kept (sym e.was) e.rises e.slots in
    let falls = freed_falls o.links o.links o.arrivals.items o.newest.items c.take.new.newest.items c.args.tag
    c.in-Some.slot
    c.requires.kept (sym e.was) e.rises e.slots in
    trimmed o (record o { links = c.free.new.links; newest = c.take.new.newest }) c.trim.new.self c.requires
    (freed_kept o.links c.free.new.links o.arrivals.items o.newest.items c.take.new.newest.items c.args.tag
    c.in-Some.slot c.requires.kept (sym e.was) e.rises e.slots
    (c.free.ensures.freed (arrivals_of_tag c.args.tag (live_reports o)) chain falls)
    (c.free.ensures.count (arrivals_of_tag c.args.tag (live_reports o)) chain falls))
    c.free.ensures.capacity refl e.capacity refl t.live t.falls t.starts t.ends t.arrivals t.links t.newest t.capacity
