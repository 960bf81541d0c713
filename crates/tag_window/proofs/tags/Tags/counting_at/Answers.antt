use Rattle.std.proofs.Common.{rules, ◌≡◌, ◌∙◌, Some, None, ap, length, vec_len, arith}
use Rattle.tag_window.specs.Order.{live_reports, arrivals_of_tag}
use Rattle.tag_window.specs.Slots.{no_read, place_of_read}
use Rattle.tag_window.specs.Windows.{Window, read_counting}
use Rattle.tag_window.proofs.Slotted.{other_default}
use Rattle.tag_window.proofs.Held.{linked, chain_from, found_inside, counts_by}
use Rattle.tag_window.proofs.tags.Tags.counting_at.Goals as goal

pub find-requires : goal.find-requires
find-requires c =
    let t = c.self.inside in
    linked place_of_read no_read t.reads t.read_items.items c.self.invariant.0 c.self.invariant.2 c.args.tag
    c.slot_of-head.result c.slot_of-head.ensures

pub index-requires : goal.index-requires
index-requires c =
    let t = c.self.inside in
    let v = c.self.invariant in
    let n : vec_len c.self.inside.read_items ≡ length c.self.inside.read_items.items = search rules in
    let chain = chain_from place_of_read no_read t.reads t.read_items.items v.0 v.2 c.args.tag c.slot_of-head.result
    c.slot_of-head.ensures in
    let e = c.in-Some.ensures {u = tt} in
    let i = found_inside t.reads t.read_items.items v.0 v.2 c.args.tag c.args.addr c.in-Some.slot
    (e (arrivals_of_tag c.args.tag (live_reports t.reads)) chain) in
    omega (arith, n, i)

pub returns-in-None : goal.returns-in-None
returns-in-None c =
    let t = c.self.inside in
    let v = c.self.invariant in
    let chain = chain_from place_of_read no_read t.reads t.read_items.items v.0 v.2 c.args.tag c.slot_of-head.result
    c.slot_of-head.ensures in
    let e = c.in-None.ensures {u = tt} in
    counts_by t.reads t.read_items.items v.0 v.2 c.args.tag c.args.addr None
    (e (arrivals_of_tag c.args.tag (live_reports t.reads)) chain)
    ∙ ap (λ (w : Window). read_counting c.args.tag c.args.addr w.reads) c.self.view_is

pub returns-in-Some : goal.returns-in-Some
returns-in-Some c =
    let t = c.self.inside in
    let v = c.self.invariant in
    let chain = chain_from place_of_read no_read t.reads t.read_items.items v.0 v.2 c.args.tag c.slot_of-head.result
    c.slot_of-head.ensures in
    let e = (c.in-Some.ensures {u = tt}) (arrivals_of_tag c.args.tag (live_reports t.reads)) chain in
    let i = found_inside t.reads t.read_items.items v.0 v.2 c.args.tag c.args.addr c.in-Some.slot e in
    ap Some (c.index.ensures ∙ other_default t.read_items.items c.in-Some.slot c.index.result.now no_read i)
    ∙ counts_by t.reads t.read_items.items v.0 v.2 c.args.tag c.args.addr (Some c.in-Some.slot) e
    ∙ ap (λ (w : Window). read_counting c.args.tag c.args.addr w.reads) c.self.view_is
