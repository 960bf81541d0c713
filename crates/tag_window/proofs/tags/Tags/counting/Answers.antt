use Rattle.std.proofs.Common.{ℕ, ◌+◌, Option, subst, sym, arith}
use Rattle.tag_window.specs.Order.{IsTagChain}
use Rattle.slab.specs.Slab.{get, slab_len}
use Rattle.tag_window.proofs.Finding.{finding_begins, found_first, in_part_0, slot_inside}
use Rattle.std.specs.List.{slice_index}
use Rattle.tag_window.specs.Order.{live_reports, arrivals_of_tag}
use Rattle.tag_window.specs.Slots.{no_read, place_of_read}
use Rattle.tag_window.specs.Windows.{Window, IsInPart, IsLowestMissing}
use Rattle.tag_window.proofs.Held.{linked, chain_from, part_of, whole_part, lowest_missing}
use Rattle.tag_window.proofs.tags.Tags.counting.Goals as goal

pub slots_of-requires-clause-linked : goal.slots_of-requires-clause-linked
slots_of-requires-clause-linked c =
    let t = c.self.inside in
    linked place_of_read no_read t.reads t.read_items.items c.self.invariant.0 c.self.invariant.2 c.args.tag
    c.slot_of-head.result c.slot_of-head.ensures

pub first_has_all-requires : goal.first_has_all-requires
first_has_all-requires c = λ slot e.
    let t = c.self.inside in
    let head = c.slot_of-head.result in
    let xs = t.read_items.items in
    slot_inside (get t.reads.links) head head 0 xs (slab_len t.reads.links)
    (finding_begins t.reads.links head 0 xs
    (linked place_of_read no_read t.reads xs c.self.invariant.0 c.self.invariant.2 c.args.tag head
    c.slot_of-head.ensures)) slot e

pub returns-then-first_has_all-clause-all : goal.returns-then-first_has_all-clause-all
returns-then-first_has_all-clause-all c = λ k l.
    let t = c.self.inside in
    let v = c.self.invariant in
    let xs = t.read_items.items in
    let at = get t.reads.links in
    let cs = arrivals_of_tag c.args.tag (live_reports t.reads) in
    let h = c.first_has_all.ensures c.if-first_has_all.true in
    let chain = chain_from place_of_read no_read t.reads xs v.0 v.2 c.args.tag c.slot_of-head.result
    c.slot_of-head.ensures in
    let here = subst (λ (o : Option ℕ). IsTagChain at o cs) h.first chain in
    let addr = c.args.extent.now.addr in
    let len = c.args.extent.now.len in
    let whole = whole_part t.reads xs v.0 v.2 c.args.tag addr len k h.slot
    (λ i m. found_first at h.slot (addr + i) xs cs here (h.all i m)) l in
    subst (λ (part : ℕ). IsInPart c.args.tag addr c.args.self.now.reads k part)
    (sym (in_part_0 k (omega (arith, l, c.fits-extent))))
    (subst (λ (w : Window). IsInPart c.args.tag addr w.reads k 0) c.self.view_is whole)

pub returns-in-None-clause-all : goal.returns-in-None-clause-all
returns-in-None-clause-all c = λ k l.
    let t = c.self.inside in
    let v = c.self.invariant in
    let chain = chain_from place_of_read no_read t.reads t.read_items.items v.0 v.2 c.args.tag c.slot_of-head.result
    c.slot_of-head.ensures in
    subst (λ (w : Window). IsInPart c.args.tag c.args.extent.now.addr w.reads k (slice_index c.parts_of.result k))
    c.self.view_is
    (part_of t.reads t.read_items.items v.0 v.2 c.args.tag c.args.extent.now.addr c.args.extent.now.len k
    (slice_index c.parts_of.result k) c.slots_of.new.slots
    (λ i m. c.slots_of.ensures i m (arrivals_of_tag c.args.tag (live_reports t.reads)) chain)
    ((c.in-None.ensures {u = tt}).none) l (c.parts_of.ensures k l))

pub returns-in-Some-clause-missing : goal.returns-in-Some-clause-missing
returns-in-Some-clause-missing c =
    let t = c.self.inside in
    let v = c.self.invariant in
    let chain = chain_from place_of_read no_read t.reads t.read_items.items v.0 v.2 c.args.tag c.slot_of-head.result
    c.slot_of-head.ensures in
    subst (λ (n : ℕ). IsLowestMissing c.args.tag c.args.extent.now c.args.self.now.reads (c.args.extent.now.addr + n))
    (sym c.from.ensures)
    (subst (λ (w : Window). IsLowestMissing c.args.tag c.args.extent.now w.reads
    (c.args.extent.now.addr + c.in-Some.k)) c.self.view_is
    (lowest_missing t.reads t.read_items.items v.0 v.2 c.args.tag c.args.extent.now c.in-Some.k
    c.slots_of.new.slots
    (λ i m. c.slots_of.ensures i m (arrivals_of_tag c.args.tag (live_reports t.reads)) chain)
    ((c.in-Some.ensures {u = tt}).first)))
