use Rattle.std.proofs.Common.{rules, ◌≡◌, ◌-◌, ◌+◌, ◌∙◌, length, vec_len, sym, subst, ap, arith}
use Rattle.std.proofs.Common.{Option, IsSome, refl, slice_index_or, None}
use Rattle.slab.specs.Slab.{get}
use Rattle.msg_frames.specs.Pieces.{has}
use Rattle.tag_window.specs.declared.links.Link.{Link}
use Rattle.tag_window.specs.declared.reports.Read.{Read}
use Rattle.tag_window.specs.Slots.{no_read, noted}
use Rattle.tag_window.proofs.Slotted.{other_default}
use Rattle.tag_window.proofs.Finding.{walking_begins, walking_ends, walking_goes, walking_completed, reached}
use Rattle.tag_window.proofs.Finding.{none_left, slot_inside, slot_linked}
use Rattle.tag_window.proofs.counting.slots_of.Goals as goal

pub loop-left-init : goal.loop-left-init
loop-left-init c = rw c.len-left.ensures (walking_begins c.args.links.now c.args.head c.args.load.now.addr
    c.args.load.now.len c.args.reads.now.items c.args.slots.now c.requires.linked
    (λ k l. c.requires.empty k (omega (arith, l, c.args.load.now.sized))))

pub returns-in-None : goal.returns-in-None
returns-in-None c = λ k l.
    walking_ends (get c.args.links.now) c.args.head c.loop-left.at c.args.load.now.addr c.args.load.now.len
    c.args.reads.now.items c.loop-left.left c.loop-left.slots c.loop-left.invariant c.in-None.is k l

pub index-requires : goal.index-requires
index-requires c =
    let n : vec_len c.args.reads.now ≡ length c.args.reads.now.items = search rules in
    let r = reached (get c.args.links.now) c.args.head c.loop-left.at c.args.load.now.addr c.args.load.now.len
    c.args.reads.now.items c.loop-left.left c.loop-left.slots c.loop-left.invariant in
    let i = slot_inside (get c.args.links.now) c.loop-left.at c.loop-left.at 0 c.args.reads.now.items
    c.loop-left.left r c.in-Some.slot c.in-Some.is in
    omega (arith, n, i)

pub link_at-requires : goal.link_at-requires
link_at-requires c =
    let r = reached (get c.args.links.now) c.args.head c.loop-left.at c.args.load.now.addr c.args.load.now.len
    c.args.reads.now.items c.loop-left.left c.loop-left.slots c.loop-left.invariant in
    let s = slot_linked (get c.args.links.now) c.loop-left.at c.loop-left.at 0 c.args.reads.now.items
    c.loop-left.left r c.in-Some.slot c.in-Some.is in
    subst (λ (o : Option Link). IsSome o) (sym s.1) refl

pub returns-then-completes : goal.returns-then-completes
returns-then-completes c =
    let xs = c.args.reads.now.items in
    let at = get c.args.links.now in
    let load = c.args.load.now in
    let v = c.loop-left.invariant in
    let r = reached at c.args.head c.loop-left.at load.addr load.len xs c.loop-left.left c.loop-left.slots v in
    let i = slot_inside at c.loop-left.at c.loop-left.at 0 xs c.loop-left.left r c.in-Some.slot c.in-Some.is in
    let s = slot_linked at c.loop-left.at c.loop-left.at 0 xs c.loop-left.left r c.in-Some.slot c.in-Some.is in
    let same = c.index.ensures ∙ other_default xs c.in-Some.slot c.index.result.now no_read i in
    walking_completed at c.args.head c.loop-left.at load.addr load.len xs c.loop-left.left c.loop-left.slots v
    c.in-Some.slot c.in-Some.is s.0 s.1 c.completes.new.slots
    (λ k l. c.completes.ensures.noted k l
    ∙ ap (λ (q : Read). noted (has q.piece (load.addr + k)) c.in-Some.slot
    (slice_index_or c.loop-left.slots k None)) same)
    (c.completes.ensures.whole c.if-completes.true)

pub loop-left-preserved : goal.loop-left-preserved
loop-left-preserved c =
    let xs = c.args.reads.now.items in
    let at = get c.args.links.now in
    let load = c.args.load.now in
    let v = c.loop-left.invariant in
    let r = reached at c.args.head c.loop-left.at load.addr load.len xs c.loop-left.left c.loop-left.slots v in
    let i = slot_inside at c.loop-left.at c.loop-left.at 0 xs c.loop-left.left r c.in-Some.slot c.in-Some.is in
    let same = c.index.ensures ∙ other_default xs c.in-Some.slot c.index.result.now no_read i in
    walking_goes at c.args.head c.loop-left.at load.addr load.len xs c.loop-left.left c.loop-left.slots v
    c.in-Some.slot c.in-Some.is c.link_at.result.now c.link_at.ensures c.completes.new.slots
    (λ k l. c.completes.ensures.noted k l
    ∙ ap (λ (q : Read). noted (has q.piece (load.addr + k)) c.in-Some.slot
    (slice_index_or c.loop-left.slots k None)) same)
    (c.loop-left.left - 1) (omega (arith, c.loop-left-test.true))

pub returns : goal.returns
returns c = λ k l.
    let xs = c.args.reads.now.items in
    let at = get c.args.links.now in
    let load = c.args.load.now in
    let v = c.loop-left.invariant in
    let r = reached at c.args.head c.loop-left.at load.addr load.len xs c.loop-left.left c.loop-left.slots v in
    walking_ends at c.args.head c.loop-left.at load.addr load.len xs c.loop-left.left c.loop-left.slots v
    (none_left at c.loop-left.at c.loop-left.at 0 xs c.loop-left.left r (omega (arith, c.loop-left-test.false))) k l
