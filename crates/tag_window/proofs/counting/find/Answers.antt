use Rattle.std.proofs.Common.{rules, ◌≡◌, ◌-◌, ◌∙◌, length, vec_len, sym, subst, ap, arith}
use Rattle.std.proofs.Common.{Option, IsSome, refl}
use Rattle.slab.specs.Slab.{get}
use Rattle.msg_frames.specs.Pieces.{has}
use Rattle.tag_window.specs.declared.links.Link.{Link}
use Rattle.tag_window.specs.declared.reports.Read.{Read}
use Rattle.tag_window.specs.Slots.{no_read}
use Rattle.tag_window.proofs.Slotted.{other_default}
use Rattle.tag_window.proofs.Finding.{finding_begins, finding_ends, finding_hits, finding_goes, slot_inside}
use Rattle.tag_window.proofs.Finding.{slot_linked}
use Rattle.tag_window.proofs.Finding.{none_left}
use Rattle.tag_window.proofs.counting.find.Goals as goal

pub loop-left-init : goal.loop-left-init
loop-left-init c = rw c.len-left.ensures (finding_begins c.args.links.now c.args.head c.args.addr c.args.reads.now.items
    c.requires)

pub returns-in-None : goal.returns-in-None
returns-in-None c =
    finding_ends (get c.args.links.now) c.args.head c.loop-left.at c.args.addr c.args.reads.now.items c.loop-left.left
    c.loop-left.invariant c.in-None.is

pub index-requires : goal.index-requires
index-requires c =
    let n : vec_len c.args.reads.now ≡ length c.args.reads.now.items = search rules in
    let i = slot_inside (get c.args.links.now) c.args.head c.loop-left.at c.args.addr c.args.reads.now.items
    c.loop-left.left c.loop-left.invariant c.in-Some.slot c.in-Some.is in
    omega (arith, n, i)

pub link_at-requires : goal.link_at-requires
link_at-requires c =
    let s = slot_linked (get c.args.links.now) c.args.head c.loop-left.at c.args.addr c.args.reads.now.items
    c.loop-left.left c.loop-left.invariant c.in-Some.slot c.in-Some.is in
    subst (λ (o : Option Link). IsSome o) (sym s.1) refl

pub returns-then-has_byte : goal.returns-then-has_byte
returns-then-has_byte c =
    let xs = c.args.reads.now.items in
    let at = get c.args.links.now in
    let v = c.loop-left.invariant in
    let i = slot_inside at c.args.head c.loop-left.at c.args.addr xs c.loop-left.left v c.in-Some.slot c.in-Some.is in
    let s = slot_linked at c.args.head c.loop-left.at c.args.addr xs c.loop-left.left v c.in-Some.slot c.in-Some.is in
    let same = c.index.ensures ∙ other_default xs c.in-Some.slot c.index.result.now no_read i in
    let hit = ap (λ (r : Read). has r.piece c.args.addr) (sym same) ∙ sym c.has_byte.ensures ∙ c.if-has_byte.true in
    finding_hits at c.args.head c.loop-left.at c.args.addr xs c.loop-left.left v c.in-Some.slot c.in-Some.is s.0 s.1 hit

pub loop-left-preserved : goal.loop-left-preserved
loop-left-preserved c =
    let xs = c.args.reads.now.items in
    let at = get c.args.links.now in
    let v = c.loop-left.invariant in
    let i = slot_inside at c.args.head c.loop-left.at c.args.addr xs c.loop-left.left v c.in-Some.slot c.in-Some.is in
    let same = c.index.ensures ∙ other_default xs c.in-Some.slot c.index.result.now no_read i in
    let miss = ap (λ (r : Read). has r.piece c.args.addr) (sym same) ∙ sym c.has_byte.ensures ∙ c.if-has_byte.false in
    finding_goes at c.args.head c.loop-left.at c.args.addr xs c.loop-left.left v c.in-Some.slot c.in-Some.is
    c.link_at.result.now c.link_at.ensures miss (c.loop-left.left - 1) (omega (arith, c.loop-left-test.true))

pub returns : goal.returns
returns c =
    let xs = c.args.reads.now.items in
    let at = get c.args.links.now in
    let v = c.loop-left.invariant in
    finding_ends at c.args.head c.loop-left.at c.args.addr xs c.loop-left.left v
    (none_left at c.args.head c.loop-left.at c.args.addr xs c.loop-left.left v (omega (arith, c.loop-left-test.false)))
