use Rattle.std.proofs.Common.{◌∙◌, refl, arith}
use Rattle.slab.specs.Slab.{get, slab_len}
use Rattle.merge_buffer.proofs.Walks.{draining_begins, draining_ends, draining_goes, there_is}
use Rattle.merge_buffer.proofs.chains.drain.Goals as goal

pub loop-at-init : goal.loop-at-init
loop-at-init c = record {
  draining = draining_begins (get c.args.waiting.now) c.args.head c.args.line c.args.drained.now.items
      (slab_len c.args.waiting.now) c.requires.chained;
  room = c.requires.room;
  capacity = refl;
  reserved = omega arith;
}

pub remove-entry-requires : goal.remove-entry-requires
remove-entry-requires c =
    let r = c.loop-at.invariant.draining.rest in
    there_is (get c.loop-at.waiting) c.loop-at.at c.in-Some.i r.parts r.chain c.in-Some.is

pub loop-at-preserved : goal.loop-at-preserved
loop-at-preserved c =
    let v = c.loop-at.invariant in
    let e = c.remove-entry.ensures in
    let p = c.push_reserved.ensures in
    let goes = draining_goes (get c.args.waiting.now) (get c.loop-at.waiting) c.args.head c.loop-at.at c.args.line
    c.args.drained.now.items c.loop-at.drained.items (slab_len c.args.waiting.now) (slab_len c.loop-at.waiting)
    v.draining c.in-Some.i c.remove-entry.result c.in-Some.is e.value (get c.remove-entry.new.self)
    (slab_len c.remove-entry.new.self) e.len e.updates.others in
    record {
      draining = rw p.items goes;
      room = omega (arith, v.room, e.len, p.len);
      capacity = e.capacity ∙ v.capacity;
      reserved = omega (arith, v.reserved, p.capacity);
    }

pub returns-clause-drained : goal.returns-clause-drained
returns-clause-drained c = λ ps f.
    (draining_ends (get c.args.waiting.now) (get c.loop-at.waiting) c.args.head c.loop-at.at c.args.line
    c.args.drained.now.items c.loop-at.drained.items (slab_len c.args.waiting.now) (slab_len c.loop-at.waiting)
    c.loop-at.invariant.draining c.in_default.is ps f).0

pub returns-clause-count : goal.returns-clause-count
returns-clause-count c = λ ps f.
    (draining_ends (get c.args.waiting.now) (get c.loop-at.waiting) c.args.head c.loop-at.at c.args.line
    c.args.drained.now.items c.loop-at.drained.items (slab_len c.args.waiting.now) (slab_len c.loop-at.waiting)
    c.loop-at.invariant.draining c.in_default.is ps f).1
