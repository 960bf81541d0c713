use Rattle.std.proofs.Common.{◌≢◌, length, sym, ◌∙◌, arith}
use Rattle.slab.specs.Slab.{get, values}
use Rattle.kept_ops.proofs.Arrived.{with_added}
use Rattle.kept_ops.proofs.Changes.{kept_kept, kept_marks, room_for_two, seen}
use Rattle.kept_ops.proofs.Keeping.{took_full, took_yes, is_with}
use Rattle.kept_ops.proofs.Knowing.{knows_more, knows_same}
use Rattle.kept_ops.proofs.Slots.{values_counted}
use Rattle.kept_ops.proofs.kept.Kept.keep.Goals as goal

pub returns-then-len-self-clause-took : goal.returns-then-len-self-clause-took
returns-then-len-self-clause-took c = rw (← c.self.view_is)
    (took_full (length (values c.self.inside.ops)) c.self.inside.capacity
    (values_counted c.self.inside.ops.slots ∙ sym c.len.ensures ∙ c.if-len-self.true))

pub returns-clause-took : goal.returns-clause-took
returns-clause-took c =
    let n = values_counted c.self.inside.ops.slots in
    let apart : length (values c.self.inside.ops) ≢ c.self.inside.capacity =
    λ e. c.if-len-self.false (c.len.ensures ∙ sym n ∙ e) in
    rw (← c.self.view_is)
    (took_yes (length (values c.self.inside.ops)) c.self.inside.capacity apart)

pub mark-requires-clause-room : goal.mark-requires-clause-room
mark-requires-clause-room c =
    room_for_two c.self.inside.ops c.self.inside.words c.self.inside.capacity c.self.inside.words.words.capacity
    c.self.invariant.4 (omega (arith, c.self.invariant.1, c.if-len-self.false, c.len.ensures)) c.self.invariant.5

pub mark-requires-clause-keys : goal.mark-requires-clause-keys
mark-requires-clause-keys c =
    room_for_two c.self.inside.ops c.self.inside.words c.self.inside.capacity c.self.inside.words.index.capacity
    c.self.invariant.4 (omega (arith, c.self.invariant.1, c.if-len-self.false, c.len.ensures)) c.self.invariant.6

pub invariant_of-self : goal.invariant_of-self
invariant_of-self c = (
  with_added c.self.inside.ops c.insert-key.new.self c.self.inside.arrivals.items c.add.new.self.items
      c.insert-key.result c.args.op.now c.self.invariant.0 c.insert-key.ensures.was_vacant
      c.insert-key.ensures.updates c.insert-key.ensures.len c.add.ensures.items,
  omega (arith, c.self.invariant.1, c.insert-key.ensures.len, c.if-len-self.false, c.len.ensures),
  omega (arith, c.self.invariant.2, c.insert-key.ensures.capacity),
  c.add.ensures.capacity ∙ c.self.invariant.3,
  record {
    found = c.mark.ensures.found;
    marked = c.mark.ensures.marked;
    kept = kept_kept c.self.inside.ops c.insert-key.new.self c.self.inside.words c.mark.new.self
        c.insert-key.result c.args.op.now c.insert-key.ensures.was_vacant
        c.insert-key.ensures.updates c.self.invariant.4 c.mark.ensures.keys;
  },
  omega (arith, c.self.invariant.5, c.mark.ensures.capacity),
  omega (arith, c.self.invariant.6, c.mark.ensures.index),
)

pub returns-clause-ops : goal.returns-clause-ops
returns-clause-ops c = rw (← c.self.view_is)
    (is_with c.self.inside.ops c.insert-key.new.self c.insert-key.result c.args.op.now
    c.insert-key.ensures.was_vacant c.insert-key.ensures.updates)

pub returns-clause-marks : goal.returns-clause-marks
returns-clause-marks c = rw (← c.self.view_is)
    (kept_marks c.self.inside.ops c.insert-key.new.self c.self.inside.words c.mark.new.self
    c.insert-key.result c.args.op.now c.insert-key.ensures.was_vacant
    c.insert-key.ensures.updates c.self.invariant.4 c.mark.ensures.keys)

pub returns-then-len-self-clause-latest : goal.returns-then-len-self-clause-latest
returns-then-len-self-clause-latest c = rw (← c.self.view_is) (λ x since longer h e.
    knows_same x (values c.self.inside.ops) since longer (seen (get c.self.inside.ops) c.self.inside.words x) e h)

pub returns-clause-latest : goal.returns-clause-latest
returns-clause-latest c = rw (← c.self.view_is) (λ x since longer h w.
    knows_more x c.args.op.now (values c.self.inside.ops) (values c.insert-key.new.self) since longer
    (seen (get c.self.inside.ops) c.self.inside.words x) (seen (get c.insert-key.new.self) c.mark.new.self x)
    (is_with c.self.inside.ops c.insert-key.new.self c.insert-key.result c.args.op.now
    c.insert-key.ensures.was_vacant c.insert-key.ensures.updates)
    (kept_marks c.self.inside.ops c.insert-key.new.self c.self.inside.words c.mark.new.self
    c.insert-key.result c.args.op.now c.insert-key.ensures.was_vacant
    c.insert-key.ensures.updates c.self.invariant.4 c.mark.ensures.keys x) w h)
