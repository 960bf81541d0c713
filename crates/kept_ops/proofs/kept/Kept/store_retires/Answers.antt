use Rattle.std.proofs.Common.{arith}
use Rattle.slab.specs.Slab.{get, values}
use Rattle.kept_ops.proofs.Changes.{closed_kept, closed_marks, seen}
use Rattle.kept_ops.proofs.Knowing.{knows_closed}
use Rattle.kept_ops.proofs.kept.Kept.store_retires.Goals as goal

pub invariant_of-self : goal.invariant_of-self
invariant_of-self c = (
  c.self.invariant.0,
  c.self.invariant.1,
  c.self.invariant.2,
  c.self.invariant.3,
  record {
    found = c.close.ensures.found;
    marked = c.close.ensures.marked;
    kept = closed_kept c.self.inside.ops c.self.inside.words c.close.new.self c.args.extent.now c.self.invariant.4
        c.close.ensures.keys;
  },
  omega (arith, c.self.invariant.5, c.close.ensures.capacity),
  omega (arith, c.self.invariant.6, c.close.ensures.index),
)

pub returns-clause-marks : goal.returns-clause-marks
returns-clause-marks c = rw (← c.self.view_is)
    (closed_marks c.self.inside.ops c.self.inside.words c.close.new.self c.args.extent.now c.self.invariant.4
    c.close.ensures.keys)

pub returns-clause-latest : goal.returns-clause-latest
returns-clause-latest c = rw (← c.self.view_is) (λ x since h.
    knows_closed c.args.extent.now x (values c.self.inside.ops) since
    (seen (get c.self.inside.ops) c.self.inside.words x) (seen (get c.self.inside.ops) c.close.new.self x)
    (closed_marks c.self.inside.ops c.self.inside.words c.close.new.self c.args.extent.now c.self.invariant.4
    c.close.ensures.keys x) h)
