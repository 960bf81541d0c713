use Rattle.slab.specs.Slab.{get, values}
use Rattle.kept_ops.proofs.Changes.{pruned_marks, seen}
use Rattle.kept_ops.proofs.Knowing.{knows_left}
use Rattle.kept_ops.proofs.kept.Kept.prune.Goals as goal

pub returns-clause-marks : goal.returns-clause-marks
returns-clause-marks c = rw (← c.self.view_is)
    (pruned_marks c.self.inside.ops c.drop_all.new.ops c.self.inside.words c.drop_all.new.words c.args.oldest
    c.drop_all.ensures.marks)

pub returns-clause-latest : goal.returns-clause-latest
returns-clause-latest c = rw (← c.self.view_is) (λ x since h.
    knows_left c.args.oldest x (values c.self.inside.ops) (values c.drop_all.new.ops) since
    (seen (get c.self.inside.ops) c.self.inside.words x) (seen (get c.drop_all.new.ops) c.drop_all.new.words x)
    c.drop_all.ensures.left
    (pruned_marks c.self.inside.ops c.drop_all.new.ops c.self.inside.words c.drop_all.new.words c.args.oldest
    c.drop_all.ensures.marks x) h)
