use Rattle.std.proofs.Common.{rules}
use Rattle.rvwmo_model.proofs.Dependents.{one_more, one_less}
use Rattle.rvwmo_model.proofs.judge.walk.tags_on.Goals as goal
use Rattle.rvwmo_model.proofs.judge.walk.tags_on.Goals.{then-w-hart+in_ok-step_by, else-w-hart}

pub loop-w-preserved : goal.loop-w-preserved
loop-w-preserved c = elim c.if-w-hart.branch [
  | then-w-hart+in_ok-step_by w ↦
      one_more c.args.by c.args.hart c.args.start c.args.insns.now _ c.loop-w.tags.items c.loop-w.marks.items
      c.loop-w.w-index _ c.loop-w-test.true c.loop-w.invariant w.if-w-hart.true c.if-w-hart.tags.items
      c.if-w-hart.marks.items (search rules) (search rules)
  | else-w-hart w ↦
      one_less c.args.by c.args.hart c.args.start c.args.insns.now _ c.loop-w.tags.items c.loop-w.marks.items
      c.loop-w.w-index _ c.loop-w-test.true c.loop-w.invariant w.if-w-hart.false c.if-w-hart.tags.items
      c.if-w-hart.marks.items (search rules) (search rules)
]
