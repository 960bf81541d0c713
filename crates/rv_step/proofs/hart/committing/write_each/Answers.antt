use Rattle.std.proofs.Common.{◌∙◌, sym}
use Rattle.rv_step.proofs.Committed.{csrs_set-next, csrs_set-end}
use Rattle.rv_step.proofs.hart.committing.write_each.Goals as goal

pub loop-k-preserved : goal.loop-k-preserved
loop-k-preserved c =
    rw c.write.ensures.registers
    (sym (csrs_set-next c.loop-k.csrs c.args.list.now c.loop-k.k c.in-Some.item (sym c.get.ensures ∙ c.in-Some.is))
    ∙ c.loop-k.invariant)

pub returns : goal.returns
returns c =
    sym (csrs_set-end c.loop-k.csrs c.args.list.now c.loop-k.k (rw (← c.len-k-end.ensures.value) c.loop-k-test.false))
    ∙ c.loop-k.invariant
