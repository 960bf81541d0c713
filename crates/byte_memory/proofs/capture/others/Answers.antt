use Rattle.std.proofs.Common.{◌∙◌, arith}
use Rattle.std.proofs.lemmas.List.{length-set}
use Rattle.byte_memory.proofs.Captures.{other_more}
use Rattle.byte_memory.proofs.capture.others.Goals as goal

pub loop-k-preserved : goal.loop-k-preserved
loop-k-preserved c = record {
  whole = length-set _ _ _ ∙ c.loop-k.invariant.whole;
  size = c.loop-k.invariant.size;
  so_far =
      rw (c.other_at.ensures, c.from-in-loop-k.ensures)
      (other_more c.args.memory.now c.if-offset-from-le8.base.0 c.loop-k.k c.loop-k.other
      (omega arith) c.loop-k.invariant.so_far);
}
