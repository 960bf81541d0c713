use Rattle.std.proofs.Common.{arith}
use Rattle.std.proofs.lemmas.Grind.{common_steps}
use Rattle.msg_frames.proofs.Lists.{csrs_in_step}
use Rattle.msg_frames.proofs.reading.csrs_into.Goals as goal

pub loop-preserved : goal.loop-preserved
loop-preserved c = record {
  values = rw (c.push.ensures, c.split_at.ensures.back)
      (csrs_in_step c.loop.list c.loop.rest.now c.args.bytes.now c.args.count c.loop.counter c.u16_at.result
      c.u64_at.result
      c.loop-test.true c.u16_at.ensures c.u64_at.ensures c.loop.invariant.values);
  room = omega arith;
  taken = rw c.push.ensures (grind (arith, common_steps));
}
