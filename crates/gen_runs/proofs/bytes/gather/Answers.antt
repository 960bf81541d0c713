use Rattle.std.proofs.Common.{sym, ◌∙◌}
use Rattle.gen_runs.proofs.Gathered.{frames_more}
use Rattle.gen_runs.proofs.bytes.gather.Goals as goal

-- the frame of one message more
pub loop-k-preserved : goal.loop-k-preserved
loop-k-preserved c =
    let more = frames_more c.args.messages.now c.loop-k.k c.in-Some.message.now (sym c.in-Some.ensures) in
    c.in_ok-extend_from_slice.ensures.items ∙ rw (c.loop-k.invariant, c.encode-size.ensures.written) (sym more)
