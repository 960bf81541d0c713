use Rattle.std.proofs.Common.{◌<◌, arith, take}
use Rattle.msg_frames.proofs.CutLaws.{front_whole}
use Rattle.msg_frames.proofs.source.next_message_into.Goals as goal

-- a frame that was read where it lies was taken then
pub returns-clause-taken : goal.returns-clause-taken
returns-clause-taken g c =
    let ready = c.ready-ready.result.now in
    let size = c.size_at_front-size.result in
    let some : 0 < size = omega (arith, c.if-size-eq0.false) in
    let front = front_whole ready size c.size_at_front-size.ensures.size some in
    let read = c.read_frame-answer in (
      take size ready,
      rw c.ready-ready.ensures.lent (record { consumed = c.skip.ensures.bytes; logged = c.skip.ensures.logged }),
      read.ensures.next _,
    )
