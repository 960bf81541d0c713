use Rattle.std.proofs.Common.{arith}
use Rattle.msg_frames.proofs.Spelled.{found_into}
use Rattle.msg_frames.proofs.Frames.{only_into}
use Rattle.msg_frames.proofs.codec.decode_into.Goals as goal

pub returns-clause-found : goal.returns-clause-found
returns-clause-found c =
    let read = c.read_into in
    found_into c.args.frame.now read.result read.new.message (λ i. omega (arith, c.type_inv.frame i)) read.ensures.read

pub returns-clause-only : goal.returns-clause-only
returns-clause-only c = λ m spells.
    let read = c.read_into in
    only_into c.args.frame.now read.result read.new.message m read.ensures.read read.ensures.fault spells
