use Rattle.std.proofs.Common.{arith, ap, Ok}
use Rattle.msg_frames.specs.Reading.{reading}
use Rattle.msg_frames.proofs.Spelled.{spelled}
use Rattle.msg_frames.proofs.Frames.{same_ok, spells_reading, spells_no_fault}
use Rattle.msg_frames.proofs.codec.decode.Goals as goal

pub returns-clause-found : goal.returns-clause-found
returns-clause-found c =
    spelled c.args.frame.now _ (λ i. omega (arith, c.type_inv.frame i)) (c.in_ok-read_into.ensures {u = tt}).read

pub returns-clause-only : goal.returns-clause-only
returns-clause-only c = λ message spells.
    let frame = c.args.frame.now in
    ap Ok (same_ok (reading frame) _ message (c.in_ok-read_into.ensures {u = tt}).read
    (spells_reading frame message spells))

pub returns-in_err-read_into-clause-only : goal.returns-in_err-read_into-clause-only
returns-in_err-read_into-clause-only c = λ message spells.
    spells_no_fault c.args.frame.now message _ spells (c.in_err-read_into.ensures {u = tt}).fault
