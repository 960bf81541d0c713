use Rattle.std.proofs.Common.{◌≤◌, ◌++◌, length, take, arith, length-append, length-take-le}
use Rattle.std.proofs.KnownBytes.{Consumes-trans}
use Rattle.tandem_cli.proofs.intake.read_by.Goals as goal

-- what was read last is taken too
pub returns-then-is_err-clause-bytes : goal.returns-then-is_err-clause-bytes
returns-then-is_err-clause-bytes g c =
    let before = c.loop-bytes.invariant in
    let read = c.in-Ok.ensures {u = tt} in
    let piece = take c.in-Ok.n c.read_image.new.buf in
    let room : c.min-room.result ≤ length c.loop-bytes.piece = omega (arith, c.min-room.ensures) in
    record {
      got = c.loop-bytes.bytes.items ++ piece;
      took = Consumes-trans _ _ _ _ _ before.took read.bytes.0;
      few = omega (
        arith,
        before.len,
        before.items,
        length-append c.loop-bytes.bytes.items piece,
        length-take-le c.in-Ok.n c.read_image.new.buf read.bound.0,
        length-take-le c.min-room.result c.loop-bytes.piece room,
        read.bound.0,
        c.read_image.auto.buf,
        c.min-room.ensures,
        c.len-in-loop-bytes.ensures,
        c.loop-bytes-test.true,
      );
    }
