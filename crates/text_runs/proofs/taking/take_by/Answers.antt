use Rattle.std.proofs.Common.{◌≤◌, ◌++◌, arith, length, take, length-append, length-take-le}
use Rattle.msg_frames.proofs.Taking.{TakenFrom-trans}
use Rattle.text_runs.proofs.taking.take_by.Goals as goal

-- memory was refused: what was read last is taken too
pub returns-then-is_err-clause-text : goal.returns-then-is_err-clause-text
returns-then-is_err-clause-text g c =
    let before = c.loop-bytes.invariant in
    let read = c.in-Ok.ensures {u = tt} in
    let part = take c.in-Ok.n c.read.new.buf in
    let room : c.min-room.result ≤ length c.loop-bytes.piece = omega (arith, c.min-room.ensures) in (
      c.loop-bytes.bytes.items ++ part,
      TakenFrom-trans (g.S.Source.left c.args.src.now) (g.S.Source.left c.loop-bytes.src)
          (g.S.Source.left c.read.new.self)
          (g.S.Source.log c.args.src.now) (g.S.Source.log c.loop-bytes.src) (g.S.Source.log c.read.new.self)
          c.loop-bytes.bytes.items part before.took
          (record { consumed = read.bytes.0; logged = read.logged }),
      omega (
        arith,
        before.len,
        before.items,
        length-append c.loop-bytes.bytes.items part,
        length-take-le c.in-Ok.n c.read.new.buf read.bound.0,
        length-take-le c.min-room.result c.loop-bytes.piece room,
        read.bound.0,
        c.read.auto.buf,
        c.min-room.ensures,
        c.len-free.ensures,
        c.if-n-free.false,
      ),
    )

-- a byte more than a text may have was read
pub returns-in-Ok-clause-text : goal.returns-in-Ok-clause-text
returns-in-Ok-clause-text g c =
    let before = c.loop-bytes.invariant in
    let read = c.in-Ok.ensures {u = tt} in
    let part = take c.in-Ok.n c.read.new.buf in
    let room : c.min-room.result ≤ length c.loop-bytes.piece = omega (arith, c.min-room.ensures) in (
      c.loop-bytes.bytes.items ++ part,
      TakenFrom-trans (g.S.Source.left c.args.src.now) (g.S.Source.left c.loop-bytes.src)
          (g.S.Source.left c.read.new.self)
          (g.S.Source.log c.args.src.now) (g.S.Source.log c.loop-bytes.src) (g.S.Source.log c.read.new.self)
          c.loop-bytes.bytes.items part before.took
          (record { consumed = read.bytes.0; logged = read.logged }),
      omega (
        arith,
        before.len,
        before.items,
        length-append c.loop-bytes.bytes.items part,
        length-take-le c.in-Ok.n c.read.new.buf read.bound.0,
        length-take-le c.min-room.result c.loop-bytes.piece room,
        read.bound.0,
        c.read.auto.buf,
        c.min-room.ensures,
        c.len-free.ensures,
        c.if-n-free.true,
      ),
    )
