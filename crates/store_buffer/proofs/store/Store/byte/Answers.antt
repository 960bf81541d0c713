use Rattle.std.proofs.Common.{arith}
use Rattle.store_buffer.proofs.Inside.{inside}
use Rattle.store_buffer.proofs.store.Store.byte.Goals as goal

pub overflow_cast-from : goal.overflow_cast-from
overflow_cast-from c =
    let i = inside c.args.self.now c.args.piece.now c.requires.covers in
    omega (arith, i.0, i.1, c.requires.there, c.len-size.ensures.value, c.len-size.ensures.sized)

pub overflow_add-from : goal.overflow_add-from
overflow_add-from c =
    let i = inside c.args.self.now c.args.piece.now c.requires.covers in
    omega (arith, i.0, i.1, c.requires.there, c.len-size.ensures.value, c.len-size.ensures.sized)
