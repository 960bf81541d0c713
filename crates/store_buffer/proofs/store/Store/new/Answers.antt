use Rattle.std.proofs.Common.{arith}
use Rattle.store_buffer.proofs.Opens.{new_opens}
use Rattle.store_buffer.proofs.store.Store.new.Goals as goal

pub returns-clause-opens : goal.returns-clause-opens
returns-clause-opens c = new_opens c.args.tag c.args.piece.now c.args.marks.now
    (omega (arith, c.len-size.ensures.value, c.len-size.ensures.sized))
