use Rattle.std.proofs.Common.{arith}
use Rattle.byte_memory.proofs.Lines.{part_more}
use Rattle.byte_memory.proofs.line.Line.store.Goals as goal

pub loop-k-preserved : goal.loop-k-preserved
loop-k-preserved c =
    part_more c.args.piece.now c.args.first c.loop-k.k c.args.writer.now c.args.self.now c.loop-k.self c.put.new.self
    c.args.line
    (omega arith) (omega arith) (omega arith) c.loop-k.invariant (rw (← c.byte.ensures)
    (rw c.from.ensures at c.put.ensures.there)) (rw c.from.ensures at c.put.ensures.others)
