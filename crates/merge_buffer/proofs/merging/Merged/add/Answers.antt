use Rattle.std.proofs.Common.{arith}
use Rattle.merge_buffer.proofs.Merges.{merge_more}
use Rattle.merge_buffer.proofs.merging.Merged.add.Goals as goal

pub loop-k-preserved : goal.loop-k-preserved
loop-k-preserved c = merge_more c.args.piece.now c.args.self.now c.loop-k.self c.add_byte.new.self c.args.line
    c.loop-k.k
    c.byte.result c.requires.within c.requires.line (omega arith) c.loop-k.invariant c.byte.ensures
    c.add_byte.ensures.there c.add_byte.ensures.others
