use Rattle.std.proofs.Common.{◌/◌}
use Rattle.merge_buffer.proofs.Upward.{after_write}
use Rattle.table_speed.proofs.merging.Numbered.write.Goals as goal

pub invariant_of-self : goal.invariant_of-self
invariant_of-self c = λ line. after_write c.write.result c.self.inside.lines c.write.new.self
    (c.args.write.now.line / 64) line c.self.inside.next c.write.ensures.waits
    c.write.ensures.refused (c.self.invariant line)
