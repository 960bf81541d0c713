use Rattle.std.proofs.Common.{◌∙◌, length}
use Rattle.store_buffer.proofs.Room.{fewer}
use Rattle.store_buffer.proofs.Slotted.{all_open}
use Rattle.store_buffer.proofs.table.drop_finished.Goals as goal

pub loop-more-smaller : goal.loop-more-smaller
loop-more-smaller c = rw c.loop-more-test.true
    (fewer c.drop_one-more.result (length c.drop_one-more.new.finished.items) (length c.loop-more.finished.items)
    c.drop_one-more.ensures.fewer c.drop_one-more.ensures.len)

pub returns-clause-unperformed : goal.returns-clause-unperformed
returns-clause-unperformed c =
    all_open c.loop-more.stores c.loop-more.slots c.loop-more.finished.items c.loop-more.invariant.slotted
    (c.loop-more.invariant.none c.loop-more-test.false) ∙ c.loop-more.invariant.unperformed
