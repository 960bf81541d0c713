use Rattle.std.proofs.Common.{ℕ, ◌∙◌, sym, arith}
use Rattle.slab.specs.Slab.{get, slab_len}
use Rattle.kept_ops.specs.Doublewords.{marks_of}
use Rattle.kept_ops.specs.Tables.{op_stays}
use Rattle.kept_ops.specs.Words.{keys_at}
use Rattle.kept_ops.proofs.Changes.{marks_at_end}
use Rattle.kept_ops.proofs.Keeping.{fewer}
use Rattle.kept_ops.proofs.Slots.{filter_all}
use Rattle.kept_ops.proofs.kept.drop_all.Goals as goal

pub loop-more-smaller : goal.loop-more-smaller
loop-more-smaller c = rw c.loop-more-test.true
    (fewer c.drop_one-more.result (slab_len c.drop_one-more.new.ops) (slab_len c.loop-more.ops)
    c.drop_one-more.ensures.fewer c.drop_one-more.ensures.len)

pub loop-more-preserved : goal.loop-more-preserved
loop-more-preserved c = record {
  arrived = c.drop_one-more.ensures.arrived;
  staying = c.drop_one-more.ensures.staying ∙ c.loop-more.invariant.staying;
  all = c.drop_one-more.ensures.all;
  marked = c.drop_one-more.ensures.marked;
  marks = λ x. c.drop_one-more.ensures.marks x ∙ c.loop-more.invariant.marks x;
  len = omega (arith, c.drop_one-more.ensures.len, c.loop-more.invariant.len);
  capacity = c.drop_one-more.ensures.capacity ∙ c.loop-more.invariant.capacity;
  room = c.drop_one-more.ensures.room ∙ c.loop-more.invariant.room;
  words = c.drop_one-more.ensures.words ∙ c.loop-more.invariant.words;
  index = c.drop_one-more.ensures.index ∙ c.loop-more.invariant.index;
}

pub returns-clause-left : goal.returns-clause-left
returns-clause-left c =
    sym (filter_all (op_stays c.args.oldest) c.loop-more.ops.slots
    (c.loop-more.invariant.all c.loop-more-test.false)) ∙ c.loop-more.invariant.staying

pub returns-clause-marks : goal.returns-clause-marks
returns-clause-marks c =
    marks_at_end c.args.oldest c.loop-more.ops c.loop-more.words
    (λ (x : ℕ). marks_of (get c.args.ops.now) (keys_at c.args.words.now x))
    (c.loop-more.invariant.all c.loop-more-test.false) c.loop-more.invariant.marks
