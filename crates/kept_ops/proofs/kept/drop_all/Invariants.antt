use Rattle.std.proofs.Common.{ℕ, ◌≡◌, ◌+◌, ◌≤◌, false, true, cond, Some}
use Rattle.std.specs.List.{filter}
use Rattle.slab.specs.Slab.{get, slab_len, values}
use Rattle.kept_ops.specs.declared.operation.KeptOp.{KeptOp}
use Rattle.kept_ops.specs.Doublewords.{marks_of}
use Rattle.kept_ops.specs.Marks.{marks_staying}
use Rattle.kept_ops.specs.Tables.{AreArrived, op_stays}
use Rattle.kept_ops.specs.Words.{AreMarked, keys_at}
use Rattle.kept_ops.proofs.kept.drop_all.Given as goal

abbrev pub invariant-loop-more : goal.invariant-loop-more
invariant-loop-more l = record {
  arrived : AreArrived l.ops l.arrivals.items;
  staying : filter (op_stays l.oldest) (values l.ops) ≡ filter (op_stays l.oldest) (values l.fn.ops);
  all : l.more ≡ false → (key : ℕ) (o : KeptOp) → get l.ops key ≡ Some o → op_stays l.oldest o ≡ true;
  marked : AreMarked l.ops l.words;
  marks : (x : ℕ) → marks_staying l.oldest (marks_of (get l.ops) (keys_at l.words x))
      ≡ marks_staying l.oldest (marks_of (get l.fn.ops) (keys_at l.fn.words x));
  len : slab_len l.ops ≤ slab_len l.fn.ops;
  capacity : l.ops.capacity ≡ l.fn.ops.capacity;
  room : l.arrivals.capacity ≡ l.fn.arrivals.capacity;
  words : l.words.words.capacity ≡ l.fn.words.words.capacity;
  index : l.words.index.capacity ≡ l.fn.words.index.capacity;
}

abbrev pub decreases-loop-more : goal.decreases-loop-more
decreases-loop-more l = slab_len l.ops + cond l.more 1 0
