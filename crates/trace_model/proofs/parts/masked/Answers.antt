use Rattle.std.proofs.Common.{ℕ, List, ◌<◌, ◌≡◌, ◌∷◌, ◌++◌, [], length, cond, get_or, sym, ap, ◌∙◌, arith}
use Rattle.std.proofs.lemmas.List.{length-set, take_more_set}
use Rattle.trace_model.specs.Marks.{is_marked}
use Rattle.trace_model.proofs.Marks.{masked_more}
use Rattle.trace_model.proofs.parts.masked.Goals as goal

pub loop-k-preserved : goal.loop-k-preserved
loop-k-preserved c =
    let l = c.loop-k.invariant in
    let k = c.loop-k.k in
    let v = c.byte_where.result in
    let short : k < length c.args.bytes.now = omega arith in
    let low : k < length c.loop-k.buf = omega arith in
    let is : v ≡ cond (is_marked c.args.marks.now k) (get_or c.args.bytes.now k 0) 0 =
    c.byte_where.ensures
    ∙ ap (λ (i : ℕ). cond (is_marked c.args.marks.now i) c.byte.result 0) c.from.ensures
    ∙ ap (λ (b : ℕ). cond (is_marked c.args.marks.now k) b 0) c.byte.ensures in
    rw c.from-in-loop-k.ensures (
      take_more_set c.loop-k.buf k v low ∙ ap (λ (xs : List ℕ). xs ++ v ∷ []) l.0
          ∙ sym (masked_more (is_marked c.args.marks.now) c.args.bytes.now k v short is),
      length-set c.loop-k.buf k v ∙ l.1,
    )
