use Rattle.std.proofs.Common.{ℕ, suc, ◌-◌, ◌≡◌, ◌++◌, List, false, sym, ap, ◌∙◌, arith}
use Rattle.rvwmo_model.specs.declared.operations.Op.{Op}
use Rattle.trace_model.specs.Groups.{parts_below, part_at, some_below, same_place}
use Rattle.trace_model.specs.Marks.{place_in}
use Rattle.trace_model.proofs.Marks.{one_more_part}
use Rattle.trace_model.proofs.parts.push_parts.Goals as goal

pub loop-n-preserved-in-Continue-1 : goal.loop-n-preserved-in-Continue-1
loop-n-preserved-in-Continue-1 c =
    let l = c.loop-n.invariant in
    let a = c.args.access.now in
    let n = c.loop-n.n in
    let f = place_in c.args.places.now in
    let last : suc (n - 1) ≡ n = omega arith in
    let new : some_below (λ k. same_place (f k) (f (n - 1))) (n - 1) ≡ false =
    ap (λ (i : ℕ). some_below (λ k. same_place (f k) (f i)) (n - 1)) (sym c.from.ensures)
    ∙ sym c.is_among_first.ensures
    ∙ c.if-not-is_among_first.true in
    let is : c.part_of.result ≡ part_at a f (f (n - 1)) =
    c.part_of.ensures ∙ ap (λ (i : ℕ). part_at a f (f i)) c.from.ensures in (
      omega arith,
      ap (λ (xs : List Op). xs ++ parts_below a f (n - 1)) c.in_ok-push.ensures
          ∙ one_more_part a f n (n - 1) c.part_of.result c.loop-n.list last new is
          ∙ l.1,
    )
