use Rattle.std.proofs.Common.{false, ℕ, true, Some, ◌∙◌}
use Rattle.trace_model.specs.Marks.{eight, is_marked}
use Rattle.trace_model.proofs.Marks.{op_same, eight_is}
use Rattle.trace_model.proofs.parts.whole_op.Goals as goal

pub returns : goal.returns
returns c =
    let a = c.args.access.now in
    c.marked_op.ensures.value
    ∙ op_same a 8 (is_marked (eight (λ (k : ℕ). true))) (λ (k : ℕ). true) (Some c.args.place)
    c.marked_op.ensures.small (eight_is (λ (k : ℕ). true) false)
