use Rattle.std.proofs.Common.{false, ℕ, List, Bool, ap, ◌∙◌}
use Rattle.trace_model.specs.Groups.{op_of, same_place}
use Rattle.trace_model.specs.Marks.{eight, is_marked, place_in}
use Rattle.trace_model.proofs.Marks.{op_same, eight_is}
use Rattle.trace_model.proofs.parts.part_of.Goals as goal

pub returns : goal.returns
returns c =
    let a = c.args.access.now in
    let p = λ (k : ℕ). same_place (place_in c.args.places.now k) c.args.place in
    c.marked_op.ensures.value
    ∙ ap (λ (m : List Bool). op_of a (is_marked m) c.args.place) c.marks_at.ensures
    ∙ op_same a 8 (is_marked (eight p)) p c.args.place c.marked_op.ensures.small (eight_is p false)
