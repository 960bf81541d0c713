use Rattle.std.proofs.Common.{sym, subst, List, arith}
use Rattle.merge_buffer.specs.declared.waiting.Part.{Part}
use Rattle.merge_buffer.specs.Parts.{AllOn}
use Rattle.window_speed.proofs.Parts.{on_more}
use Rattle.window_speed.proofs.line_parts.LineParts.add.Goals as goal

pub invariant_of-self-2 : goal.invariant_of-self-2
invariant_of-self-2 c = subst (λ (ps : List Part). AllOn 33554496 ps) (sym c.in_ok-push.ensures.items)
    (on_more 33554496 c.self.inside.parts.items c.args.part.now (omega (arith, c.if-part-ne-LINE.false))
    (omega (arith, c.if-part-size-gt64.false, c.len.ensures.value, c.from-size.ensures)) c.self.invariant)
