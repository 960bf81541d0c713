use Rattle.std.proofs.Common.{inr, sym, subst, List}
use Rattle.merge_buffer.specs.declared.waiting.Part.{Part}
use Rattle.merge_buffer.specs.Parts.{AllOn}
use Rattle.window_speed.proofs.line_parts.LineParts.as_slice.Goals as goal

pub returns : goal.returns
returns c = inr (33554496, subst (λ (ps : List Part). AllOn 33554496 ps) (sym c.deref.ensures.value) c.self.invariant)
