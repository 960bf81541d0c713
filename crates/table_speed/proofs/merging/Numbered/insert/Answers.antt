use Rattle.std.proofs.Common.{◌+◌, List, sym, subst, arith}
use Rattle.merge_buffer.specs.declared.waiting.Part.{Part}
use Rattle.merge_buffer.specs.Parts.{AllBelow}
use Rattle.merge_buffer.proofs.Upward.{after}
use Rattle.table_speed.proofs.merging.Numbered.insert.Goals as goal

pub invariant_of-self : goal.invariant_of-self
invariant_of-self c = λ line. subst (λ (ps : List Part). AllBelow (c.self.inside.next + 1) ps)
    (sym (c.insert-took.ensures.waits line))
    (after _ _ line c.self.inside.next _ (omega arith) (c.self.invariant line))
