use Rattle.std.proofs.Common.{ℕ, Option, subst, sym}
use Rattle.rule_laws.specs.Fences.{IsLatestFence, storing}
use Rattle.synchronization_rules.proofs.marks.HartMarks.store_fence.Goals as goal

-- the table has it
pub returns : goal.returns
returns c t h a =
    subst (λ (f : Option ℕ). IsLatestFence t h storing storing f) (sym c.fence_for.ensures) (a.fences storing storing)
