use Rattle.std.proofs.Common.{Option, subst, sym}
use Rattle.tandem_base.specs.declared.names.OpName.{OpName}
use Rattle.rvwmo_model.specs.declared.preserved.Rule.TheVariants.{R4}
use Rattle.rule_laws.specs.Named.{NamesFirst}
use Rattle.synchronization_rules.proofs.Answered.{by_fence}
use Rattle.synchronization_rules.proofs.marks.HartMarks.first_by_fence.Goals as goal

-- the answer is what the rule asks
pub returns : goal.returns
returns c t t' r b a w =
    subst (λ (n : Option OpName). NamesFirst R4 t' b n) (sym c.name_by_fence.ensures)
    (by_fence t t' r b c.args.self.now c.args.op.now a c.args.stores.now w)
