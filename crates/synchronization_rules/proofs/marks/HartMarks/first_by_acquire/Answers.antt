use Rattle.std.proofs.Common.{Option, subst, sym}
use Rattle.tandem_base.specs.declared.names.OpName.{OpName}
use Rattle.rvwmo_model.specs.declared.preserved.Rule.TheVariants.{R5}
use Rattle.rule_laws.specs.Named.{NamesFirst}
use Rattle.synchronization_rules.proofs.Answered.{by_acquire}
use Rattle.synchronization_rules.proofs.marks.HartMarks.first_by_acquire.Goals as goal

-- the answer is what the rule asks
pub returns : goal.returns
returns c t t' r b a =
    subst (λ (n : Option OpName). NamesFirst R5 t' b n) (sym c.name_by_acquire.ensures)
    (by_acquire t t' r b c.args.self.now c.args.op.now a)
