use Rattle.std.proofs.Common.{Option, subst, sym}
use Rattle.tandem_base.specs.declared.names.OpName.{OpName}
use Rattle.rvwmo_model.specs.declared.preserved.Rule.TheVariants.{R7}
use Rattle.rule_laws.specs.Named.{NamesFirst}
use Rattle.synchronization_rules.proofs.Answered.{by_rcsc}
use Rattle.synchronization_rules.proofs.marks.HartMarks.first_by_rcsc.Goals as goal

-- the answer is what the rule asks
pub returns : goal.returns
returns c t t' r b a =
    subst (λ (n : Option OpName). NamesFirst R7 t' b n) (sym c.name_by_rcsc.ensures)
    (by_rcsc t t' r b c.args.self.now c.args.op.now a)
