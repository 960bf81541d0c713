use Rattle.std.proofs.Common.{Option, subst, sym}
use Rattle.tandem_base.specs.declared.names.OpName.{OpName}
use Rattle.rvwmo_model.specs.declared.preserved.Rule.TheVariants.{R10}
use Rattle.rule_laws.specs.Named.{NamesFirst}
use Rattle.dependency_rules.proofs.Answered.{by_data}
use Rattle.dependency_rules.proofs.dependent.first_by_data.Goals as goal

-- the name of the mark is what the rule asks
pub returns : goal.returns
returns c t t' r b a e =
    subst (λ (z : Option OpName). NamesFirst R10 t' b z) (sym c.name_after.ensures)
    (by_data t t' r b c.args.deps.now c.args.place a c.args.insn.now e c.value.result c.value.ensures)
