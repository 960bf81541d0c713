use Rattle.std.proofs.Common.{Option, ap, ◌∙◌, subst, sym}
use Rattle.tandem_base.specs.declared.names.OpName.{OpName}
use Rattle.rvwmo_model.specs.declared.preserved.Rule.TheVariants.{R11}
use Rattle.rule_laws.specs.Named.{NamesFirst}
use Rattle.dependency_rules.specs.Asked.{where_it_stores}
use Rattle.dependency_rules.proofs.Answered.{by_control}
use Rattle.dependency_rules.proofs.dependent.first_by_control.Goals as goal

-- the name of the mark is what the rule asks, for a store
pub returns : goal.returns
returns c t t' r b a e =
    subst (λ (z : Option OpName). NamesFirst R11 t' b z)
    (sym (c.for_store.ensures
    ∙ ap (λ (z : Option OpName). where_it_stores c.args.kind z) c.name_after.ensures))
    (by_control t t' r b c.args.deps.now c.args.place a c.args.kind e c.control.result c.control.ensures)
