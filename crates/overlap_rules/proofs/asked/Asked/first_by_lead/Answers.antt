-- The latest over the bytes is the first operation by rule 12.
use Rattle.std.proofs.Common.{Option, option_map, sym, ap, subst, ◌∙◌}
use Rattle.tandem_base.specs.declared.mark.Mark.{Mark}
use Rattle.tandem_base.specs.declared.names.OpName.{OpName}
use Rattle.rvwmo_model.specs.declared.preserved.Rule.TheVariants.{R12}
use Rattle.rule_laws.specs.Named.{NamesFirst}
use Rattle.overlap_rules.proofs.asked.Asked.first_by_lead.Goals as goal
use Rattle.overlap_rules.proofs.ByLead.{names_lead}

pub returns : goal.returns
returns c = λ initial t t' b a told legal. (let s = c.args.self.now in
    subst (λ (o : Option OpName). NamesFirst R12 t' b o)
    (sym (c.name_of.ensures ∙ ap (λ (m : Option Mark). option_map (λ x. x.name) m) c.latest.ensures))
    (names_lead t t' b s.fresh.now s.stores.now s.kept.now a initial s.sources.now told legal))
