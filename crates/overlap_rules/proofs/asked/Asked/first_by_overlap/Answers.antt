-- What waits over the bytes, else the latest over them, is the first operation by rule 1.
use Rattle.std.proofs.Common.{Option, option_map, sym, ap, subst, ◌∙◌}
use Rattle.tandem_base.specs.declared.mark.Mark.{Mark}
use Rattle.tandem_base.specs.declared.names.OpName.{OpName}
use Rattle.rvwmo_model.specs.declared.preserved.Rule.TheVariants.{R1}
use Rattle.rule_laws.specs.Named.{NamesFirst}
use Rattle.overlap_rules.proofs.asked.Asked.first_by_overlap.Goals as goal
use Rattle.overlap_rules.proofs.ByOverlap.{names_found, names_else}

pub returns-in-Some : goal.returns-in-Some
returns-in-Some c = λ initial t t' b a legal. (let s = c.args.self.now in
    names_found t t' b s.fresh.now s.stores.now s.kept.now a c.in-Some.name
    (sym c.does_store.ensures ∙ c.if-not-does_store.false) c.in-Some.ensures)

pub returns-in-None : goal.returns-in-None
returns-in-None c = λ initial t t' b a legal. (let s = c.args.self.now in
    subst (λ (o : Option OpName). NamesFirst R1 t' b o)
    (sym (c.name_of.ensures ∙ ap (λ (m : Option Mark). option_map (λ x. x.name) m) c.latest.ensures))
    (names_else t t' b s.fresh.now s.stores.now s.kept.now a initial legal c.in-None.ensures s.sources.now))
