use Rattle.std.proofs.Common.{Option, subst, sym, ap, ◌∙◌}
use Rattle.tandem_base.specs.declared.names.OpName.{OpName}
use Rattle.rv_decode.specs.declared.instruction.Insn.{Insn}
use Rattle.rvwmo_model.specs.declared.preserved.Rule.TheVariants.{R8}
use Rattle.rule_laws.specs.Named.{NamesFirst}
use Rattle.synchronization_rules.specs.Marks.{name_by_pair}
use Rattle.synchronization_rules.proofs.Answered.{by_pair}
use Rattle.synchronization_rules.proofs.marks.HartMarks.first_by_pair.Goals as goal

-- the answer is what the rule asks
pub returns : goal.returns
returns c t t' r b a e =
    subst (λ (n : Option OpName). NamesFirst R8 t' b n)
    (sym (c.name_by_pair.ensures ∙ ap (λ (i : Insn). name_by_pair i c.args.op.now c.args.self.now) (sym e)))
    (by_pair t t' r b c.args.self.now c.args.op.now a)
