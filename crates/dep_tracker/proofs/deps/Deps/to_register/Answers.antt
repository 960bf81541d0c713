use Rattle.std.proofs.Common.{◌≡◌, Option, sym, subst}
use Rattle.rv_decode.specs.declared.registers.Register.TheVariants.{X}
use Rattle.tandem_base.specs.declared.mark.Mark.{Mark}
use Rattle.dep_tracker.specs.Marks.{CarriedTo, IsLatestMark}
use Rattle.dep_tracker.specs.Tables.{later_mark, mark_of}
use Rattle.dep_tracker.proofs.Standing.{carried_x}
use Rattle.dep_tracker.proofs.deps.Deps.to_register.Goals as goal

pub returns : goal.returns
returns c = λ ws st n set_it.
    let t = c.args.self.now in
    let source = c.carried_to_register-sources.result in
    let is : c.later.result ≡ later_mark (mark_of t source.0) (mark_of t source.1) = cc in
    subst (λ (o : Option Mark). IsLatestMark (CarriedTo c.args.insn.now ws (X n)) o) (sym is)
    (carried_x t ws c.args.insn.now source.0 source.1 c.carried_to_register-sources.ensures st n set_it)
