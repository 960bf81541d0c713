use Rattle.std.proofs.Common.{Option, sym, subst}
use Rattle.rv_decode.specs.declared.registers.Register.TheVariants.{Csr}
use Rattle.tandem_base.specs.declared.mark.Mark.{Mark}
use Rattle.dep_tracker.specs.Marks.{CarriedTo, IsLatestMark}
use Rattle.dep_tracker.proofs.Standing.{carried_csr}
use Rattle.dep_tracker.proofs.deps.Deps.to_csr.Goals as goal

pub returns : goal.returns
returns c = λ ws st n set_it.
    subst (λ (o : Option Mark). IsLatestMark (CarriedTo c.args.insn.now ws (Csr n)) o) (sym c.of_number.ensures)
    (carried_csr c.args.self.now ws c.args.insn.now c.carried_to_csr.result c.carried_to_csr.ensures st n set_it)
