use Rattle.std.proofs.Common.{Option, sym, subst}
use Rattle.rv_decode.specs.Registers.{is_data}
use Rattle.tandem_base.specs.declared.mark.Mark.{Mark}
use Rattle.dep_tracker.specs.Marks.{UsedBy, IsLatestMark}
use Rattle.dep_tracker.proofs.Insns.{data_no_csr}
use Rattle.dep_tracker.proofs.Standing.{used_one}
use Rattle.dep_tracker.proofs.deps.Deps.value.Goals as goal

pub returns : goal.returns
returns c = λ ws st. subst (λ (o : Option Mark). IsLatestMark (UsedBy is_data c.args.insn.now ws) o)
    (sym c.of_number.ensures)
    (used_one c.args.self.now ws is_data c.args.insn.now c.data_source.result (data_no_csr c.args.insn.now)
    c.data_source.ensures st)
