use Rattle.std.proofs.Common.{◌≡◌, Option, sym, subst}
use Rattle.rv_decode.specs.Registers.{is_control}
use Rattle.tandem_base.specs.declared.mark.Mark.{Mark}
use Rattle.dep_tracker.specs.Marks.{UsedBy, IsLatestMark}
use Rattle.dep_tracker.specs.Tables.{later_mark, x_mark}
use Rattle.dep_tracker.proofs.Insns.{control_no_csr}
use Rattle.dep_tracker.proofs.Standing.{used_two}
use Rattle.dep_tracker.proofs.deps.Deps.branch.Goals as goal

pub returns : goal.returns
returns c = λ ws st.
    let t = c.args.self.now in
    let source = c.control_sources-sources.result in
    let is : c.later.result ≡ later_mark (x_mark t source.0) (x_mark t source.1) = cc in
    subst (λ (o : Option Mark). IsLatestMark (UsedBy is_control c.args.insn.now ws) o) (sym is)
    (used_two t ws is_control c.args.insn.now source.0 source.1 (control_no_csr c.args.insn.now)
    c.control_sources-sources.ensures st)
