use Rattle.std.proofs.Common.{◌∙◌, sym, subst}
use Rattle.std.specs.declared.option.Option.{Option}
use Rattle.verdict_report.specs.declared.fault.Fault.{Fault}
use Rattle.matching.specs.Checks.{Checks}
use Rattle.matching.proofs.CsrLaws.{passed_err}
use Rattle.matching.proofs.tables.Matching.check_last.Goals as goal

pub returns-in-Err-clause-fault : goal.returns-in-Err-clause-fault
returns-in-Err-clause-fault c image before s =
    subst (λ (f : Option Fault). Checks f c.refuse.result c.refuse.new.found)
    (sym (passed_err _ c.in-Err.fault (sym (c.check_end.ensures image before s) ∙ c.in-Err.is)))
    c.refuse.ensures
