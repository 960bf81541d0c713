use Rattle.std.proofs.Common.{rules, ◌≡◌, ◌∙◌, sym, ap, slice_index_or, None, Some}
use Rattle.std.specs.declared.option.Option.{Option}
use Rattle.tandem_base.specs.FirstFault.{◌or_else◌, passed}
use Rattle.verdict_report.specs.declared.fault.Fault.{Fault}
use Rattle.matching.specs.declared.hart_table.HartTable.{HartTable}
use Rattle.matching.specs.EndFaults.{unwritten_below, unwritten_fault_of}
use Rattle.matching.specs.Tables.{Table, table_of, left_fault}
use Rattle.matching.proofs.CsrLaws.{passed_ok, passed_err}
use Rattle.matching.proofs.Same.{below_more, left_fault_same}
use Rattle.matching.proofs.tables.Matching.check_store.Goals as goal

pub returns-in-Ok : goal.returns-in-Ok
returns-in-Ok c image before s e =
    let h = c.args.hart in
    let none : unwritten_below image before h ≡ None =
    passed_ok (unwritten_below image before h) _ (sym e ∙ c.in-Ok.is) in
    let d : c.index.result.now ≡ slice_index_or c.args.self.now.harts.items h c.index.result.now = search rules in
    c.check_written.ensures
    ∙ ap (λ (t : HartTable). passed (left_fault h (table_of t))) d
    ∙ ap (λ (t : Table). passed (left_fault h t)) (s.each h c.index.result.now c.requires)
    ∙ ap (λ (f : Option Fault). passed f) (left_fault_same image before h)
    ∙ ap (λ (f : Option Fault). passed (f or_else unwritten_fault_of image before h)) (sym none)
    ∙ ap (λ (f : Option Fault). passed f) (sym (below_more image before h))

pub returns-in-Err : goal.returns-in-Err
returns-in-Err c image before s e =
    let h = c.args.hart in
    let some : unwritten_below image before h ≡ Some c.in-Err.fault =
    passed_err (unwritten_below image before h) c.in-Err.fault (sym e ∙ c.in-Err.is) in
    ap (λ (f : Option Fault). passed (f or_else unwritten_fault_of image before h)) (sym some)
    ∙ ap (λ (f : Option Fault). passed f) (sym (below_more image before h))
