use Rattle.std.proofs.Common.{rules, ◌≡◌, ◌∙◌, List, ap, subst, slice_index_or, reverse}
use Rattle.std.specs.declared.option.Option.{Option}
use Rattle.elf_image.specs.Images.{loaded_of}
use Rattle.verdict_report.specs.declared.fault.Fault.{Fault}
use Rattle.matching.specs.Checks.{Checks}
use Rattle.matching.specs.declared.hart_table.HartTable.{HartTable}
use Rattle.matching.specs.declared.reports.OpenReport.{OpenReport}
use Rattle.matching.specs.Tables.{table_of, table_fault, IsTableStep}
use Rattle.matching.proofs.Stepped.{step_stands}
use Rattle.matching.proofs.Standing.{fault_stands}
use Rattle.matching.proofs.Results.{on_ok}
use Rattle.matching.proofs.tables.Matching.check_hart.Goals as goal

pub returns-clause-fault : goal.returns-clause-fault
returns-clause-fault c before s no_end =
    let image = loaded_of c.args.image.now in
    let old = c.args.self.now in
    let m = c.args.message.now in
    let e : c.index.result.now ≡ slice_index_or old.harts.items m.head.hart c.index.result.now = search rules in
    subst (λ (f : Option Fault). Checks f c.check.result c.check.new.found)
    (ap (λ (r : List OpenReport). table_fault image old.config (reverse r) (table_of c.index.result.now) m.head m.body)
    c.deref.ensures.value
    ∙ ap (λ (t : HartTable). table_fault image old.config (reverse old.early.items) (table_of t) m.head m.body) e
    ∙ fault_stands image old before m.head m.body c.index.result.now s c.requires.known no_end)
    c.check.ensures.fault

pub returns-clause-step : goal.returns-clause-step
returns-clause-step c before s =
    let image = loaded_of c.args.image.now in
    let old = c.args.self.now in
    let m = c.args.message.now in
    let e : c.index.result.now ≡ slice_index_or old.harts.items m.head.hart c.index.result.now = search rules in
    on_ok c.check.result c.check.ensures.step
    (λ k. step_stands image old before m.head m.body c.index.result.now c.check.new.step s c.requires.known
    (subst (λ (t : HartTable). IsTableStep image old.config (reverse old.early.items) (table_of t) m.head m.body
    c.check.new.step) e
    (subst (λ (r : List OpenReport). IsTableStep image old.config (reverse r) (table_of c.index.result.now) m.head
    m.body c.check.new.step) c.deref.ensures.value k)))
