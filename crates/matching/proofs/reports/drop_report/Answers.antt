use Rattle.std.proofs.Common.{rules, not, ap, reverse, ◌∙◌}
use Rattle.std.proofs.lemmas.Fn.{filter_same}
use Rattle.matching.specs.declared.reports.OpenReport.{OpenReport}
use Rattle.matching.specs.Reports.{is_report}
use Rattle.matching.proofs.Reversed.{filter-reverse}
use Rattle.matching.proofs.reports.drop_report.Goals as goal

pub returns-then-not-is_empty : goal.returns-then-not-is_empty
returns-then-not-is_empty c =
    ap reverse (filter_same _ (λ (r : OpenReport). not (is_report c.args.hart c.args.tag r)) _
    (λ x b f r. search rules) _ _ c.retain.ensures.filtered)
    ∙ filter-reverse (λ (r : OpenReport). not (is_report c.args.hart c.args.tag r)) c.args.early.now.items
