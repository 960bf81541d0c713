use Rattle.std.proofs.Common.{rules, nat_lt, ap, reverse, ◌∙◌}
use Rattle.std.proofs.lemmas.Fn.{filter_same}
use Rattle.matching.specs.declared.reports.OpenReport.{OpenReport}
use Rattle.matching.proofs.Reversed.{filter-reverse}
use Rattle.matching.proofs.reports.keep_above.Goals as goal

pub returns-then-not-is_empty : goal.returns-then-not-is_empty
returns-then-not-is_empty c =
    ap reverse (filter_same _ (λ (r : OpenReport). nat_lt c.args.tag r.tag) _ (λ x b f r. search rules) _ _
    c.retain.ensures.filtered)
    ∙ filter-reverse (λ (r : OpenReport). nat_lt c.args.tag r.tag) c.args.live.now.items
