use Rattle.std.proofs.Common.{rules, not, ap, reverse, ◌∙◌}
use Rattle.std.proofs.lemmas.Fn.{filter_same}
use Rattle.matching.specs.declared.stores.Held.{Held}
use Rattle.matching.specs.Tables.{is_in}
use Rattle.matching.proofs.Reversed.{filter-reverse}
use Rattle.matching.proofs.stores.drop_line.Goals as goal

pub returns : goal.returns
returns c =
    ap reverse (filter_same _ (λ (e : Held). not (is_in c.args.line e)) _ (λ x b f r. search rules) _ _
    c.retain.ensures.filtered)
    ∙ filter-reverse (λ (e : Held). not (is_in c.args.line e)) c.args.inserts.now.items
