use Rattle.std.proofs.lemmas.Fn.{filter_same}
use Rattle.std.proofs.Common.{rules}
use Rattle.slab.specs.Slab.{get}
use Rattle.tag_window.specs.declared.order.Arrival.{Arrival}
use Rattle.tag_window.specs.Order.{is_live}
use Rattle.tag_window.proofs.order.sweep.Goals as goal

pub returns-clause-items : goal.returns-clause-items
returns-clause-items c =
    filter_same _ (λ (a : Arrival). is_live (get c.args.links.now) a) _ (λ x b f' r. search rules) _ _
    c.retain.ensures.filtered
