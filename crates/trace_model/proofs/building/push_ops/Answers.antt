use Rattle.std.proofs.Common.{List, Option, ◌≡◌, ◌++◌, OnOk, sym, ap, subst, ◌∙◌}
use Rattle.tandem_base.specs.declared.names.Place.{Place}
use Rattle.matching.specs.declared.stores.Tracked.{Tracked}
use Rattle.trace_model.specs.declared.retirements.KeptUse.{KeptUse}
use Rattle.trace_model.specs.Groups.{parts_of}
use Rattle.trace_model.specs.Tracers.{ops_seen, place_tracked}
use Rattle.trace_model.specs.Marks.{eight, place_in}
use Rattle.trace_model.proofs.building.push_ops.Goals as goal

pub returns-in-Stored : goal.returns-in-Stored
returns-in-Stored c image before s =
    let access = c.in-Stored.access in
    subst
    (λ (u : KeptUse). OnOk c.push_parts-in-Stored.result
    (c.push_parts-in-Stored.new.list ≡ c.args.list.now ++ ops_seen image before u)) (sym c.in-Stored.is)
    (subst
    (λ (places : List (Option Place)). OnOk c.push_parts-in-Stored.result
    (c.push_parts-in-Stored.new.list ≡ c.args.list.now ++ parts_of access (place_in places)))
    (c.places_of.ensures
    ∙ ap (λ (o : Option Tracked). eight (place_tracked o)) (c.tracked_store-tracked.ensures image before s))
    c.push_parts-in-Stored.ensures)
