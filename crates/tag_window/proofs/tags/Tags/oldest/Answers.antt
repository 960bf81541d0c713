use Rattle.std.proofs.Common.{◌++◌, map, sym, subst, List, Option}
use Rattle.tandem_base.specs.declared.names.Position.{Position}
use Rattle.tag_window.specs.declared.order.Arrival.{Arrival}
use Rattle.tag_window.specs.Order.{live_reports}
use Rattle.tag_window.specs.Slots.{tagged, no_read, no_bypass, earlier_position}
use Rattle.tag_window.specs.Windows.{Window, IsOldestOf, IsEarliest, places_of_reads, places_of_bypasses}
use Rattle.tag_window.proofs.Held.{earliest_of, read_places_are, bypass_places_are}
use Rattle.tag_window.proofs.tags.Tags.oldest.Goals as goal

pub returns : goal.returns
returns c =
    let t = c.self.inside in
    let v = c.self.invariant in
    let one = earliest_of c.oldest.result c.oldest-2.result (live_reports t.reads)
    (live_reports t.bypasses) c.oldest.ensures
    c.oldest-2.ensures in
    let two = subst
    (λ (ps : List Position). IsEarliest (map (λ (a : Arrival). a.place) (live_reports t.reads) ++ ps)
    (earlier_position c.oldest.result c.oldest-2.result))
    (sym (bypass_places_are t.bypass_items.items (live_reports t.bypasses) v.3)) one in
    let three = subst
    (λ (ps : List Position). IsEarliest
    (ps ++ places_of_bypasses (tagged no_bypass t.bypass_items.items (live_reports t.bypasses)))
    (earlier_position c.oldest.result c.oldest-2.result))
    (sym (read_places_are t.read_items.items (live_reports t.reads) v.2)) two in
    subst (λ (w : Window). IsOldestOf w c.earlier.result) c.self.view_is
    (subst (λ (o : Option Position). IsEarliest (places_of_reads (tagged no_read t.read_items.items
    (live_reports t.reads))
    ++ places_of_bypasses (tagged no_bypass t.bypass_items.items (live_reports t.bypasses))) o)
    (sym c.earlier.ensures) three)
