use Rattle.std.proofs.Common.{ℕ, ◌==◌, ◌∙◌, not, sym, ap, subst, nat_lt, length, arith}
use Rattle.tag_window.specs.declared.order.Arrival.{Arrival}
use Rattle.tag_window.specs.Order.{live_reports}
use Rattle.tag_window.specs.Slots.{AreIn, tagged, no_read, no_bypass, place_of_read, place_of_bypass}
use Rattle.tag_window.specs.Windows.{Window, above, without}
use Rattle.tag_window.proofs.Arrivals.{filter_fewer}
use Rattle.tag_window.proofs.Slotted.{tagged_filter, are_in_filter}
use Rattle.tag_window.proofs.tags.Tags.retire.Goals as goal

pub returns-clause-reads : goal.returns-clause-reads
returns-clause-reads c =
    let t = c.self.inside in
    ap (tagged no_read t.read_items.items) c.drop_to.ensures.live
    ∙ sym (tagged_filter place_of_read no_read (λ (n : ℕ). nat_lt c.args.tag n) t.read_items.items
    (live_reports t.reads))
    ∙ ap (λ (w : Window). above c.args.tag w.reads) c.self.view_is

pub returns-clause-bypasses : goal.returns-clause-bypasses
returns-clause-bypasses c =
    let t = c.self.inside in
    ap (tagged no_bypass t.bypass_items.items) c.drop_tag.ensures.live
    ∙ sym (tagged_filter place_of_bypass no_bypass (λ (n : ℕ). not (n == c.args.tag)) t.bypass_items.items
    (live_reports t.bypasses))
    ∙ ap (λ (w : Window). without c.args.tag w.bypasses) c.self.view_is

pub invariant_of-self : goal.invariant_of-self
invariant_of-self c =
    let t = c.self.inside in
    let v = c.self.invariant in
    let e = c.drop_to.ensures in
    let f = c.drop_tag.ensures in (
      e.sound,
      f.sound,
      subst (AreIn place_of_read no_read t.read_items.items) (sym e.live) (are_in_filter place_of_read no_read
          (λ (a : Arrival). nat_lt c.args.tag a.tag) t.read_items.items (live_reports t.reads) v.2),
      subst (AreIn place_of_bypass no_bypass t.bypass_items.items) (sym f.live) (are_in_filter place_of_bypass no_bypass
          (λ (a : Arrival). not (a.tag == c.args.tag)) t.bypass_items.items (live_reports t.bypasses) v.3),
      e.capacity ∙ v.4,
      f.capacity ∙ v.5,
      omega (arith, e.links, v.6),
      omega (arith, f.links, v.7),
      omega (
        arith,
        ap length e.live,
        filter_fewer (λ (a : Arrival). nat_lt c.args.tag a.tag) (live_reports t.reads),
        ap length f.live,
        filter_fewer (λ (a : Arrival). not (a.tag == c.args.tag)) (live_reports t.bypasses),
        v.8,
      ),
    )
