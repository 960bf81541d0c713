use Rattle.std.proofs.Common.{ℕ, ◌∙◌, sym, ap, subst, nat_lt, length, arith}
use Rattle.tag_window.specs.declared.order.Arrival.{Arrival}
use Rattle.tag_window.specs.Order.{live_reports}
use Rattle.tag_window.specs.Slots.{AreIn, tagged, no_read, place_of_read}
use Rattle.tag_window.specs.Windows.{Window, below}
use Rattle.tag_window.proofs.Arrivals.{filter_fewer}
use Rattle.tag_window.proofs.Slotted.{tagged_filter, are_in_filter}
use Rattle.tag_window.proofs.tags.Tags.squash.Goals as goal

pub returns-clause-reads : goal.returns-clause-reads
returns-clause-reads c =
    let t = c.self.inside in
    ap (tagged no_read t.read_items.items) c.drop_from.ensures.live
    ∙ sym (tagged_filter place_of_read no_read (λ (n : ℕ). nat_lt n c.args.from) t.read_items.items
    (live_reports t.reads))
    ∙ ap (λ (w : Window). below c.args.from w.reads) c.self.view_is

pub invariant_of-self : goal.invariant_of-self
invariant_of-self c =
    let t = c.self.inside in
    let v = c.self.invariant in
    let e = c.drop_from.ensures in (
      e.sound,
      v.1,
      subst (AreIn place_of_read no_read t.read_items.items) (sym e.live) (are_in_filter place_of_read no_read
          (λ (a : Arrival). nat_lt a.tag c.args.from) t.read_items.items (live_reports t.reads) v.2),
      v.3,
      e.capacity ∙ v.4,
      v.5,
      omega (arith, e.links, v.6),
      v.7,
      omega (
        arith,
        ap length e.live,
        filter_fewer (λ (a : Arrival). nat_lt a.tag c.args.from)
            (live_reports t.reads),
        v.8,
      ),
    )
