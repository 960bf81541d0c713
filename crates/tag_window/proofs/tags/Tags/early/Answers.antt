use Rattle.std.proofs.Common.{ℕ, ◌≡◌, ◌≢◌, ◌==◌, ◌+◌, ◌∷◌, ◌∙◌, refl, sym, ap, subst, length, arith}
use Rattle.std.proofs.lemmas.Bool.{both_ways, eq-eqb}
use Rattle.tag_window.specs.Order.{live_reports}
use Rattle.tag_window.specs.Slots.{tagged, no_read, no_bypass, place_of_read, place_of_bypass}
use Rattle.tag_window.specs.Windows.{Window, AllEarlier, places_of_bypasses, live_count}
use Rattle.tag_window.proofs.Slotted.{tagged_more, are_in_more, tagged_length}
use Rattle.tag_window.proofs.Held.{bypass_places_are, before_places}
use Rattle.tag_window.proofs.tags.Tags.early.Goals as goal

pub add-slot-requires-clause-later : goal.add-slot-requires-clause-later
add-slot-requires-clause-later c =
    let t = c.self.inside in
    let later : AllEarlier c.args.seen.now.seen.place
    (places_of_bypasses (tagged no_bypass t.bypass_items.items (live_reports t.bypasses))) =
    subst (λ (w : Window). AllEarlier c.args.seen.now.seen.place (places_of_bypasses w.bypasses)) (sym c.self.view_is)
    c.requires.later in
    before_places c.args.seen.now.seen.place (live_reports t.bypasses)
    (subst (AllEarlier c.args.seen.now.seen.place)
    (bypass_places_are t.bypass_items.items (live_reports t.bypasses) c.self.invariant.3) later)

pub returns-clause-bypasses : goal.returns-clause-bypasses
returns-clause-bypasses c =
    let t = c.self.inside in
    let m = c.add-slot.ensures in
    let p = c.put_at.ensures in
    ap (tagged no_bypass c.put_at.new.items.items) m.live
    ∙ tagged_more place_of_bypass no_bypass t.bypass_items.items c.put_at.new.items.items c.add-slot.result
    (record { piece = c.args.piece.now; seen = c.args.seen.now }) (p.there no_bypass)
    (λ k d l. p.others k no_bypass d l)
    p.grows p.slot c.args.tag c.args.seen.now.seen.place (live_reports t.bypasses) m.free c.self.invariant.3
    ∙ ap (λ (w : Window). record
    { tag = c.args.tag; item = record { piece = c.args.piece.now; seen = c.args.seen.now } }
    ∷ w.bypasses) c.self.view_is

pub invariant_of-self : goal.invariant_of-self
invariant_of-self c =
    let t = c.self.inside in
    let v = c.self.invariant in
    let m = c.add-slot.ensures in
    let p = c.put_at.ensures in
    let count : live_count c.args.self.now ≡ length (live_reports t.reads) + length (live_reports t.bypasses) =
    ap live_count (sym c.self.view_is)
    ∙ ap (λ (n : ℕ). n + length (tagged no_bypass t.bypass_items.items (live_reports t.bypasses)))
    (tagged_length place_of_read no_read t.read_items.items (live_reports t.reads))
    ∙ ap (λ (n : ℕ). length (live_reports t.reads) + n)
    (tagged_length place_of_bypass no_bypass t.bypass_items.items (live_reports t.bypasses)) in
    let capacity : c.args.self.now.capacity ≡ t.capacity = ap (λ (w : Window). w.capacity) (sym c.self.view_is) in
    let full : length (live_reports t.reads) + length (live_reports t.bypasses) ≢ t.capacity = λ e. (
    both_ways (live_count c.args.self.now == c.args.self.now.capacity) (sym c.is_full.ensures ∙ c.if-is_full.false)
    (eq-eqb (live_count c.args.self.now) c.args.self.now.capacity (count ∙ e ∙ sym capacity))) in (
      v.0,
      m.sound,
      v.2,
      rw m.live (are_in_more place_of_bypass no_bypass t.bypass_items.items c.put_at.new.items.items c.add-slot.result
          (record { piece = c.args.piece.now; seen = c.args.seen.now }) (p.there no_bypass)
          (λ k d l. p.others k no_bypass d l)
          p.grows p.slot c.args.tag c.args.seen.now.seen.place (live_reports t.bypasses) m.free v.3 refl),
      v.4,
      m.capacity ∙ v.5,
      v.6,
      omega (arith, m.links, p.capacity, v.7),
      omega (arith, ap length m.live, full, v.8),
    )
