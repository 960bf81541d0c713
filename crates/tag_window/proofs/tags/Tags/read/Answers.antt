use Rattle.std.proofs.Common.{ℕ, ◌≡◌, ◌≢◌, ◌==◌, ◌+◌, ◌∷◌, ◌∙◌, refl, sym, ap, subst, length, arith}
use Rattle.std.proofs.lemmas.Bool.{both_ways, eq-eqb}
use Rattle.tag_window.specs.Order.{live_reports}
use Rattle.tag_window.specs.Slots.{tagged, no_read, no_bypass, place_of_read, place_of_bypass}
use Rattle.tag_window.specs.Windows.{Window, AllEarlier, places_of_reads, live_count}
use Rattle.tag_window.proofs.Slotted.{tagged_more, are_in_more, tagged_length}
use Rattle.tag_window.proofs.Held.{read_places_are, before_places}
use Rattle.tag_window.proofs.tags.Tags.read.Goals as goal

pub add-slot-requires-clause-later : goal.add-slot-requires-clause-later
add-slot-requires-clause-later c =
    let t = c.self.inside in
    let later : AllEarlier c.args.seen.now.place (places_of_reads (tagged no_read t.read_items.items
    (live_reports t.reads))) =
    subst (λ (w : Window). AllEarlier c.args.seen.now.place (places_of_reads w.reads)) (sym c.self.view_is)
    c.requires.later in
    before_places c.args.seen.now.place (live_reports t.reads)
    (subst (AllEarlier c.args.seen.now.place) (read_places_are t.read_items.items
    (live_reports t.reads) c.self.invariant.2)
    later)

pub returns-clause-reads : goal.returns-clause-reads
returns-clause-reads c =
    let t = c.self.inside in
    let m = c.add-slot.ensures in
    let p = c.put_at.ensures in
    ap (tagged no_read c.put_at.new.items.items) m.live
    ∙ tagged_more place_of_read no_read t.read_items.items c.put_at.new.items.items c.add-slot.result
    (record { piece = c.args.piece.now; seen = c.args.seen.now }) (p.there no_read) (λ k d l. p.others k no_read d l)
    p.grows p.slot c.args.tag c.args.seen.now.place (live_reports t.reads) m.free c.self.invariant.2
    ∙ ap (λ (w : Window). record
    { tag = c.args.tag; item = record { piece = c.args.piece.now; seen = c.args.seen.now } }
    ∷ w.reads) c.self.view_is

pub invariant_of-self : goal.invariant_of-self
invariant_of-self c =
    let t = c.self.inside in
    let v = c.self.invariant in
    let m = c.add-slot.ensures in
    let p = c.put_at.ensures in
    let count : live_count c.args.self.now ≡ length (live_reports t.reads) + length (live_reports t.bypasses) =
    ap live_count (sym c.self.view_is)
    ∙ ap (λ (n : ℕ). n + length (tagged no_bypass t.bypass_items.items (live_reports t.bypasses)))
    (tagged_length place_of_read no_read t.read_items.items (live_reports t.reads))
    ∙ ap (λ (n : ℕ). length (live_reports t.reads) + n)
    (tagged_length place_of_bypass no_bypass t.bypass_items.items (live_reports t.bypasses)) in
    let capacity : c.args.self.now.capacity ≡ t.capacity = ap (λ (w : Window). w.capacity) (sym c.self.view_is) in
    let full : length (live_reports t.reads) + length (live_reports t.bypasses) ≢ t.capacity = λ e. (
    both_ways (live_count c.args.self.now == c.args.self.now.capacity) (sym c.is_full.ensures ∙ c.if-is_full.false)
    (eq-eqb (live_count c.args.self.now) c.args.self.now.capacity (count ∙ e ∙ sym capacity))) in (
      m.sound,
      v.1,
      rw m.live (are_in_more place_of_read no_read t.read_items.items c.put_at.new.items.items c.add-slot.result
          (record { piece = c.args.piece.now; seen = c.args.seen.now }) (p.there no_read)
          (λ k d l. p.others k no_read d l)
          p.grows p.slot c.args.tag c.args.seen.now.place (live_reports t.reads) m.free v.2 refl),
      v.3,
      m.capacity ∙ v.4,
      v.5,
      omega (arith, m.links, p.capacity, v.6),
      v.7,
      omega (arith, ap length m.live, full, v.8),
    )
