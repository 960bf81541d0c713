use Rattle.std.proofs.Common.{ℕ, ◌≡◌, ◌∷◌, ◌∙◌, sym, subst, ap, length, List, Option, Some, arith}
use Rattle.slab.specs.Slab.{get}
use Rattle.tag_window.specs.declared.order.Arrival.{Arrival}
use Rattle.tag_window.specs.Order.{AllBefore, AllElsewhere, AreKept, StartsLive, EndsLive, live_reports, live_of}
use Rattle.tag_window.proofs.Chains.{added_live, added_kept, added_starts, added_ends, added_elsewhere, heads_room}
use Rattle.tag_window.proofs.order.TagOrder.add.Goals as goal

pub put-older-requires-clause-room : goal.put-older-requires-clause-room
put-older-requires-clause-room c =
    let o = c.make_room.new.self in
    let m = c.make_room.ensures in
    omega (
      arith,
      heads_room o.links o.arrivals.items o.newest.items m.sound.kept,
      ap length m.live,
      c.requires.room,
      m.sound.newest_room,
      m.capacity,
    )

pub returns-clause-live : goal.returns-clause-live
returns-clause-live c =
    let o = c.make_room.new.self in
    let m = c.make_room.ensures in
    let i = c.insert_reserved in
    let slot = c.vacant_key-slot.result in
    let same : c.insert_reserved.result ≡ c.vacant_key-slot.result = i.ensures.key
    ∙ sym c.vacant_key-slot.ensures.value in
    let there = subst (λ (q : Option ℕ). get i.new.self slot ≡ Some (record { place = c.args.place; older = q }))
    c.put-older.ensures.was (subst
    (λ (k : ℕ). get i.new.self k ≡ Some (record { place = c.args.place; older = c.put-older.result })) same
    i.ensures.updates.changed) in
    let later : AllBefore c.args.place (live_reports c.make_room.new.self) =
    subst (AllBefore c.args.place) (sym m.live) c.requires.later in
    ap (live_of (get i.new.self)) c.push_front_reserved.ensures.items
    ∙ added_live o.links i.new.self o.arrivals.items o.newest.items c.put-older.new.newest.items c.args.tag slot
    c.args.place m.sound.kept m.sound.starts later c.vacant_key-slot.ensures.vacant there
    (λ k d. i.ensures.updates.others k (λ e. d (e ∙ same))) i.ensures.len c.put-older.ensures.rises
    c.put-older.ensures.slots
    ∙ ap (λ (cs : List Arrival). record { tag = c.args.tag; slot = slot; place = c.args.place } ∷ cs) m.live

pub returns-clause-free : goal.returns-clause-free
returns-clause-free c =
    let o = c.make_room.new.self in
    let m = c.make_room.ensures in
    let i = c.insert_reserved in
    let slot = c.vacant_key-slot.result in
    let same : c.insert_reserved.result ≡ c.vacant_key-slot.result = i.ensures.key
    ∙ sym c.vacant_key-slot.ensures.value in
    let there = subst (λ (q : Option ℕ). get i.new.self slot ≡ Some (record { place = c.args.place; older = q }))
    c.put-older.ensures.was (subst
    (λ (k : ℕ). get i.new.self k ≡ Some (record { place = c.args.place; older = c.put-older.result })) same
    i.ensures.updates.changed) in
    let later : AllBefore c.args.place (live_reports c.make_room.new.self) =
    subst (AllBefore c.args.place) (sym m.live) c.requires.later in
    subst (AllElsewhere slot) m.live
    (added_elsewhere o.links i.new.self o.arrivals.items o.newest.items c.put-older.new.newest.items c.args.tag slot
    c.args.place m.sound.kept m.sound.starts later c.vacant_key-slot.ensures.vacant there
    (λ k d. i.ensures.updates.others k (λ e. d (e ∙ same))) i.ensures.len c.put-older.ensures.rises
    c.put-older.ensures.slots)

pub returns-clause-sound : goal.returns-clause-sound
returns-clause-sound c =
    let o = c.make_room.new.self in
    let m = c.make_room.ensures in
    let i = c.insert_reserved in
    let slot = c.vacant_key-slot.result in
    let same : c.insert_reserved.result ≡ c.vacant_key-slot.result = i.ensures.key
    ∙ sym c.vacant_key-slot.ensures.value in
    let there = subst (λ (q : Option ℕ). get i.new.self slot ≡ Some (record { place = c.args.place; older = q }))
    c.put-older.ensures.was (subst
    (λ (k : ℕ). get i.new.self k ≡ Some (record { place = c.args.place; older = c.put-older.result })) same
    i.ensures.updates.changed) in
    let later : AllBefore c.args.place (live_reports c.make_room.new.self) =
    subst (AllBefore c.args.place) (sym m.live) c.requires.later in
    let p = c.push_front_reserved.ensures in
    record {
      kept = subst (λ (cs : List Arrival). AreKept i.new.self cs c.put-older.new.newest.items) (sym p.items)
          (added_kept o.links i.new.self o.arrivals.items o.newest.items c.put-older.new.newest.items c.args.tag slot
          c.args.place m.sound.kept m.sound.starts later c.vacant_key-slot.ensures.vacant there
          (λ k d. i.ensures.updates.others k (λ e. d (e ∙ same))) i.ensures.len c.put-older.ensures.rises
          c.put-older.ensures.slots);
      starts = subst (StartsLive (get i.new.self)) (sym p.items)
          (added_starts o.links i.new.self o.arrivals.items o.newest.items c.put-older.new.newest.items c.args.tag slot
          c.args.place m.sound.kept m.sound.starts later c.vacant_key-slot.ensures.vacant there
          (λ k d. i.ensures.updates.others k (λ e. d (e ∙ same))) i.ensures.len c.put-older.ensures.rises
          c.put-older.ensures.slots);
      ends = subst (EndsLive (get i.new.self)) (sym p.items)
          (added_ends o.links i.new.self o.arrivals.items o.newest.items c.put-older.new.newest.items c.args.tag slot
          c.args.place m.sound.kept m.sound.starts later c.vacant_key-slot.ensures.vacant there
          (λ k d. i.ensures.updates.others k (λ e. d (e ∙ same))) i.ensures.len c.put-older.ensures.rises
          c.put-older.ensures.slots m.sound.ends);
      links_room = omega (arith, m.sound.links_room, i.ensures.capacity);
      arrivals_room = omega (arith, m.sound.arrivals_room, p.capacity);
      newest_room = omega (arith, m.sound.newest_room, c.put-older.ensures.capacity);
    }
