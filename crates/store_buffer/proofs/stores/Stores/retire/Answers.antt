use Rattle.std.proofs.Common.{ℕ, ◌≡◌, ◌≢◌, ◌+◌, ◌≤◌, ◌∷◌, length, sym, ap, subst, ◌∙◌, arith}
use Rattle.slab.specs.Slab.{values, slab_len}
use Rattle.key_tree.specs.Entries.{number_at, put}
use Rattle.store_buffer.specs.declared.store.Store.{Store}
use Rattle.store_buffer.specs.Slots.{newest_first, FitsMemory}
use Rattle.store_buffer.specs.Stores.{StoreList, open_stores, AllTagged}
use Rattle.store_buffer.proofs.Room.{tags_fit, all_counted, swept_counted, took_full, took_yes}
use Rattle.store_buffer.proofs.Slotted.{open_more, slotted_more}
use Rattle.store_buffer.proofs.Newest.{one_newest}
use Rattle.store_buffer.proofs.stores.Stores.retire.Goals as goal

pub returns-then-self-clause-took : goal.returns-then-self-clause-took
returns-then-self-clause-took c =
    let t = c.self.inside in
    let swept : open_stores (newest_first (values t.stores)) ≡ newest_first (values t.stores) =
    subst (λ (l : StoreList). open_stores l.stores ≡ l.stores) (sym c.self.view_is) c.requires.swept in
    rw (← c.self.view_is) (took_full (length (newest_first (values t.stores))) t.capacity
    (all_counted t.stores.slots ∙ swept_counted t.stores.slots swept ∙ c.self.invariant.1 ∙ c.if-self.true))

pub insert_reserved-at-requires : goal.insert_reserved-at-requires
insert_reserved-at-requires c =
    let t = c.self.inside in
    let swept : open_stores (newest_first (values t.stores)) ≡ newest_first (values t.stores) =
    subst (λ (l : StoreList). open_stores l.stores ≡ l.stores) (sym c.self.view_is) c.requires.swept in
    let n = swept_counted t.stores.slots swept in
    omega (arith, n, c.self.invariant.1, c.self.invariant.2, c.self.invariant.3, c.if-self.false)

pub put-requires : goal.put-requires
put-requires c =
    let t = c.self.inside in
    let swept : open_stores (newest_first (values t.stores)) ≡ newest_first (values t.stores) =
    subst (λ (l : StoreList). open_stores l.stores ≡ l.stores) (sym c.self.view_is) c.requires.swept in
    let n = swept_counted t.stores.slots swept in
    let f = tags_fit t.slots.entries t.stores.slots c.get-none.ensures.distinct c.self.invariant.0.leads in
    omega (arith, n, f, c.self.invariant.1, c.self.invariant.2, c.self.invariant.4, c.if-self.false)

pub invariant_of-self : goal.invariant_of-self
invariant_of-self c =
    let t = c.self.inside in
    let i = c.insert_reserved-at in
    let s = c.new.result in
    let swept : open_stores (newest_first (values t.stores)) ≡ newest_first (values t.stores) =
    subst (λ (l : StoreList). open_stores l.stores ≡ l.stores) (sym c.self.view_is) c.requires.swept in
    let all = swept_counted t.stores.slots swept in
    let room : slab_len t.stores + 1 ≤ t.capacity =
    omega (arith, all, c.self.invariant.1, c.self.invariant.2, c.if-self.false) in
    let below : AllTagged s.tag (newest_first (values t.stores)) =
    subst (λ (u : Store). AllTagged u.tag (newest_first (values t.stores))) (sym c.new.ensures.value)
    (subst (λ (l : StoreList). AllTagged c.args.tag l.stores) (sym c.self.view_is) c.requires.newest) in
    let numbers : (q : ℕ) → number_at c.put.new.self q ≡ put s.tag i.result t.slots.entries q =
    subst (λ (u : Store). (q : ℕ) → number_at c.put.new.self q ≡ put u.tag i.result t.slots.entries q)
    (sym c.new.ensures.value) c.put.ensures.numbers in
    let fits : FitsMemory s =
    subst FitsMemory (sym c.new.ensures.value) (c.new.ensures.sized, c.requires.fits) in
    let more = open_more t.stores t.slots t.finished.items c.self.invariant.0 i.new.self c.put.new.self i.result s
    i.ensures.was_vacant i.ensures.updates i.ensures.len numbers below c.new.ensures.opens fits in (
      slotted_more t.stores t.slots t.finished.items c.self.invariant.0 i.new.self c.put.new.self i.result s
          i.ensures.was_vacant i.ensures.updates i.ensures.len numbers below c.new.ensures.opens fits,
      more ∙ ap (λ (n : ℕ). n + 1) c.self.invariant.1,
      omega (arith, room, i.ensures.len),
      omega (arith, c.self.invariant.3, i.ensures.capacity),
      c.put.ensures.capacity ∙ c.self.invariant.4,
      c.self.invariant.5,
    )

pub returns-clause-took : goal.returns-clause-took
returns-clause-took c =
    let t = c.self.inside in
    let swept : open_stores (newest_first (values t.stores)) ≡ newest_first (values t.stores) =
    subst (λ (l : StoreList). open_stores l.stores ≡ l.stores) (sym c.self.view_is) c.requires.swept in
    let n = all_counted t.stores.slots ∙ swept_counted t.stores.slots swept ∙ c.self.invariant.1 in
    let apart : length (newest_first (values t.stores)) ≢ t.capacity = λ e. c.if-self.false (sym n ∙ e) in
    rw (← c.self.view_is) (took_yes (length (newest_first (values t.stores))) t.capacity apart)

pub returns-clause-stores : goal.returns-clause-stores
returns-clause-stores c =
    let t = c.self.inside in
    let i = c.insert_reserved-at in
    let s = c.new.result in
    let below : AllTagged s.tag (newest_first (values t.stores)) =
    subst (λ (u : Store). AllTagged u.tag (newest_first (values t.stores))) (sym c.new.ensures.value)
    (subst (λ (l : StoreList). AllTagged c.args.tag l.stores) (sym c.self.view_is) c.requires.newest) in
    one_newest t.stores.slots i.new.self.slots i.result s i.ensures.was_vacant i.ensures.updates.changed
    i.ensures.updates.others below
    ∙ ap (λ (l : StoreList). s ∷ l.stores) c.self.view_is
    ∙ ap (λ (u : Store). u ∷ c.args.self.now.stores) c.new.ensures.value
