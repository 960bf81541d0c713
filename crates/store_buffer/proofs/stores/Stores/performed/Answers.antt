use Rattle.std.proofs.Common.{ℕ, ◌≡◌, ◌≢◌, ◌≤◌, List, length, Bool, true, false, refl, sym, ap, subst, ◌∙◌, arith}
use mathlib.Core.Bool.{beq}
use Rattle.slab.specs.Slab.{Slab}
use Rattle.store_buffer.specs.declared.store.ByteState.TheVariants.{Performed}
use Rattle.store_buffer.specs.declared.store.Store.{Store}
use Rattle.store_buffer.specs.Slots.{AreSlotted}
use Rattle.store_buffer.specs.Store.{stays_open, with_states}
use Rattle.store_buffer.specs.Stores.{StoreList, all_given}
use Rattle.store_buffer.proofs.Given.{given_list, given_is_there, given_is, kept_slotted, kept_open, done_slotted}
use Rattle.store_buffer.proofs.Given.{done_open, kept_len, first_holds}
use Rattle.store_buffer.proofs.Opens.{opened_before}
use Rattle.store_buffer.specs.Waiting.{AreRetired}
use Rattle.store_buffer.proofs.Slotted.{is_there, given_none, are_retired}
use Rattle.store_buffer.proofs.stores.Stores.performed.Goals as goal

alike : (a b : Bool) → beq a b ≡ true → a ≡ b
alike true true e = refl
alike true false e = cc
alike false true e = cc
alike false false e = refl

differ : (a b : Bool) → beq a b ≡ false → a ≢ b
differ true true e q = cc
differ true false e q = cc
differ false true e q = cc
differ false false e q = cc

-- the store had an unperformed byte, and has none now
finishes : (s : Store) (addr len : ℕ) (t : Store) → t ≡ with_states Performed addr len s → (was is : Bool)
    → was ≡ stays_open s → is ≡ stays_open t → beq was is ≡ false
    → (stays_open s ≡ true) × (stays_open (with_states Performed addr len s) ≡ false)
finishes s addr len t q was is a b d =
    first_holds (stays_open s) (stays_open (with_states Performed addr len s))
    (λ e. differ was is d (a ∙ e ∙ sym (ap stays_open q) ∙ sym b)) (opened_before s addr len)

pub returns-in-None-clause-stores : goal.returns-in-None-clause-stores
returns-in-None-clause-stores c =
    let t = c.self.inside in
    rw (← c.self.view_is) (given_none t.stores t.slots t.finished.items c.self.invariant.0 c.args.tag Performed
    c.args.extent.now.addr c.args.extent.now.len (sym c.in-None.ensures.number))

pub store_at-requires : goal.store_at-requires
store_at-requires c =
    let t = c.self.inside in
    is_there t.stores t.slots t.finished.items c.self.invariant.0 c.args.tag c.in-Some.at
    (sym c.in-Some.ensures.number)

pub store_at-requires-2 : goal.store_at-requires-2
store_at-requires-2 c =
    let t = c.self.inside in
    let x = c.args.extent.now in
    let s = c.store_at.result.now in
    given_is_there t.stores c.give_at.new.stores t.slots t.finished.items c.self.invariant.0 c.args.tag c.in-Some.at
    (sym c.in-Some.ensures.number) s c.store_at.ensures Performed x.addr x.len (c.give_at.ensures s c.store_at.ensures)

pub invariant_of-self : goal.invariant_of-self
invariant_of-self c =
    let t = c.self.inside in
    let x = c.args.extent.now in
    let s = c.store_at.result.now in
    let n = sym c.in-Some.ensures.number in
    let w = c.give_at.ensures s c.store_at.ensures in
    let is = given_is t.stores c.give_at.new.stores t.slots t.finished.items c.self.invariant.0 c.args.tag
    c.in-Some.at n s c.store_at.ensures Performed x.addr x.len w c.store_at-2.result.now c.store_at-2.ensures in
    let same : stays_open (with_states Performed x.addr x.len s) ≡ stays_open s =
    sym (ap stays_open is) ∙ sym c.is_open-is_open.ensures
    ∙ sym (alike c.is_open-was_open.result c.is_open-is_open.result c.if-was_open-is_open.true)
    ∙ c.is_open-was_open.ensures in (
      kept_slotted t.stores c.give_at.new.stores t.slots t.finished.items c.self.invariant.0 c.args.tag c.in-Some.at n
          s c.store_at.ensures Performed x.addr x.len w same,
      kept_open t.stores c.give_at.new.stores t.slots t.finished.items c.self.invariant.0 c.args.tag c.in-Some.at n
          s c.store_at.ensures Performed x.addr x.len w same ∙ c.self.invariant.1,
      subst (λ (m : ℕ). m ≤ t.capacity) (sym (kept_len t.stores c.give_at.new.stores t.slots t.finished.items
          c.self.invariant.0 c.args.tag c.in-Some.at n s c.store_at.ensures Performed x.addr x.len w))
          c.self.invariant.2,
      subst (λ (y : Slab Store). t.capacity ≤ y.capacity) (sym w) c.self.invariant.3,
      c.self.invariant.4,
      c.self.invariant.5,
    )

pub returns-then-was_open-is_open-clause-stores : goal.returns-then-was_open-is_open-clause-stores
returns-then-was_open-is_open-clause-stores c =
    let t = c.self.inside in
    let x = c.args.extent.now in
    let s = c.store_at.result.now in
    given_list t.stores c.give_at.new.stores t.slots t.finished.items c.self.invariant.0 c.args.tag c.in-Some.at
    (sym c.in-Some.ensures.number) s c.store_at.ensures Performed x.addr x.len (c.give_at.ensures s c.store_at.ensures)
    ∙ ap (λ (l : StoreList). all_given c.args.tag Performed x.addr x.len l.stores) c.self.view_is

pub returns-clause-stores : goal.returns-clause-stores
returns-clause-stores c =
    let t = c.self.inside in
    let x = c.args.extent.now in
    let s = c.store_at.result.now in
    given_list t.stores c.give_at.new.stores t.slots t.finished.items c.self.invariant.0 c.args.tag c.in-Some.at
    (sym c.in-Some.ensures.number) s c.store_at.ensures Performed x.addr x.len (c.give_at.ensures s c.store_at.ensures)
    ∙ ap (λ (l : StoreList). all_given c.args.tag Performed x.addr x.len l.stores) c.self.view_is

pub push_reserved-requires : goal.push_reserved-requires
push_reserved-requires c =
    let t = c.self.inside in
    let x = c.args.extent.now in
    let s = c.store_at.result.now in
    let n = sym c.in-Some.ensures.number in
    let w = c.give_at.ensures s c.store_at.ensures in
    let is = given_is t.stores c.give_at.new.stores t.slots t.finished.items c.self.invariant.0 c.args.tag
    c.in-Some.at n s c.store_at.ensures Performed x.addr x.len w c.store_at-2.result.now c.store_at-2.ensures in
    let o = finishes s x.addr x.len c.store_at-2.result.now is c.is_open-was_open.result c.is_open-is_open.result
    c.is_open-was_open.ensures c.is_open-is_open.ensures c.if-was_open-is_open.false in
    let less = done_open t.stores c.give_at.new.stores t.slots t.finished.items c.self.invariant.0 c.args.tag
    c.in-Some.at n s c.store_at.ensures Performed x.addr x.len w o.0 o.1 in
    omega (
      arith,
      less,
      c.self.invariant.0.as_many,
      c.self.invariant.1,
      c.self.invariant.2,
      c.self.invariant.5,
      c.as_slice-listed.ensures.len,
      ap length c.as_slice-listed.ensures.value,
    )

pub overflow_sub-self : goal.overflow_sub-self
overflow_sub-self c =
    let t = c.self.inside in
    let x = c.args.extent.now in
    let s = c.store_at.result.now in
    let n = sym c.in-Some.ensures.number in
    let w = c.give_at.ensures s c.store_at.ensures in
    let is = given_is t.stores c.give_at.new.stores t.slots t.finished.items c.self.invariant.0 c.args.tag
    c.in-Some.at n s c.store_at.ensures Performed x.addr x.len w c.store_at-2.result.now c.store_at-2.ensures in
    let o = finishes s x.addr x.len c.store_at-2.result.now is c.is_open-was_open.result c.is_open-is_open.result
    c.is_open-was_open.ensures c.is_open-is_open.ensures c.if-was_open-is_open.false in
    let less = done_open t.stores c.give_at.new.stores t.slots t.finished.items c.self.invariant.0 c.args.tag
    c.in-Some.at n s c.store_at.ensures Performed x.addr x.len w o.0 o.1 in
    omega (arith, less, c.self.invariant.1)

pub invariant_of-self-2 : goal.invariant_of-self-2
invariant_of-self-2 c =
    let t = c.self.inside in
    let x = c.args.extent.now in
    let s = c.store_at.result.now in
    let n = sym c.in-Some.ensures.number in
    let w = c.give_at.ensures s c.store_at.ensures in
    let is = given_is t.stores c.give_at.new.stores t.slots t.finished.items c.self.invariant.0 c.args.tag
    c.in-Some.at n s c.store_at.ensures Performed x.addr x.len w c.store_at-2.result.now c.store_at-2.ensures in
    let o = finishes s x.addr x.len c.store_at-2.result.now is c.is_open-was_open.result c.is_open-is_open.result
    c.is_open-was_open.ensures c.is_open-is_open.ensures c.if-was_open-is_open.false in
    let less = done_open t.stores c.give_at.new.stores t.slots t.finished.items c.self.invariant.0 c.args.tag
    c.in-Some.at n s c.store_at.ensures Performed x.addr x.len w o.0 o.1 in (
      subst (λ (xs : List ℕ). AreSlotted c.give_at.new.stores t.slots xs) (sym c.push_reserved.ensures.items)
          (done_slotted t.stores c.give_at.new.stores t.slots t.finished.items c.self.invariant.0 c.args.tag
          c.in-Some.at n s c.store_at.ensures Performed x.addr x.len w o.0 o.1),
      omega (arith, less, c.self.invariant.1),
      subst (λ (m : ℕ). m ≤ t.capacity) (sym (kept_len t.stores c.give_at.new.stores t.slots t.finished.items
          c.self.invariant.0 c.args.tag c.in-Some.at n s c.store_at.ensures Performed x.addr x.len w))
          c.self.invariant.2,
      subst (λ (y : Slab Store). t.capacity ≤ y.capacity) (sym w) c.self.invariant.3,
      c.self.invariant.4,
      omega (arith, c.self.invariant.5, c.push_reserved.ensures.capacity),
    )

pub returns-in-None-clause-retired : goal.returns-in-None-clause-retired
returns-in-None-clause-retired c = subst (λ (l : StoreList). AreRetired l.stores) c.self.view_is
    (are_retired c.self.inside.stores c.self.inside.slots c.self.inside.finished.items c.self.invariant.0)

pub returns-then-was_open-is_open-clause-retired : goal.returns-then-was_open-is_open-clause-retired
returns-then-was_open-is_open-clause-retired c = subst (λ (l : StoreList). AreRetired l.stores) c.self.view_is
    (are_retired c.self.inside.stores c.self.inside.slots c.self.inside.finished.items c.self.invariant.0)

pub returns-clause-retired : goal.returns-clause-retired
returns-clause-retired c = subst (λ (l : StoreList). AreRetired l.stores) c.self.view_is
    (are_retired c.self.inside.stores c.self.inside.slots c.self.inside.finished.items c.self.invariant.0)
