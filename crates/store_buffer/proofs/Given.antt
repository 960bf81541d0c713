-- Bytes of a store get another state.
use Rattle.std.proofs.Common.{ℕ, ◌≡◌, ◌+◌, List, [], ◌∷◌, ◌++◌, Bool, true, false, Some, None, IsSome, count_by}
use Rattle.std.proofs.Common.{refl, sym, ap, subst, ◌∙◌}
use Rattle.std.proofs.lemmas.List.{get_or-set_same}
use Rattle.slab.specs.Slab.{Slab, get, values, slab_len, with_value}
use Rattle.key_tree.specs.Entries.{KeyedEntries, number_at}
use Rattle.store_buffer.specs.declared.store.ByteState.{ByteState}
use Rattle.store_buffer.specs.declared.store.Store.{Store}
use Rattle.store_buffer.specs.Store.{stays_open, with_states}
use Rattle.store_buffer.specs.Stores.{all_given}
use Rattle.store_buffer.specs.Slots.{newest_first, is_open_slot, AreSlotted}
use Rattle.store_buffer.proofs.Slotted.{there_is, within, tag_is, given_values, given_same, given_done, open_same}
use Rattle.store_buffer.proofs.Slotted.{open_less}
use Rattle.store_buffer.proofs.Slotted.{as_many_after}

module _ (stores new : Slab Store) (slots : KeyedEntries) (finished : List ℕ) (a : AreSlotted stores slots finished)
    (tag i : ℕ) (n : number_at slots tag ≡ Some i) (s : Store) (e : get stores i ≡ Some s)
    (to : ByteState) (addr len : ℕ) (w : new ≡ with_value stores i (with_states to addr len s)) where
  pub given_list : newest_first (values new) ≡ all_given tag to addr len (newest_first (values stores))
  given_list =
      ap (λ (x : Slab Store). newest_first (values x)) w
      ∙ subst (λ (t : ℕ). newest_first (values (with_value stores i (with_states to addr len s)))
      ≡ all_given t to addr len (newest_first (values stores))) (tag_is stores slots finished a tag i s n e)
      (given_values stores slots finished a i s e to addr len)

  pub given_there : get new i ≡ Some (with_states to addr len s)
  given_there = ap (λ (x : Slab Store). get x i) w
      ∙ get_or-set_same stores.slots i (Some (with_states to addr len s)) None (within stores.slots i s e)

  pub given_is_there : IsSome (get new i)
  given_is_there = there_is (get new i) (with_states to addr len s) given_there

  pub given_is : (t : Store) → get new i ≡ Some t → t ≡ with_states to addr len s
  given_is t f =
      let q : Some t ≡ Some (with_states to addr len s) = sym f ∙ given_there in
      cc

  pub kept_slotted : stays_open (with_states to addr len s) ≡ stays_open s → AreSlotted new slots finished
  kept_slotted q = subst (λ (x : Slab Store). AreSlotted x slots finished) (sym w)
      (given_same stores slots finished a i s e to addr len q)

  pub kept_open : stays_open (with_states to addr len s) ≡ stays_open s
      → count_by is_open_slot new.slots ≡ count_by is_open_slot stores.slots
  kept_open q = ap (λ (x : Slab Store). count_by is_open_slot x.slots) w
      ∙ open_same stores slots finished a i s e to addr len q

  pub done_slotted : stays_open s ≡ true → stays_open (with_states to addr len s) ≡ false
      → AreSlotted new slots (finished ++ i ∷ [])
  done_slotted o d = subst (λ (x : Slab Store). AreSlotted x slots (finished ++ i ∷ [])) (sym w)
      (given_done stores slots finished a i s e to addr len o d)

  pub done_open : stays_open s ≡ true → stays_open (with_states to addr len s) ≡ false
      → count_by is_open_slot new.slots + 1 ≡ count_by is_open_slot stores.slots
  done_open o d = ap (λ (x : Slab Store). count_by is_open_slot x.slots + 1) w
      ∙ open_less stores slots finished a i s e to addr len o d

  pub kept_len : slab_len new ≡ slab_len stores
  kept_len = ap (λ (x : Slab Store). slab_len x) w ∙ as_many_after stores slots finished a i s e to addr len

-- the two differ, and the second brings the first
pub first_holds : (a b : Bool) → (a ≡ b → ⊥) → (b ≡ true → a ≡ true) → (a ≡ true) × (b ≡ false)
first_holds true true d h = absurd (d refl)
first_holds true false d h = (refl, refl)
first_holds false true d h = cc (h refl)
first_holds false false d h = absurd (d refl)
