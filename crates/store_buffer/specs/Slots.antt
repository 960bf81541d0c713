-- Stores as they stand in their slots.
use Rattle.std.specs.Prelude.{ℕ, ◌≡◌, ◌+◌, ◌≤◌, ◌^◌, ◌==◌, nat_lt, not, Bool, false, List, [], ◌∷◌, length, Option}
use Rattle.std.specs.Prelude.{None, Some, slice_index_or, cond, count_by, if◌then◌else◌}
use Rattle.slab.specs.Slab.{Slab, get, slab_len}
use Rattle.key_tree.specs.Entries.{KeyedEntries, number_at}
use Rattle.store_buffer.specs.declared.store.Store.{Store}
use Rattle.store_buffer.specs.Store.{stays_open}

-- a store put among others whose tags fall, before the first of a lower tag
abbrev pub put_newest : Store → List Store → List Store
put_newest s [] = s ∷ []
put_newest s (t ∷ ts) = if nat_lt t.tag s.tag then s ∷ t ∷ ts else t ∷ put_newest s ts

-- the stores by falling tag
abbrev pub newest_first : List Store → List Store
newest_first [] = []
newest_first (s ∷ ss) = put_newest s (newest_first ss)

-- in the slot is a store with an unperformed byte
abbrev pub is_open_slot : Option Store → Bool
is_open_slot None = false
is_open_slot (Some s) = stays_open s

-- in the slot is a store without one
abbrev pub is_done_slot : Option Store → Bool
is_done_slot None = false
is_done_slot (Some s) = not (stays_open s)

-- in the slot is a store of this tag
pub record HasTagAt (slots : List (Option Store)) (tag i : ℕ) : Type 0 where
  pub store : Store
  pub there : slice_index_or slots i None ≡ Some store
  pub is : store.tag ≡ tag

-- the store has at most eight bytes, none of them past 2^64
abbrev pub FitsMemory : Store → Type 0
FitsMemory s = (length s.entry.piece.bytes ≤ 8) × (s.entry.piece.addr + length s.entry.piece.bytes ≤ 2 ^ 64)

-- each store is found by its tag; those without an unperformed byte are listed, each once, and the others are the rest
pub record AreSlotted (stores : Slab Store) (slots : KeyedEntries) (finished : List ℕ) : Type 0 where
  pub leads : (tag i : ℕ) → number_at slots tag ≡ Some i → HasTagAt stores.slots tag i
  pub under : (i : ℕ) (s : Store) → get stores i ≡ Some s → number_at slots s.tag ≡ Some i
  pub fits : (i : ℕ) (s : Store) → get stores i ≡ Some s → FitsMemory s
  pub listed : (i : ℕ) → count_by (λ j. j == i) finished ≡ cond (is_done_slot (get stores i)) 1 0
  pub as_many : length finished + count_by is_open_slot stores.slots ≡ slab_len stores
