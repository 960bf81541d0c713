-- The retired stores of a hart that have something to perform.
use Rattle.std.specs.Prelude.{ℕ, ◌<◌, ◌==◌, List, [], ◌∷◌, length, map, Option, Some, None, if◌then◌else◌}
use Rattle.std.specs.List.{filter}
use Rattle.msg_frames.specs.declared.message.Piece.{Piece}
use Rattle.tandem_base.specs.declared.room.Took.{Took}
use Rattle.tandem_base.specs.declared.room.Took.TheVariants.{Yes, Full}
use Rattle.store_buffer.specs.declared.store.ByteState.{ByteState}
use Rattle.store_buffer.specs.declared.store.ByteState.TheVariants.{Inserted}
use Rattle.store_buffer.specs.declared.store.Store.{Store}
use Rattle.store_buffer.specs.declared.parts.Taken.{Taken}
use Rattle.store_buffer.specs.declared.parts.Taken.TheVariants as taken
use Rattle.store_buffer.specs.Store.{with_states, stays_open}

-- the hart, its stores, the newest first, and how many may have an unperformed byte
pub record StoreList : Type 0 where
  pub hart : ℕ
  pub stores : List Store
  pub capacity : ℕ

-- the store of a tag
abbrev pub store_of_tag : ℕ → List Store → Option Store
store_of_tag tag [] = None
store_of_tag tag (s ∷ ss) = if s.tag == tag then Some s else store_of_tag tag ss

-- those that have an unperformed byte
abbrev pub open_stores : List Store → List Store
open_stores ss = filter stays_open ss

-- a store, where it has this tag, once its bytes at `len` addresses from `addr` up have this state
abbrev pub given_states : ℕ → ByteState → ℕ → ℕ → Store → Store
given_states tag to addr len s = if s.tag == tag then with_states to addr len s else s

-- the stores after the same
abbrev pub all_given : ℕ → ByteState → ℕ → ℕ → List Store → List Store
all_given tag to addr len ss = map (given_states tag to addr len) ss

-- the stores after this answer to an Insert or a Bypass: nothing changes where it is refused
abbrev pub after_taken : Taken → ℕ → Piece → List Store → List Store
after_taken taken.Yes tag piece ss = all_given tag Inserted piece.addr (length piece.bytes) ss
after_taken taken.Unknown tag piece ss = ss
after_taken (taken.Wrong at want got) tag piece ss = ss
after_taken taken.Torn tag piece ss = ss

-- the stores after this answer to one more
abbrev pub after_retire : Took → Store → List Store → List Store
after_retire Yes s ss = s ∷ ss
after_retire (Full n) s ss = ss

-- each has a tag below this one
abbrev pub AllTagged : ℕ → List Store → Type 0
AllTagged tag [] = Unit {0}
AllTagged tag (s ∷ ss) = (s.tag < tag) × AllTagged tag ss
