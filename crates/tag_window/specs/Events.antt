-- Live Reads and early Bypasses, told by what befell their hart.
use Rattle.std.specs.Prelude.{ℕ, ◌≡◌, ◌==◌, nat_le, Bool, false, List, [], ◌∷◌, ◌++◌}
use Rattle.tag_window.specs.declared.reports.Read.{Read}
use Rattle.tag_window.specs.declared.reports.Early.{Early}
use Rattle.tag_window.specs.Windows.{Tagged, below, above, without}

-- a Read, an early Bypass, a Squash from a tag on, or the Retire of a tag
pub data Event : Type 0 where
  reads : Tagged Read → Event
  bypasses : Tagged Early → Event
  squashes : ℕ → Event
  retires : ℕ → Event

-- the live Reads after these events, the newest of both first: what the calls of a window make of them, one by one
abbrev pub live_after : List Event → List (Tagged Read)
live_after [] = []
live_after (reads r ∷ before) = r ∷ live_after before
live_after (bypasses b ∷ before) = live_after before
live_after (squashes from ∷ before) = below from (live_after before)
live_after (retires to ∷ before) = above to (live_after before)

-- the early Bypasses after them
abbrev pub early_after : List Event → List (Tagged Early)
early_after [] = []
early_after (reads r ∷ before) = early_after before
early_after (bypasses b ∷ before) = b ∷ early_after before
early_after (squashes from ∷ before) = early_after before
early_after (retires tag ∷ before) = without tag (early_after before)

-- the event drops the Reads of a tag
abbrev pub drops_read : Event → ℕ → Bool
drops_read (reads r) tag = false
drops_read (bypasses b) tag = false
drops_read (squashes from) tag = nat_le from tag
drops_read (retires to) tag = nat_le tag to

-- the event drops the early Bypass of a tag
abbrev pub drops_bypass : Event → ℕ → Bool
drops_bypass (reads r) tag = false
drops_bypass (bypasses b) tag = false
drops_bypass (squashes from) tag = false
drops_bypass (retires of) tag = tag == of

-- none of them drops what is meant of a tag
abbrev pub NoneDrops : (Event → ℕ → Bool) → List Event → ℕ → Type 0
NoneDrops meant [] tag = Unit {0}
NoneDrops meant (e ∷ es) tag = (meant e tag ≡ false) × NoneDrops meant es tag

-- r is one of the Reads, and nothing after it dropped its tag
pub record StaysLive (events : List Event) (r : Tagged Read) : Type 0 where
  pub later : List Event
  pub earlier : List Event
  pub is : events ≡ later ++ reads r ∷ earlier
  pub none : NoneDrops drops_read later r.tag

-- b is one of the Bypasses, and its instruction didn't retire after it
pub record StaysEarly (events : List Event) (b : Tagged Early) : Type 0 where
  pub later : List Event
  pub earlier : List Event
  pub is : events ≡ later ++ bypasses b ∷ earlier
  pub none : NoneDrops drops_bypass later b.tag
