-- Slots that wait, each under a tag.
use Rattle.std.specs.Prelude.{ℕ, ◌≡◌, ◌≢◌, ◌<◌, List, Option, Some, None, option_map}
use Rattle.byte_rows.specs.declared.links.Link.{Link}
use Rattle.byte_rows.specs.declared.waiter.Waiter.{Waiter}
use Rattle.byte_rows.specs.Links.{at}

-- slots that wait in one row, and how many slots there may be
pub record WaitingSlots : Type 0 where
  pub links : List (Option Link)
  pub capacity : ℕ

-- the tag under which a slot waits, None where it doesn't
abbrev pub tag_of_slot : WaitingSlots → ℕ → Option ℕ
tag_of_slot row slot = option_map (λ (n : Link). n.tag) (at row.links slot)

-- this one waits, and each other that waits has a lower tag; or none waits
abbrev pub IsNewestWaiter : (ℕ → Option ℕ) → Option Waiter → Type 0
IsNewestWaiter tags None = (s t : ℕ) → tags s ≡ Some t → ⊥
IsNewestWaiter tags (Some w) = (tags w.slot ≡ Some w.tag)
    × ((s t : ℕ) → tags s ≡ Some t → s ≢ w.slot → t < w.tag)

-- this one waits, and each other that waits has a higher tag; or none waits
abbrev pub IsOldestWaiter : (ℕ → Option ℕ) → Option Waiter → Type 0
IsOldestWaiter tags None = (s t : ℕ) → tags s ≡ Some t → ⊥
IsOldestWaiter tags (Some w) = (tags w.slot ≡ Some w.tag)
    × ((s t : ℕ) → tags s ≡ Some t → s ≢ w.slot → w.tag < t)

-- the same as the newest, of those whose tag is below a bound
abbrev pub IsNewestWaiterBelow : ℕ → (ℕ → Option ℕ) → Option Waiter → Type 0
IsNewestWaiterBelow bound tags None = (s t : ℕ) → tags s ≡ Some t → t < bound → ⊥
IsNewestWaiterBelow bound tags (Some w) = (tags w.slot ≡ Some w.tag) × (w.tag < bound)
    × ((s t : ℕ) → tags s ≡ Some t → t < bound → s ≢ w.slot → t < w.tag)
