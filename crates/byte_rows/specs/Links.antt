-- Places that wait in rows, and their links.
use Rattle.std.specs.Prelude.{ℕ, ◌≡◌, ◌≢◌, ◌<◌, ◌==◌, Bool, true, false, List, Option, Some, None}
use Rattle.std.specs.Prelude.{slice_index_or, IsSome}
use Rattle.byte_rows.specs.declared.links.Link.{Link}
use Rattle.byte_rows.specs.declared.links.Ends.{Ends}
use Rattle.byte_rows.specs.declared.waiter.Waiter.{Waiter}

-- the link of a place, if it waits
abbrev pub at : List (Option Link) → ℕ → Option Link
at links i = slice_index_or links i None

-- the row and the tag of a place that waits
abbrev pub row_mark : Option Link → Option (ℕ × ℕ)
row_mark None = None
row_mark (Some n) = Some (n.row, n.tag)

-- the same by the place
abbrev pub row_mark_at : (ℕ → Option Link) → ℕ → Option (ℕ × ℕ)
row_mark_at links i = row_mark (links i)

-- it is this place
abbrev pub is_place : Option ℕ → ℕ → Bool
is_place None j = false
is_place (Some i) j = j == i

-- it is no place
abbrev pub is_none : Option ℕ → Bool
is_none None = true
is_none (Some i) = false

-- if there is such a place, it waits
abbrev pub IsThere : List (Option Link) → Option ℕ → Type 0
IsThere links place = (i : ℕ) → place ≡ Some i → IsSome (at links i)

-- a link with this next newer place
abbrev pub with_newer : Option ℕ → Option Link → Option Link
with_newer newer None = None
with_newer newer (Some n) = Some (record n { newer = newer })

-- a link with this next older place
abbrev pub with_older : Option ℕ → Option Link → Option Link
with_older older None = None
with_older older (Some n) = Some (record n { older = older })

-- tag a is lower than tag b
abbrev pub older : ℕ → ℕ → Type 0
older a b = a < b

-- tag a is higher than tag b
abbrev pub newer : ℕ → ℕ → Type 0
newer a b = b < a

-- of the places that wait in the row under a tag that passes, none goes beyond this one; or there are none
abbrev pub IsEdge : (ℕ → ℕ → Type 0) → (ℕ → Option (ℕ × ℕ)) → ℕ → (ℕ → Type 0) → Option ℕ → Type 0
IsEdge less marks row passes None = (j u : ℕ) → marks j ≡ Some (row, u) → passes u → ⊥
IsEdge less marks row passes (Some i) = (t : ℕ) × (marks i ≡ Some (row, t)) × passes t
    × ((j u : ℕ) → marks j ≡ Some (row, u) → passes u → less t u → ⊥)

-- each tag passes
abbrev pub any : ℕ → Type 0
any u = Unit {0}

-- the places that wait in a row are linked in the order of their tags
pub record IsRow (links : ℕ → Option Link) (row : ℕ) (ends : Ends) : Type 0 where
  pub apart : (i j t : ℕ) → row_mark_at links i ≡ Some (row, t) → row_mark_at links j ≡ Some (row, t) → i ≡ j
  pub older_is : (i : ℕ) (n : Link) → links i ≡ Some n → n.row ≡ row
      → IsEdge older (row_mark_at links) row (λ u. older u n.tag) n.older
  pub newer_is : (i : ℕ) (n : Link) → links i ≡ Some n → n.row ≡ row
      → IsEdge newer (row_mark_at links) row (λ u. newer u n.tag) n.newer
  pub newest_is : IsEdge older (row_mark_at links) row any ends.newest
  pub oldest_is : IsEdge newer (row_mark_at links) row any ends.oldest

-- the links of other rows are as they were
pub record StaysElsewhere (old new : ℕ → Option Link) (row : ℕ) : Type 0 where
  pub stay : (j : ℕ) (n : Link) → old j ≡ Some n → n.row ≢ row → new j ≡ Some n
  pub back : (j : ℕ) (n : Link) → new j ≡ Some n → n.row ≢ row → old j ≡ Some n

-- the waiter of a slot with this link
abbrev pub waiter_from : Option Link → ℕ → Option Waiter
waiter_from None slot = None
waiter_from (Some n) slot = Some (record { tag = n.tag; slot = slot })

-- the waiter at a place, if there is a place
abbrev pub waiter_of : (ℕ → Option Link) → Option ℕ → Option Waiter
waiter_of links None = None
waiter_of links (Some i) = waiter_from (links i) i

-- all that wait, do so in row 0
abbrev pub AreOneRow : (ℕ → Option Link) → Type 0
AreOneRow links = (i : ℕ) (n : Link) → links i ≡ Some n → n.row ≡ 0
