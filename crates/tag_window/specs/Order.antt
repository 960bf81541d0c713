-- Reports under tags, as they are kept.
use Rattle.std.specs.Prelude.{ℕ, ◌≡◌, ◌≢◌, ◌+◌, ◌<◌, ◌≤◌, ◌==◌, ◌&&◌, ◌⊎◌, not, nat_lt, Bool, true, false, List, []}
use Rattle.std.specs.Prelude.{◌∷◌, ◌++◌}
use Rattle.std.specs.Prelude.{suc, length, take, drop, slice_index_or, Option, None, Some, if◌then◌else◌}
use Rattle.std.specs.List.{filter}
use Rattle.std.specs.VecDeque.{deque_capacity}
use Rattle.slab.specs.Slab.{Slab, get, slab_len}
use Rattle.tandem_base.specs.declared.names.Position.{Position}
use Rattle.tandem_base.specs.Places.{comes_before}
use Rattle.tag_window.specs.declared.links.Link.{Link}
use Rattle.tag_window.specs.declared.newest.Newest.{Newest}
use Rattle.tag_window.specs.declared.order.Arrival.{Arrival}
use Rattle.tag_window.specs.declared.order.TagOrder.{TagOrder}

-- the two places are the same
abbrev pub is_same_position : Position → Position → Bool
is_same_position a b = (a.message == b.message) && (a.insert == b.insert)

-- a slot is taken by the report of this place
abbrev pub is_at : Option Link → Position → Bool
is_at None place = false
is_at (Some link) place = is_same_position link.place place

-- a report is there: its slot is taken, and by it
abbrev pub is_live : (ℕ → Option Link) → Arrival → Bool
is_live at a = is_at (at a.slot) a.place

-- the reports that are there, the newest first
abbrev pub live_of : (ℕ → Option Link) → List Arrival → List Arrival
live_of at arrivals = filter (is_live at) arrivals

-- the same of an order
abbrev pub live_reports : TagOrder → List Arrival
live_reports order = live_of (get order.links) order.arrivals.items

-- each of them came before this place
abbrev pub AllBefore : Position → List Arrival → Type 0
AllBefore place [] = Unit {0}
AllBefore place (a ∷ cs) = (comes_before a.place place ≡ true) × AllBefore place cs

-- each came before the one in front of it
abbrev pub PlacesFall : List Arrival → Type 0
PlacesFall [] = Unit {0}
PlacesFall (a ∷ cs) = AllBefore a.place cs × PlacesFall cs

-- each of them is in another slot than this one
abbrev pub AllElsewhere : ℕ → List Arrival → Type 0
AllElsewhere slot [] = Unit {0}
AllElsewhere slot (a ∷ cs) = (a.slot ≢ slot) × AllElsewhere slot cs

-- the first is there
abbrev pub StartsLive : (ℕ → Option Link) → List Arrival → Type 0
StartsLive at [] = Unit {0}
StartsLive at (a ∷ cs) = is_live at a ≡ true

-- the last is there
abbrev pub EndsLive : (ℕ → Option Link) → List Arrival → Type 0
EndsLive at cs = (bs : List Arrival) (a : Arrival) → cs ≡ bs ++ a ∷ [] → is_live at a ≡ true

-- those of a tag
abbrev pub arrivals_of_tag : ℕ → List Arrival → List Arrival
arrivals_of_tag tag cs = filter (λ a. a.tag == tag) cs

-- those of other tags
abbrev pub arrivals_without : ℕ → List Arrival → List Arrival
arrivals_without tag cs = filter (λ a. not (a.tag == tag)) cs

-- those of tags above this one
abbrev pub arrivals_above : ℕ → List Arrival → List Arrival
arrivals_above tag cs = filter (λ a. nat_lt tag a.tag) cs

-- those of tags below this one
abbrev pub arrivals_below : ℕ → List Arrival → List Arrival
arrivals_below tag cs = filter (λ a. nat_lt a.tag tag) cs

-- from this slot the links lead through these reports, and end
abbrev pub IsTagChain : (ℕ → Option Link) → Option ℕ → List Arrival → Type 0
IsTagChain at head [] = head ≡ None
IsTagChain at head (a ∷ cs) =
    (link : Link) × (head ≡ Some a.slot) × (at a.slot ≡ Some link) × (link.place ≡ a.place)
    × IsTagChain at link.older cs

-- there are such reports, each older than the one before it
pub record IsTagChained (at : ℕ → Option Link) (head : Option ℕ) : Type 0 where
  pub reports : List Arrival
  pub chain : IsTagChain at head reports
  pub falls : PlacesFall reports

-- the slots of these reports are free now, and the others are as they were
pub record Freed (at new : ℕ → Option Link) (cs : List Arrival) : Type 0 where
  pub gone : (slot : ℕ) (link : Link) → new slot ≡ Some link → AllElsewhere slot cs
  pub stay : (slot : ℕ) → AllElsewhere slot cs → new slot ≡ at slot

-- the tags are all above this one
abbrev pub AllTagsAbove : ℕ → List Newest → Type 0
AllTagsAbove tag [] = Unit {0}
AllTagsAbove tag (n ∷ ns) = (tag < n.tag) × AllTagsAbove tag ns

-- the tags rise
abbrev pub TagsRise : List Newest → Type 0
TagsRise [] = Unit {0}
TagsRise (n ∷ ns) = AllTagsAbove n.tag ns × TagsRise ns

-- the tags are all below this one
abbrev pub AllTagsBelow : ℕ → List Newest → Type 0
AllTagsBelow tag [] = Unit {0}
AllTagsBelow tag (n ∷ ns) = (n.tag < tag) × AllTagsBelow tag ns

-- k of the tags are below this one
pub record IsRank (newest : List Newest) (tag k : ℕ) : Type 0 where
  pub within : k ≤ length newest
  pub below : (i : ℕ) (d : Newest) → i < k → (slice_index_or newest i d).tag < tag
  pub from : (i : ℕ) (d : Newest) → k ≤ i → i < length newest → tag ≤ (slice_index_or newest i d).tag

-- behind k lower tags stands this one, and then higher ones
pub record SplitsAt (newest : List Newest) (k tag slot : ℕ) : Type 0 where
  pub is : newest ≡ take k newest ++ record { tag = tag; slot = slot } ∷ drop (suc k) newest
  pub inside : k < length newest
  pub below : AllTagsBelow tag (take k newest)
  pub above : AllTagsAbove tag (drop (suc k) newest)

-- behind k lower tags stand higher ones
pub record FitsAt (newest : List Newest) (k tag : ℕ) : Type 0 where
  pub inside : k ≤ length newest
  pub below : AllTagsBelow tag (take k newest)
  pub above : AllTagsAbove tag (drop k newest)

-- the newest slot of a tag
abbrev pub slot_under : List Newest → ℕ → Option ℕ
slot_under [] tag = None
slot_under (n ∷ ns) tag = if n.tag == tag then Some n.slot else slot_under ns tag

-- the reports that are there are linked under their tags
pub record AreKept (links : Slab Link) (arrivals : List Arrival) (newest : List Newest) : Type 0 where
  pub falls : PlacesFall arrivals
  pub rises : TagsRise newest
  pub chains : (tag : ℕ)
      → IsTagChain (get links) (slot_under newest tag) (arrivals_of_tag tag (live_of (get links) arrivals))
  pub count : length (live_of (get links) arrivals) ≡ slab_len links

-- and neither the first nor the last arrival is gone, and there is room
pub record IsTagOrder (order : TagOrder) : Type 0 where
  pub kept : AreKept order.links order.arrivals.items order.newest.items
  pub starts : StartsLive (get order.links) order.arrivals.items
  pub ends : EndsLive (get order.links) order.arrivals.items
  pub links_room : order.capacity ≤ order.links.capacity
  pub arrivals_room : order.capacity + order.capacity ≤ deque_capacity order.arrivals
  pub newest_room : order.capacity ≤ deque_capacity order.newest

-- one of them came at this place
abbrev pub CameAt : Position → List Arrival → Type 0
CameAt place [] = ⊥
CameAt place (a ∷ cs) = (a.place ≡ place) ⊎ CameAt place cs

-- none of them came before this place
abbrev pub NoneBefore : Position → List Arrival → Type 0
NoneBefore place [] = Unit {0}
NoneBefore place (a ∷ cs) = (comes_before a.place place ≡ false) × NoneBefore place cs

-- the oldest of them came at this place, or there are none
abbrev pub IsOldest : Option Position → List Arrival → Type 0
IsOldest None cs = cs ≡ []
IsOldest (Some place) cs = CameAt place cs × NoneBefore place cs

-- one of them has this tag
abbrev pub HasTag : ℕ → List Arrival → Type 0
HasTag tag [] = ⊥
HasTag tag (a ∷ cs) = (a.tag ≡ tag) ⊎ HasTag tag cs

-- none of them has a tag below this one
abbrev pub AllTagsFrom : ℕ → List Arrival → Type 0
AllTagsFrom tag [] = Unit {0}
AllTagsFrom tag (a ∷ cs) = (tag ≤ a.tag) × AllTagsFrom tag cs

-- this is the lowest of their tags, and below a bound; or none is below it
abbrev pub IsLowestTag : ℕ → Option ℕ → List Arrival → Type 0
IsLowestTag bound None cs = AllTagsFrom bound cs
IsLowestTag bound (Some tag) cs = (tag < bound) × HasTag tag cs × AllTagsFrom tag cs
