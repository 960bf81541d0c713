-- The places of kept operations.
use Rattle.std.specs.Prelude.{ℕ, ◌≡◌, Bool, false, true, List, map, Option, None, Some}
use Rattle.std.specs.List.{AllPairs}
use Rattle.std.specs.Ordering.{nat_cmp, ordering_then}
use Rattle.std.specs.declared.cmp.Ordering.{Ordering}
use Rattle.std.specs.declared.cmp.Reverse.{Reverse}
use Rattle.tandem_base.specs.declared.names.Position.{Position}
use Rattle.tandem_base.specs.Places.{comes_before}
use Rattle.kept_ops.specs.declared.arrivals.Arrival.{Arrival}

-- the places that came, each with its key, in no order, and how many there may be
pub record ArrivalList : Type 0 where
  pub items : List Arrival
  pub capacity : ℕ

-- a place is after the oldest that still matters; none is where there is no such place
abbrev pub stays : Option Position → Position → Bool
stays None place = false
stays (Some oldest) place = comes_before oldest place

-- the order of a heap whose top is the earliest
abbrev pub earliest_on_top : Reverse Arrival → Reverse Arrival → Ordering
earliest_on_top x y =
    ordering_then
    (ordering_then (nat_cmp y.0.place.message x.0.place.message) (nat_cmp y.0.place.insert x.0.place.insert))
    (nat_cmp y.0.key x.0.key)

-- the places rise
abbrev pub PlacesRise : List Arrival → Type 0
PlacesRise items = AllPairs (λ a b. comes_before a.place b.place ≡ true) items

-- those of a heap
abbrev pub unreversed : List (Reverse Arrival) → List Arrival
unreversed items = map (λ a. a.0) items
