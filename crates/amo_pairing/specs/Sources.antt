-- The sources of the bytes of an LR, and what a store that is performed makes of them.
use Rattle.std.specs.Prelude.{ℕ, ◌+◌, ◌<◌, ◌≤◌, ◌≡◌, ◌==◌, ◌&&◌, Bool, false, is_none, Option, None, Some}
use Rattle.std.specs.Prelude.{slice_index_or, if◌then◌else◌}
use Rattle.tandem_base.specs.declared.extent.Extent.{Extent}
use Rattle.tandem_base.specs.declared.names.Origin.{Origin}
use Rattle.tandem_base.specs.declared.names.Position.{Position}
use Rattle.tandem_base.specs.Extents.{is_among}
use Rattle.window_laws.specs.declared.source.ByteSource.{ByteSource}
use Rattle.amo_pairing.specs.declared.reservation.Reservation.{Reservation}

-- the initial value 0, as a source
abbrev pub no_source : ByteSource
no_source = record { writer = None; place = None; byte = 0 }

-- the source of byte k of an LR
abbrev pub source_at_byte : Reservation → ℕ → ByteSource
source_at_byte r k = slice_index_or r.sources k no_source

-- a writer is under this tag
abbrev pub is_under : ℕ → Option Origin → Bool
is_under tag None = false
is_under tag (Some w) = w.tag == tag

-- a source is of a store under this tag that isn't performed
abbrev pub waits_under : ℕ → ByteSource → Bool
waits_under tag s = is_under tag s.writer && is_none s.place

-- the source of the byte at x once bytes of a store, those of an extent, are performed at a place: where it is that
-- store and waited for this, it has the place
abbrev pub given_place : ℕ → Extent → Position → ℕ → ByteSource → ByteSource
given_place tag extent place x s =
    if waits_under tag s && is_among extent.addr extent.len x
    then record { writer = s.writer; place = Some place; byte = s.byte }
    else s

-- the sources of the bytes of an LR have got their places so
pub record GivesPlaces (tag : ℕ) (extent : Extent) (place : Position) (old new : Reservation) : Type 0 where
  pub same_extent : new.extent ≡ old.extent
  pub same_place : new.place ≡ old.place
  pub bytes : (k : ℕ) → k < old.extent.len
      → source_at_byte new k ≡ given_place tag extent place (old.extent.addr + k) (source_at_byte old k)
  pub others : (k : ℕ) → old.extent.len ≤ k → source_at_byte new k ≡ source_at_byte old k

-- they have where there is an LR; where there is none there is none still
abbrev pub GivesPlacesIfAny : ℕ → Extent → Position → Option Reservation → Option Reservation → Type 0
GivesPlacesIfAny tag extent place None new = new ≡ None
GivesPlacesIfAny tag extent place (Some old) None = ⊥
GivesPlacesIfAny tag extent place (Some old) (Some new) = GivesPlaces tag extent place old new
