-- What waits of the stores of a hart: their bytes that aren't performed.
use Rattle.std.specs.Prelude.{ℕ, ◌≡◌, ◌≢◌, ◌<◌, ◌≤◌, ◌+◌, ◌-◌, ◌&&◌, nat_le, nat_lt, List, [], ◌∷◌, length, find, Bool}
use Rattle.std.specs.Prelude.{true, false, Option, Some, None, is_some, slice_index, if◌then◌else◌}
use Rattle.std.specs.Option.{option_map, unwrap_or}
use Rattle.tandem_base.specs.declared.extent.Extent.{Extent}
use Rattle.tandem_base.specs.declared.names.OpName.{OpName}
use Rattle.tandem_base.specs.Extents.{is_among}
use Rattle.msg_frames.specs.declared.message.Piece.{Piece}
use Rattle.store_buffer.specs.declared.pending.Pending.{Pending}
use Rattle.store_buffer.specs.declared.store.Store.{Store}
use Rattle.store_buffer.specs.Searches.{lowest_below}
use Rattle.store_buffer.specs.Store.{is_open_byte, lowest_open, stays_open}
use Rattle.store_buffer.specs.Stores.{store_of_tag, AllTagged}

-- stores as they retired, the newest first: each has at most eight bytes, and a greater tag than those before it
abbrev pub AreRetired : List Store → Type 0
AreRetired [] = Unit {0}
AreRetired (s ∷ ss) = (length s.entry.piece.bytes ≤ 8) × AllTagged s.tag ss × AreRetired ss

-- the byte at x waits: it is one of the store's, and isn't performed
abbrev pub waits_at : ℕ → Store → Bool
waits_at x s = nat_le s.entry.piece.addr x && is_open_byte s (x - s.entry.piece.addr)

-- the store's byte at x
abbrev pub stored_byte : Store → ℕ → ℕ
stored_byte s x = slice_index s.entry.piece.bytes (x - s.entry.piece.addr)

-- the byte that waits of a store at x
abbrev pub waiting_byte : Option Store → ℕ → Option ℕ
waiting_byte None x = None
waiting_byte (Some s) x = if waits_at x s then Some (stored_byte s x) else None

-- the bytes that wait under each tag, each at its address
abbrev pub waiting_bytes : List Store → ℕ → ℕ → Option ℕ
waiting_bytes ss tag x = waiting_byte (store_of_tag tag ss) x

-- the bytes of a piece wait too, under its tag
pub record BytesWait (waiting later : ℕ → ℕ → Option ℕ) (tag : ℕ) (piece : Piece) : Type 0 where
  pub here : (x : ℕ) → is_among piece.addr (length piece.bytes) x ≡ true
      → later tag x ≡ Some (slice_index piece.bytes (x - piece.addr))
  pub elsewhere : (x : ℕ) → is_among piece.addr (length piece.bytes) x ≡ false → later tag x ≡ None
  pub others : (other x : ℕ) → other ≢ tag → later other x ≡ waiting other x

-- the bytes at `len` addresses from `addr` up wait no longer under the tag, and all else does
pub record BytesLeave (waiting later : ℕ → ℕ → Option ℕ) (tag addr len : ℕ) : Type 0 where
  pub here : (x : ℕ) → is_among addr len x ≡ true → later tag x ≡ None
  pub elsewhere : (x : ℕ) → is_among addr len x ≡ false → later tag x ≡ waiting tag x
  pub others : (other x : ℕ) → other ≢ tag → later other x ≡ waiting other x

-- the same bytes wait
abbrev pub SameBytesWait : (ℕ → ℕ → Option ℕ) → (ℕ → ℕ → Option ℕ) → Type 0
SameBytesWait waiting later = (tag x : ℕ) → later tag x ≡ waiting tag x

-- it is the byte that waits at x under the greatest tag, or none waits there
abbrev pub IsGreatestWaiting : (ℕ → ℕ → Option ℕ) → ℕ → Option Pending → Type 0
IsGreatestWaiting waiting x None = (tag : ℕ) → waiting tag x ≡ None
IsGreatestWaiting waiting x (Some w) =
    (waiting w.tag x ≡ Some w.byte) × ((tag : ℕ) → w.tag < tag → waiting tag x ≡ None)

-- the byte at x of a store of the hart
abbrev pub pending_of : ℕ → ℕ → Store → Pending
pending_of hart x s = record { hart = hart; tag = s.tag; byte = stored_byte s x }

-- the byte at x of the first of the stores at which it waits
abbrev pub pending_in : ℕ → List Store → ℕ → Option Pending
pending_in hart ss x = option_map (pending_of hart x) (find (waits_at x) ss)

-- one of the bytes at `len` addresses from `addr` up waits
abbrev pub waits_among : ℕ → ℕ → Store → Bool
waits_among addr len s = is_some (lowest_below (λ k. waits_at (addr + k) s) len)

-- a byte of the store waits, and one in the extent where one is given
abbrev pub waits_over : Option Extent → Store → Bool
waits_over None s = stays_open s
waits_over (Some e) s = waits_among e.addr e.len s

-- and its tag is below the bound
abbrev pub waits_below : ℕ → Option Extent → Store → Bool
waits_below below over s = nat_lt s.tag below && waits_over over s

-- what waits of a store of the hart is named by its lowest byte that waits
abbrev pub waiting_name : ℕ → Store → OpName
waiting_name hart s = record { hart = hart; tag = s.tag; part = unwrap_or (lowest_open s) 0 }

-- the name of the first of the stores that waits below the bound
abbrev pub waiting_below : ℕ → List Store → ℕ → Option Extent → Option OpName
waiting_below hart ss below over = option_map (waiting_name hart) (find (waits_below below over) ss)

-- of two stores the one of the greater tag
abbrev pub newer_of : Option Store → Option Store → Option Store
newer_of None t = t
newer_of (Some s) None = Some s
newer_of (Some s) (Some t) = if nat_lt t.tag s.tag then Some s else Some t
