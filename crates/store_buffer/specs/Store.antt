-- A retired store, and an Insert or a Bypass of some of its bytes.
use Rattle.std.specs.Prelude.{ℕ, ◌≢◌, ◌<◌, ◌+◌, ◌-◌, ◌%◌, ◌==◌, ◌&&◌, nat_le, nat_lt, not, [], ◌∷◌, length, Bool}
use Rattle.std.specs.Prelude.{true, false, Option, Some, None, is_some, slice_index, slice_index_or, if◌then◌else◌}
use Rattle.msg_frames.specs.declared.message.Piece.{Piece}
use Rattle.tandem_base.specs.Extents as Extents
use Rattle.store_buffer.specs.declared.store.ByteState.{ByteState}
use Rattle.store_buffer.specs.declared.store.ByteState.TheVariants.{Untouched, Inserted, Performed}
use Rattle.store_buffer.specs.declared.store.Store.{Store}
use Rattle.store_buffer.specs.declared.store.StoreMarks.{StoreMarks}
use Rattle.store_buffer.specs.declared.parts.Taken.{Taken}
use Rattle.store_buffer.specs.declared.parts.Taken.TheVariants.{Yes, Unknown, Wrong, Torn}
use Rattle.store_buffer.specs.Searches.{lowest_below}

-- the byte is performed
abbrev pub is_done_byte : ByteState → Bool
is_done_byte Untouched = false
is_done_byte Inserted = false
is_done_byte Performed = true

-- the byte was in no Insert and in no Bypass
abbrev pub is_untouched : ByteState → Bool
is_untouched Untouched = true
is_untouched Inserted = false
is_untouched Performed = false

-- the state of byte k of a store
abbrev pub state_of : Store → ℕ → ByteState
state_of s k = slice_index_or s.states k Untouched

-- the store of these states, for each of eight bytes
abbrev pub with_each : (ℕ → ByteState) → Store → Store
with_each f s = record s {
  states = f 0 ∷ f 1 ∷ f 2 ∷ f 3 ∷ f 4 ∷ f 5 ∷ f 6 ∷ f 7 ∷ [];
}

-- a store of which no byte was in a message
abbrev pub untouched_store : ℕ → Piece → StoreMarks → Store
untouched_store tag piece marks = record {
  tag = tag;
  entry = record { piece = piece; marks = marks };
  states = Untouched ∷ Untouched ∷ Untouched ∷ Untouched ∷ Untouched ∷ Untouched ∷ Untouched ∷ Untouched ∷ [];
}

-- the state of byte k, once the bytes at `len` addresses from `addr` up have another
abbrev pub state_after : ByteState → ℕ → ℕ → Store → ℕ → ByteState
state_after to addr len s k = if Extents.is_among addr len (s.entry.piece.addr + k) then to else state_of s k

-- the store, once the bytes at these addresses have another state
abbrev pub with_states : ByteState → ℕ → ℕ → Store → Store
with_states to addr len s = with_each (state_after to addr len s) s

-- byte k of the store isn't performed
abbrev pub is_open_byte : Store → ℕ → Bool
is_open_byte s k = nat_lt k (length s.entry.piece.bytes) && not (is_done_byte (state_of s k))

-- its lowest byte that isn't performed, of at most eight
unfoldable pub lowest_open : Store → Option ℕ
lowest_open s = lowest_below (is_open_byte s) 8

-- the store has a byte that isn't performed
abbrev pub stays_open : Store → Bool
stays_open s = is_some (lowest_open s)

-- one of its bytes isn't performed
pub record HasOpenByte (s : Store) : Type 0 where
  pub k : ℕ
  pub there : k < length s.entry.piece.bytes
  pub unperformed : state_of s k ≢ Performed

-- all bytes of a piece are among the store's
abbrev pub covers : Store → Piece → Bool
covers s piece =
    nat_le s.entry.piece.addr piece.addr
    && nat_le (piece.addr + length piece.bytes) (s.entry.piece.addr + length s.entry.piece.bytes)

-- byte k of the store is one of the piece, and was in an Insert or a Bypass
abbrev pub is_byte_again : Piece → Store → ℕ → Bool
is_byte_again piece s k =
    Extents.is_among piece.addr (length piece.bytes) (s.entry.piece.addr + k) && not (is_untouched (state_of s k))

-- all bytes of a piece are among the store's, and none was in an Insert or a Bypass
unfoldable pub is_new_part : Store → Piece → Bool
is_new_part s piece = covers s piece && not (is_some (lowest_below (is_byte_again piece s) 8))

-- the store's byte where byte k of a piece is
abbrev pub byte_below : Store → Piece → ℕ → ℕ
byte_below s piece k = slice_index s.entry.piece.bytes (piece.addr - s.entry.piece.addr + k)

-- byte k of a piece isn't the store's
abbrev pub differs : Store → Piece → ℕ → Bool
differs s piece k = not (byte_below s piece k == slice_index piece.bytes k)

-- the lowest byte of a piece that isn't the store's
unfoldable pub lowest_wrong_byte : Store → Piece → Option ℕ
lowest_wrong_byte s piece = lowest_below (differs s piece) (length piece.bytes)

-- the store is aligned, as its address is a multiple of its length, which is 1, 2, 4 or 8, and the piece isn't all of
-- it
abbrev pub is_torn_by : Store → Piece → Bool
is_torn_by s piece =
    (s.entry.piece.addr % length s.entry.piece.bytes == 0)
    && not ((piece.addr == s.entry.piece.addr) && (length piece.bytes == length s.entry.piece.bytes))

-- what is said of a piece whose bytes are the store's and new, and of which this is the lowest wrong one
abbrev pub answer_for_bytes : Store → Piece → Option ℕ → Taken
answer_for_bytes s piece (Some k) = Wrong (piece.addr + k) (byte_below s piece k) (slice_index piece.bytes k)
answer_for_bytes s piece None = if is_torn_by s piece then Torn else Yes

-- What is said of a piece for the store of a tag. There has to be one that has the bytes, none of which was in an
-- Insert or a Bypass; then each byte has to be the store's; then an aligned store has to be taken whole.
abbrev pub answer_for : Option Store → Piece → Taken
answer_for None piece = Unknown
answer_for (Some s) piece =
    if is_new_part s piece then answer_for_bytes s piece (lowest_wrong_byte s piece) else Unknown
