-- What of an LR and of the capture of an SC shows that the two aren't atomic.
use Rattle.std.specs.Prelude.{ℕ, ◌+◌, ◌-◌, ◌<◌, ◌≡◌, ◌==◌, ◌&&◌, ◌||◌, not, Bool, true, false, is_none, is_some}
use Rattle.std.specs.Prelude.{Option, None, Some, slice_index_or, if◌then◌else◌}
use Rattle.tandem_base.specs.declared.extent.Extent.{Extent}
use Rattle.tandem_base.specs.declared.names.Origin.{Origin}
use Rattle.tandem_base.specs.declared.names.Position.{Position}
use Rattle.tandem_base.specs.Extents.{is_among}
use Rattle.tandem_base.specs.Places.{comes_before}
use Rattle.byte_memory.specs.declared.capture.Foreign.{Foreign}
use Rattle.byte_memory.specs.declared.capture.StoreCapture.{StoreCapture}
use Rattle.byte_memory.specs.declared.writer.Writer.{Writer}
use Rattle.window_laws.specs.declared.source.ByteSource.{ByteSource}
use Rattle.amo_pairing.specs.declared.reservation.Breach.{Breach}
use Rattle.amo_pairing.specs.declared.reservation.Reservation.{Reservation}
use Rattle.amo_pairing.specs.declared.sc.Sc.{Sc}
use Rattle.amo_pairing.specs.declared.sc.Sc.TheVariants as sc
use Rattle.amo_pairing.specs.Sources.{source_at_byte}

-- the first and the last byte of an extent, and so all of it, are among those of another
abbrev pub lies_in : Extent → Extent → Bool
lies_in inner outer =
    is_among outer.addr outer.len inner.addr && is_among outer.addr outer.len (inner.addr + (inner.len - 1))

-- of the last writer of a byte, and the last one of another hart than its, the last one of another hart than h
abbrev pub last_of_others : ℕ → Option Writer → Option Writer → Option Writer
last_of_others h None other = None
last_of_others h (Some last) other = if last.hart == h then other else Some last

-- the last writer of another hart than h of the byte at x, as a capture has it
abbrev pub foreign_seen : StoreCapture → ℕ → ℕ → Option Writer
foreign_seen seen h x =
    last_of_others h (slice_index_or seen.seen.last (x - seen.seen.base) None)
    (slice_index_or seen.other (x - seen.seen.base) None)

-- there is a place, and it comes before another
abbrev pub was_before : Option Position → Position → Bool
was_before None place = false
was_before (Some p) place = comes_before p place

-- a source is a store that wasn't performed before the place
abbrev pub is_late_source : ByteSource → Position → Bool
is_late_source s place = is_some s.writer && not (was_before s.place place)

-- a place comes after that of a source; the initial value comes before everything
abbrev pub comes_after_source : ByteSource → Position → Bool
comes_after_source s place = is_none s.writer || was_before s.place place

-- the hart and tag of a writer
abbrev pub origin_of_writer : Writer → Origin
origin_of_writer w = record { hart = w.hart; tag = w.tag }

-- the hart and tag of a writer that comes after a source
abbrev pub writer_after : ByteSource → Option Writer → Option Origin
writer_after s None = None
writer_after s (Some w) = if comes_after_source s w.place then Some (origin_of_writer w) else None

-- the store that breaks the pair at a byte, from its source, the place of the SC, and the last store of another hart
-- before that: the source where it is late, else that store where it comes after the source
abbrev pub store_blamed : ByteSource → Position → Option Writer → Option Origin
store_blamed s place foreign = if is_late_source s place then s.writer else writer_after s foreign

-- the same for byte k of an LR of hart h
abbrev pub blamed_at : Reservation → ℕ → StoreCapture → ℕ → Option Origin
blamed_at r h seen k =
    store_blamed (source_at_byte r k) seen.seen.place (foreign_seen seen h (r.extent.addr + k))

-- no byte of an LR of hart h shows a breach
abbrev pub NoneBlamed : Reservation → ℕ → StoreCapture → Type 0
NoneBlamed r h seen = (k : ℕ) → k < r.extent.len → blamed_at r h seen k ≡ None

-- a breach is at the lowest byte of the LR that shows one
pub record IsFirstBlamed (r : Reservation) (h : ℕ) (seen : StoreCapture) (b : Breach) : Type 0 where
  pub inside : b.byte < r.extent.len
  pub here : b.at ≡ r.extent.addr + b.byte
  pub blamed : blamed_at r h seen b.byte ≡ Some b.store
  pub first : (j : ℕ) → j < b.byte → blamed_at r h seen j ≡ None

-- it is the first that is found, or none is there
abbrev pub IsFirstBreach : Reservation → ℕ → StoreCapture → Option Breach → Type 0
IsFirstBreach r h seen None = NoneBlamed r h seen
IsFirstBreach r h seen (Some b) = IsFirstBlamed r h seen b

-- the answer by the block: the last store of another hart to it, where that comes after the LR
abbrev pub block_answer : Position → Option Foreign → Sc
block_answer place None = sc.Fine
block_answer place (Some f) =
    if comes_before place f.writer.place then sc.Atomicity f.at (origin_of_writer f.writer) else sc.Fine

-- the answer by the breach that was found, else by the block
abbrev pub answer_by : Option Breach → Sc → Sc
answer_by None block = block
answer_by (Some b) block = sc.Atomicity b.at b.store

-- the answer by the first breach at a byte, else by the block
abbrev pub IsByBreach : Reservation → ℕ → StoreCapture → Sc → Type 0
IsByBreach r h seen answer = (found : Option Breach) × IsFirstBreach r h seen found
    × (answer ≡ answer_by found (block_answer r.place seen.foreign))

-- the same where the bytes of the SC are among those of the LR
abbrev pub IsScJudgedIn : Bool → Reservation → ℕ → StoreCapture → Sc → Type 0
IsScJudgedIn false r h seen answer = answer ≡ sc.Outside
IsScJudgedIn true r h seen answer = IsByBreach r h seen answer

-- the answer to an SC of hart h whose bytes are those of an extent, where this LR is open
abbrev pub IsScJudged : Reservation → ℕ → Extent → StoreCapture → Sc → Type 0
IsScJudged r h extent seen answer = IsScJudgedIn (lies_in extent r.extent) r h seen answer

-- and where none may be open
abbrev pub IsAnswered : Option Reservation → ℕ → Extent → StoreCapture → Sc → Type 0
IsAnswered None h extent seen answer = answer ≡ sc.NoPair
IsAnswered (Some r) h extent seen answer = IsScJudged r h extent seen answer
