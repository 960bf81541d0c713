-- What is wrong with a Read, an Insert, a Bypass, a Write or a Poke: one definition for each fault.
use Rattle.std.specs.Prelude.{ℕ, ◌+◌, ◌-◌, ◌%◌, ◌^◌, ◌==◌, ◌&&◌, nat_le, not, is_some, List, [], ◌∷◌, length}
use Rattle.std.specs.Prelude.{Bool, Some, None, if◌then◌else◌}
use Rattle.std.specs.declared.option.Option.{Option}
use Rattle.std.specs.Option.{option_or}
use Rattle.msg_frames.specs.declared.message.Piece.{Piece}
use Rattle.msg_frames.specs.declared.message.LineWrite.{LineWrite}
use Rattle.msg_frames.specs.declared.message.Message.{Message}
use Rattle.msg_frames.specs.Pieces.{has, byte_in, byte_written}
use Rattle.elf_image.specs.Images.{Loaded}
use Rattle.rv_step.specs.Plans.{is_held}
use Rattle.tandem_base.specs.FirstFault.{◌or_else◌}
use Rattle.verdict_report.specs.declared.fault.Fault.{Fault}
use Rattle.verdict_report.specs.declared.fault.Fault.TheVariants as fault
use Rattle.matching.specs.declared.reports.OpenReport.{OpenReport}
use Rattle.matching.specs.declared.stores.Fate.{Fate}
use Rattle.matching.specs.declared.stores.Held.{Held}
use Rattle.matching.specs.declared.stores.Stored.{Stored}
use Rattle.matching.specs.Searches.{first_below}
use Rattle.matching.specs.Pieces.{line_start, first_other}
use Rattle.matching.specs.Fates.{fate, is_fresh}

-- a Poke comes before the hart's first Retire
abbrev pub poke_fault_of : Option ℕ → Option Fault
poke_fault_of None = None
poke_fault_of (Some last) = Some fault.LatePoke

-- a Read's tag is above the last retired one
abbrev pub late_fault_of : Option ℕ → ℕ → Option Fault
late_fault_of None tag = None
late_fault_of (Some last) tag = if nat_le tag last then Some (fault.LateTag last) else None

-- ---- ranges

-- the bytes don't pass 2^64
abbrev pub is_in_space : Piece → Bool
is_in_space piece = nat_le (piece.addr + length piece.bytes) (2 ^ 64)

-- none of the bytes is outside the image, and they don't pass 2^64
abbrev pub is_in_image : Loaded → Piece → Bool
is_in_image image piece = is_held image piece.addr (length piece.bytes)

-- the bytes are of one line
abbrev pub is_in_line : Piece → Bool
is_in_line piece = line_start piece.addr == line_start (piece.addr + length piece.bytes - 1)

-- bytes that pass no border
abbrev pub range_fault_of : Bool → Option Fault
range_fault_of fits = if fits then None else Some fault.BadRange

-- a Read may be outside the image, on a way that the hart doesn't take
abbrev pub read_range_fault : Piece → Option Fault
read_range_fault piece = range_fault_of (is_in_space piece)

-- an Insert is in the image and in a line
abbrev pub insert_range_fault : Loaded → Piece → Option Fault
insert_range_fault image piece = range_fault_of (is_in_image image piece && is_in_line piece)

-- a Bypass is in the image
abbrev pub bypass_range_fault : Loaded → Piece → Option Fault
bypass_range_fault image piece = range_fault_of (is_in_image image piece)

-- ---- parts of a retired store: an Insert or a plain Bypass

-- all bytes of a piece are among those of another
abbrev pub is_within : Piece → Piece → Bool
is_within piece whole =
    nat_le whole.addr piece.addr
    && nat_le (piece.addr + length piece.bytes) (whole.addr + length whole.bytes)

-- byte k of a store is one of the piece, and was in an Insert or a plain Bypass; the fates are those of the store's
-- bytes
abbrev pub is_again : (ℕ → Fate) → Piece → Stored → ℕ → Bool
is_again fates piece s k = has piece (s.piece.addr + k) && not (is_fresh (fates k))

-- a part of a store that retired, all whose bytes are of this store and new; a store has at most eight bytes
unfoldable pub is_known : (ℕ → Fate) → Piece → Stored → Bool
is_known fates piece s = is_within piece s.piece && not (is_some (first_below (is_again fates piece s) 8))

-- no retired plain store has this tag and all these bytes, or one of them was in an Insert or a plain Bypass
abbrev pub unknown_fault_of : (ℕ → Fate) → Piece → Stored → Option Fault
unknown_fault_of fates piece s = if is_known fates piece s then None else Some fault.UnknownStore

-- the byte that differs
abbrev pub data_fault_in : Piece → Stored → Option ℕ → Option Fault
data_fault_in piece s None = None
data_fault_in piece s (Some k) =
    Some (fault.StoreData (piece.addr + k) (byte_in s.piece (piece.addr + k)) (byte_in piece (piece.addr + k)))

-- the first byte that isn't the store's
abbrev pub data_fault_of : Piece → Stored → Option Fault
data_fault_of piece s =
    data_fault_in piece s (first_other (byte_in s.piece) (byte_in piece) piece.addr (length piece.bytes))

-- the address is a multiple of the length, which is 1, 2, 4 or 8
abbrev pub is_aligned : Piece → Bool
is_aligned piece = piece.addr % length piece.bytes == 0

-- the same bytes by their addresses
abbrev pub is_whole : Piece → Piece → Bool
is_whole piece whole = (piece.addr == whole.addr) && (length piece.bytes == length whole.bytes)

-- an aligned store is performed whole
abbrev pub torn_store_fault_of : Piece → Stored → Option Fault
torn_store_fault_of piece s = if is_aligned s.piece && not (is_whole piece s.piece) then Some fault.TornStore else None

-- the faults of a part of this store, in their order; fates are those of the store's bytes
abbrev pub part_fault_in : (Stored → ℕ → Fate) → Piece → Option Stored → Option Fault
part_fault_in fates piece None = Some fault.UnknownStore
part_fault_in fates piece (Some s) =
    unknown_fault_of (fates s) piece s or_else data_fault_of piece s or_else torn_store_fault_of piece s

-- the fate of byte k of a store of hart h, after these messages
abbrev pub fate_at : List Message → ℕ → Stored → ℕ → Fate
fate_at before h s k = fate before h s.tag (s.piece.addr + k)

-- ---- an early Bypass

-- an instruction has at most one early Bypass
abbrev pub second_bypass_fault : ℕ → Option OpenReport → Option Fault
second_bypass_fault tag None = None
second_bypass_fault tag (Some r) = Some (fault.StrayBypass tag)

-- ---- a Write

-- the byte that waits at x: that of the latest Insert that has one
abbrev pub byte_waiting : List Held → ℕ → Option ℕ
byte_waiting [] x = None
byte_waiting (e ∷ es) x = option_or (byte_in e.piece x) (byte_waiting es x)

-- the byte that differs
abbrev pub merge_fault_in : List Held → LineWrite → Option ℕ → Option Fault
merge_fault_in held write None = None
merge_fault_in held write (Some k) =
    Some (fault.MergeMismatch (write.line + k) (byte_waiting held (write.line + k))
    (byte_written write (write.line + k)))

-- how far behind its first address is the first of the 64 bytes of a line that isn't what waits for it
unfoldable pub first_unmerged : List Held → LineWrite → Option ℕ
first_unmerged held write = first_other (byte_waiting held) (byte_written write) write.line 64

-- a Write brings just the bytes that wait in its line
abbrev pub merge_fault_of : List Held → LineWrite → Option Fault
merge_fault_of held write = merge_fault_in held write (first_unmerged held write)
