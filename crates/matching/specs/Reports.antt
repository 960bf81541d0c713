-- The Reads and the early Bypasses that still count. A list of reports has the newest first.
use Rattle.std.specs.Prelude.{ℕ, zero, suc, ◌+◌, ◌-◌, ◌==◌, ◌&&◌, not, nat_lt, List, [], ◌∷◌, ◌++◌, slice_index, Bool}
use Rattle.std.specs.Prelude.{Some, None, if◌then◌else◌}
use Rattle.std.specs.List.{filter, find}
use Rattle.std.specs.declared.option.Option.{Option}
use Rattle.tandem_base.specs.declared.names.Place.{Place}
use Rattle.msg_frames.specs.declared.message.Head.{Head}
use Rattle.msg_frames.specs.declared.message.Piece.{Piece}
use Rattle.msg_frames.specs.declared.message.Body.{Body}
use Rattle.msg_frames.specs.declared.message.Body.TheVariants as body
use Rattle.msg_frames.specs.declared.message.Message.{Message}
use Rattle.matching.specs.declared.reports.OpenReport.{OpenReport}
use Rattle.matching.specs.Settings.{number_after}
use Rattle.msg_frames.specs.Pieces.{has}
use Rattle.matching.specs.Tags.{is_early}

-- the report of a message, which is message n
abbrev pub open_report_of : ℕ → Head → Piece → OpenReport
open_report_of n head piece =
    record { hart = head.hart; tag = head.tag; time = head.time; number = n; piece = piece }

-- the live Reads of hart h, after message n
abbrev pub live_in : ℕ → List OpenReport → Head → Body → ℕ → List OpenReport
live_in n old head (body.Open info) h = old
live_in n old head (body.Poke poke) h = old
live_in n old head (body.Read piece) h = if head.hart == h then open_report_of n head piece ∷ old else old
live_in n old head (body.Insert piece) h = old
live_in n old head (body.Write write) h = old
live_in n old head (body.Bypass piece) h = old
live_in n old head (body.Retire retire) h =
    if head.hart == h then filter (λ (r : OpenReport). nat_lt head.tag r.tag) old else old
live_in n old head body.Squash h =
    if head.hart == h then filter (λ (r : OpenReport). nat_lt r.tag head.tag) old else old
live_in n old head body.End h = old

-- The live Reads of hart h: each from its message on, until a Squash of a tag that isn't above its own, or a Retire of
-- one that isn't below it.
abbrev pub live : List Message → ℕ → List OpenReport
live [] h = []
live (m ∷ before) h = live_in (number_after before) (live before h) m.head m.body h

-- the report is of this hart and this tag
abbrev pub is_report : ℕ → ℕ → OpenReport → Bool
is_report h t r = (r.hart == h) && (r.tag == t)

-- the early Bypasses of all harts, after one more message
abbrev pub early_in : List Message → List OpenReport → Head → Body → List OpenReport
early_in before old head (body.Open info) = old
early_in before old head (body.Poke poke) = old
early_in before old head (body.Read piece) = old
early_in before old head (body.Insert piece) = old
early_in before old head (body.Write write) = old
early_in before old head (body.Bypass piece) =
    if is_early before head then open_report_of (number_after before) head piece ∷ old else old
early_in before old head (body.Retire retire) = filter (λ (r : OpenReport). not (is_report head.hart head.tag r)) old
early_in before old head body.Squash = old
early_in before old head body.End = old

-- the early Bypasses of all harts whose instruction has not retired
abbrev pub early : List Message → List OpenReport
early [] = []
early (m ∷ before) = early_in before (early before) m.head m.body

-- that of an instruction, if it has one
abbrev pub early_of : List OpenReport → ℕ → ℕ → Option OpenReport
early_of rs h t = find (is_report h t) rs

-- the report is of byte x of the instruction under tag t
abbrev pub is_for : ℕ → ℕ → OpenReport → Bool
is_for t x r = (r.tag == t) && has r.piece x

-- the Read that counts for byte x of the instruction under tag t: the latest live one
abbrev pub counting : List OpenReport → ℕ → ℕ → Option OpenReport
counting rs t x = find (is_for t x) rs

-- the place of a report
abbrev pub place_of_report : OpenReport → Place
place_of_report r = record { time = r.time; message = r.number; insert = r.number }

-- the place of a byte that counts from a Read
abbrev pub place_counted : Option OpenReport → Option Place
place_counted None = None
place_counted (Some r) = Some (place_of_report r)

-- the byte at x that a Read brings, 0 where there is none
abbrev pub byte_counted : ℕ → Option OpenReport → ℕ
byte_counted x None = 0
byte_counted x (Some r) = slice_index r.piece.bytes (x - r.piece.addr)

-- the first n bytes that the instruction under tag t loads from an address on
abbrev pub bytes_counted : List OpenReport → ℕ → ℕ → ℕ → List ℕ
bytes_counted rs t addr zero = []
bytes_counted rs t addr (suc n) =
    bytes_counted rs t addr n ++ byte_counted (addr + n) (counting rs t (addr + n)) ∷ []
