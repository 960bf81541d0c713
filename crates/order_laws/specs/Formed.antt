-- When a stream is well-formed: each message fits those before it. The newest message stands first.
use Rattle.std.specs.Prelude.{ℕ, ◌+◌, ◌%◌, ◌<◌, ◌≤◌, ◌≡◌, is_some, List, [], ◌∷◌, Bool, true, false, Some}
use Rattle.std.specs.Prelude.{None}
use Rattle.std.specs.List.{Contains}
use Rattle.msg_frames.specs.declared.message.Head.{Head}
use Rattle.msg_frames.specs.declared.message.LineWrite.{LineWrite}
use Rattle.msg_frames.specs.declared.message.Piece.{Piece}
use Rattle.msg_frames.specs.declared.message.Body.{Body}
use Rattle.msg_frames.specs.declared.message.Body.TheVariants as body
use Rattle.msg_frames.specs.declared.message.Message.{Message}
use Rattle.msg_frames.specs.Frames.{Fits}
use Rattle.elf_image.specs.Images.{Loaded}
use Rattle.rv_step.specs.Steps.{Doing, load, lr, amo}
use Rattle.matching.specs.declared.reports.OpenReport.{OpenReport}
use Rattle.matching.specs.declared.stores.Held.{Held}
use Rattle.matching.specs.declared.stores.Stored.{Stored}
use Rattle.matching.specs.Settings.{is_open, harts_of}
use Rattle.msg_frames.specs.Pieces.{has}
use Rattle.matching.specs.Tags.{last_tag, is_younger, is_early}
use Rattle.matching.specs.Reports.{live, early, counting}
use Rattle.matching.specs.Fates.{waiting, is_fresh}
use Rattle.matching.specs.Runs.{doing_at, bypass_at}
use Rattle.matching.specs.Stores.{retired_stores, store_under}
use Rattle.matching.specs.PartFaults.{is_in_space, is_in_image, is_in_line, is_within, is_aligned, is_whole, fate_at}
use Rattle.msg_frames.specs.Pieces.{byte_written}
use Rattle.matching.specs.PartFaults.{byte_waiting}
use Rattle.matching.specs.RetireFaults.{is_stray, same_read, does_amo}

-- message 1 is an Open, and no later one is; each later one is of a hart of which the Open tells, and its time isn't
-- below that of the message before it
abbrev pub IsInStream : List Message → Message → Type 0
IsInStream [] m = is_open m.body ≡ true
IsInStream (last ∷ before) m =
    (is_open m.body ≡ false) × (m.head.hart < harts_of (last ∷ before)) × (last.head.time ≤ m.head.time)

-- the bytes are some of the plain store s, which retired under this tag; none of them was in an Insert or a plain
-- Bypass before; and where the store is aligned they are all of it
pub record IsNewPart (image : Loaded) (before : List Message) (head : Head) (piece : Piece) : Type 0 where
  pub store : Stored
  pub retired : store_under head.tag (retired_stores image before head.hart) ≡ Some store
  pub within : is_within piece store.piece ≡ true
  pub new : (k : ℕ) → k < 8 → has piece (store.piece.addr + k) ≡ true
      → is_fresh (fate_at before head.hart store k) ≡ true
  pub whole : is_aligned store.piece ≡ true → is_whole piece store.piece ≡ true

-- a Bypass is an early one, the only one of its instruction, or a part of a store
abbrev pub IsFittingBypass : Loaded → List Message → Head → Piece → Bool → Type 0
IsFittingBypass image before head piece true = bypass_at before head ≡ None
IsFittingBypass image before head piece false = IsNewPart image before head piece

-- a Write brings just the bytes that wait in its line
abbrev pub BringsWaiting : List Held → LineWrite → Type 0
BringsWaiting held write =
    (k : ℕ) → k < 64 → byte_waiting held (write.line + k) ≡ byte_written write (write.line + k)

-- each of these bytes of the instruction under tag t has a Read that counts
abbrev pub AreAllRead : List OpenReport → ℕ → ℕ → ℕ → Type 0
AreAllRead reads t addr len = (k : ℕ) → k < len → is_some (counting reads t (addr + k)) ≡ true

-- each byte that an instruction loads has
abbrev pub HasReads : List OpenReport → ℕ → Doing → Type 0
HasReads reads t (load i addr len) = AreAllRead reads t addr len
HasReads reads t (lr i addr len) = AreAllRead reads t addr len
HasReads reads t (amo i addr len) = AreAllRead reads t addr len
HasReads reads t _ = Unit {0}

-- these bytes have the same one
abbrev pub AreReadAtOnce : List OpenReport → ℕ → ℕ → ℕ → Type 0
AreReadAtOnce reads t addr len =
    (k : ℕ) → k < len → same_read (counting reads t addr) (counting reads t (addr + k)) ≡ true

-- the bytes of an aligned load, an LR or an AMO have
abbrev pub HasOneRead : List OpenReport → ℕ → Doing → Type 0
HasOneRead reads t (load i addr len) = addr % len ≡ 0 → AreReadAtOnce reads t addr len
HasOneRead reads t (lr i addr len) = AreReadAtOnce reads t addr len
HasOneRead reads t (amo i addr len) = AreReadAtOnce reads t addr len
HasOneRead reads t _ = Unit {0}

-- the reports of an instruction that retires are there: its tag is above the last retired one; no early Bypass of its
-- hart is of an instruction that is passed over, or of this one where it may have none; its Reads are there; and the
-- Bypass of an AMO
pub record HasReports (image : Loaded) (before : List Message) (head : Head) (doing : Doing) : Type 0 where
  pub younger : is_younger (last_tag before head.hart) head.tag ≡ true
  pub bypasses : (r : OpenReport) → Contains (early before) r → is_stray doing head.hart head.tag r ≡ false
  pub reads : HasReads (live before head.hart) head.tag doing
  pub once : HasOneRead (live before head.hart) head.tag doing
  pub bypass : does_amo doing ≡ true → is_some (bypass_at before head) ≡ true

-- a message fits those before it, by its kind: a Poke comes before its hart's first Retire; a Read is of an instruction
-- that has not retired; an Insert is of a line and a part of a store; and at the End no early Bypass is left
abbrev pub IsFitting : Loaded → List Message → Head → Body → Type 0
IsFitting image before head (body.Open info) = Unit {0}
IsFitting image before head (body.Poke poke) = last_tag before head.hart ≡ None
IsFitting image before head (body.Read piece) =
    (is_younger (last_tag before head.hart) head.tag ≡ true) × (is_in_space piece ≡ true)
IsFitting image before head (body.Insert piece) =
    (is_in_image image piece ≡ true) × (is_in_line piece ≡ true) × IsNewPart image before head piece
IsFitting image before head (body.Write write) = BringsWaiting (waiting before head.hart write.line) write
IsFitting image before head (body.Bypass piece) =
    (is_in_image image piece ≡ true) × IsFittingBypass image before head piece (is_early before head)
IsFitting image before head (body.Retire retire) = HasReports image before head (doing_at image before head.hart)
IsFitting image before head body.Squash = Unit {0}
IsFitting image before head body.End = early before ≡ []

-- the stream is well-formed: each message is, has its place in the stream, and fits those before it
abbrev pub IsWellFormed : Loaded → List Message → Type 0
IsWellFormed image [] = Unit {0}
IsWellFormed image (m ∷ before) =
    IsWellFormed image before × Fits m × IsInStream before m × IsFitting image before m.head m.body
