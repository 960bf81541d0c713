-- What a list of messages without faults leaves of its newest message.
use Rattle.std.proofs.Common.{ℕ, ◌+◌, ◌%◌, ◌<◌, ◌≤◌, ◌≡◌, ◌⊎◌, true, false, List, [], ◌∷◌, length, Option, Some}
use Rattle.std.proofs.Common.{None}
use Rattle.msg_frames.specs.declared.message.Head.{Head}
use Rattle.msg_frames.specs.declared.message.Piece.{Piece}
use Rattle.msg_frames.specs.declared.message.Retire.{Retire}
use Rattle.msg_frames.specs.declared.message.Body.{Body}
use Rattle.msg_frames.specs.declared.message.Body.TheVariants as body
use Rattle.msg_frames.specs.declared.message.Message.{Message}
use Rattle.elf_image.specs.Images.{Loaded}
use Rattle.rv_step.specs.Steps.{Doing, trap, plain, counter, load, store, lr, sc, amo}
use Rattle.rv_decode.specs.Kinds.{is_load, is_store, is_lr, is_sc, is_amo}
use Rattle.rv_step.specs.Promises.{is_plain, reads_counter}
use Rattle.matching.specs.declared.run.Pair.{Pair}
use Rattle.matching.specs.declared.reports.OpenReport.{OpenReport}
use Rattle.matching.specs.Settings.{last_time}
use Rattle.msg_frames.specs.Pieces.{has}
use Rattle.matching.specs.Tags.{is_early, is_younger, last_tag}
use Rattle.matching.specs.Reports.{is_report, live, early, counting}
use Rattle.matching.specs.Runs.{run_of, doing_at}
use Rattle.trace_model.specs.Traces.{stored_at}
use Rattle.trace_model.proofs.Fresh.{IsFresh, IsInLine}
use Rattle.trace_model.specs.Extents.{is_extent}
use Rattle.trace_model.specs.Groups.{Access}
use Rattle.trace_model.specs.Entries.{Stores, Entry}
use Rattle.matching.specs.Reports.{early_of}
use Rattle.trace_model.specs.Traces.{entries}
use Rattle.trace_model.proofs.Lists.{In}

-- ---- pieces

-- the entry of the store that an Insert or a plain Bypass is of
pub record IsKnown (es : List Entry) (head : Head) (piece : Piece) : Type 0 where
  pub entry : Entry
  pub access : Access
  pub there : In entry es
  pub stores : entry.memory ≡ Stores access
  pub hart : access.hart ≡ head.hart
  pub tag : access.tag ≡ head.tag
  pub inside : (x : ℕ) → has piece x ≡ true → (access.extent.addr ≤ x) × (x < access.extent.addr + access.extent.len)
  pub some : (x : ℕ) × (has piece x ≡ true)

-- an Insert: its bytes are of a known store, were in no message before, and lie in one line
pub record SuitsInsert (image : Loaded) (before : List Message) (head : Head) (piece : Piece) : Type 0 where
  pub fresh : IsFresh before head piece
  pub line : IsInLine piece
  pub known : IsKnown (entries image before) head piece

-- a plain Bypass: the same, but for the line
pub record SuitsPlain (image : Loaded) (before : List Message) (head : Head) (piece : Piece) : Type 0 where
  pub fresh : IsFresh before head piece
  pub known : IsKnown (entries image before) head piece

-- no Bypass of that instruction is early
abbrev pub HasNone : List OpenReport → Head → Type 0
HasNone early head = (r : OpenReport) → In r early → is_report head.hart head.tag r ≡ false

-- an early Bypass: it is an access, and the first of its instruction
pub record SuitsEarly (before : List Message) (head : Head) (piece : Piece) : Type 0 where
  pub sized : is_extent piece.addr (length piece.bytes) ≡ true
  pub first : HasNone (early before) head

-- ---- Retires

-- each byte has a Read that counts
abbrev pub IsCounted : List OpenReport → ℕ → ℕ → ℕ → Type 0
IsCounted live t addr len = (k : ℕ) → k < len → (r : OpenReport) × (counting live t (addr + k) ≡ Some r)

-- all bytes have one
abbrev pub IsOneRead : List OpenReport → ℕ → ℕ → ℕ → Type 0
IsOneRead live t addr len = (k : ℕ) → k < len → counting live t (addr + k) ≡ counting live t (addr + 0)

-- the Bypass is over just these bytes
abbrev pub IsOver : ℕ → ℕ → OpenReport → Type 0
IsOver addr len r = (r.piece.addr ≡ addr) × (length r.piece.bytes ≡ len)

pub record SuitsLoad (live early : List OpenReport) (head : Head) (addr len : ℕ) : Type 0 where
  pub sized : is_extent addr len ≡ true
  pub none : HasNone early head
  pub counted : IsCounted live head.tag addr len

pub record SuitsLr (live early : List OpenReport) (head : Head) (addr len : ℕ) : Type 0 where
  pub sized : is_extent addr len ≡ true
  pub none : HasNone early head
  pub counted : IsCounted live head.tag addr len
  pub one : IsOneRead live head.tag addr len
  pub aligned : addr % len ≡ 0
  pub width : (len ≡ 4) ⊎ (len ≡ 8)

pub record SuitsStore (early : List OpenReport) (head : Head) (put : List ℕ) (addr len : ℕ) : Type 0 where
  pub sized : is_extent addr len ≡ true
  pub none : HasNone early head
  pub stored : length put ≡ len

-- the early Bypass of an instruction is over just its bytes
pub record HasOver (early : List OpenReport) (head : Head) (addr len : ℕ) : Type 0 where
  pub report : OpenReport
  pub is : early_of early head.hart head.tag ≡ Some report
  pub over : IsOver addr len report

-- the bytes of the pair have all of these
pub record IsInPair (pair : Option Pair) (addr len : ℕ) : Type 0 where
  pub lr : Pair
  pub is : pair ≡ Some lr
  pub first : lr.addr ≤ addr
  pub last : addr + len ≤ lr.addr + lr.len

-- an SC that succeeds has its Bypass and its pair
pub record SuitsSc (early : List OpenReport) (pair : Option Pair) (head : Head) (addr len : ℕ) : Type 0 where
  pub bypass : HasOver early head addr len
  pub paired : IsInPair pair addr len

-- what an instruction is to do suits what was reported
abbrev pub SuitsDoing : List OpenReport → List OpenReport → Option Pair → Head → List ℕ → Doing → Type 0
SuitsDoing live early pair head put (trap cause value) = HasNone early head
SuitsDoing live early pair head put (plain insn) = HasNone early head × (is_plain insn ≡ true)
SuitsDoing live early pair head put (counter insn) = HasNone early head × (reads_counter insn ≡ true)
SuitsDoing live early pair head put (load insn addr len) = SuitsLoad live early head addr len × (is_load insn ≡ true)
SuitsDoing live early pair head put (store insn addr len) = SuitsStore early head put addr len × (is_store insn ≡ true)
SuitsDoing live early pair head put (lr insn addr len) = SuitsLr live early head addr len × (is_lr insn ≡ true)
SuitsDoing live early pair head put (sc insn addr len) =
    ((early_of early head.hart head.tag ≡ None) ⊎ SuitsSc early pair head addr len) × (is_sc insn ≡ true)
    × (is_extent addr len ≡ true)
SuitsDoing live early pair head put (amo insn addr len) =
    HasOver early head addr len × (is_amo insn ≡ true) × (is_extent addr len ≡ true)

-- a Retire: its tag is above the last one of its hart, and not above those of its early Bypasses
pub record SuitsRetire (image : Loaded) (before : List Message) (head : Head) (retire : Retire) : Type 0 where
  pub younger : is_younger (last_tag before head.hart) head.tag ≡ true
  pub older : (r : OpenReport) → In r (early before) → r.hart ≡ head.hart → head.tag ≤ r.tag
  pub doing : SuitsDoing (live before head.hart) (early before) (run_of image before head.hart).pair head
      (stored_at image before head retire) (doing_at image before head.hart)

-- ---- lists

-- what is left of a message, by its kind
abbrev pub SuitsBody : Loaded → List Message → Head → Body → Type 0
SuitsBody image before head (body.Open info) = Unit {0}
SuitsBody image before head (body.Poke poke) = Unit {0}
SuitsBody image before head (body.Read piece) = Unit {0}
SuitsBody image before head (body.Insert piece) = SuitsInsert image before head piece
SuitsBody image before head (body.Write write) = Unit {0}
SuitsBody image before head (body.Bypass piece) =
    (is_early before head ≡ true → SuitsEarly before head piece)
    × (is_early before head ≡ false → SuitsPlain image before head piece)
SuitsBody image before head (body.Retire retire) = SuitsRetire image before head retire
SuitsBody image before head body.Squash = Unit {0}
SuitsBody image before head body.End = Unit {0}

-- time doesn't fall, and each message suits those before it
abbrev pub Suited : Loaded → List Message → Type 0
Suited image [] = Unit {0}
Suited image (m ∷ before) = Suited image before × (last_time before ≤ m.head.time) × SuitsBody image before m.head
    m.body
