-- When every retirement is the step of the model, and every store that retired is written. The newest message stands
-- first.
use Rattle.std.specs.Prelude.{ℕ, ◌+◌, ◌<◌, ◌≡◌, is_some, List, [], ◌∷◌, length, Bool, true, false, Some}
use Rattle.std.specs.List.{Contains}
use Rattle.std.specs.declared.option.Option.{Option}
use Rattle.msg_frames.specs.declared.message.Head.{Head}
use Rattle.msg_frames.specs.declared.message.Piece.{Piece}
use Rattle.msg_frames.specs.declared.message.Retire.{Retire}
use Rattle.msg_frames.specs.declared.message.Body.{Body}
use Rattle.msg_frames.specs.declared.message.Body.TheVariants as body
use Rattle.msg_frames.specs.declared.message.Message.{Message}
use Rattle.elf_image.specs.Images.{Loaded}
use Rattle.rv_step.specs.Steps.{Doing, sc, amo}
use Rattle.matching.specs.declared.reports.OpenReport.{OpenReport}
use Rattle.matching.specs.declared.run.Pair.{Pair}
use Rattle.matching.specs.declared.stores.Stored.{Stored}
use Rattle.matching.specs.Compares.{meets}
use Rattle.matching.specs.Fates.{is_done}
use Rattle.matching.specs.PartFaults.{fate_at}
use Rattle.msg_frames.specs.Pieces.{byte_in}
use Rattle.matching.specs.RetireFaults.{rd_want_of, is_in_pair}
use Rattle.matching.specs.Runs.{run_of, plan_at, doing_at, effect_at, bypass_at}
use Rattle.matching.specs.Stores.{retired_stores, store_under}
use Rattle.matching.specs.Tags.{is_early}

-- ---- the step

-- two pieces have the same bytes at these addresses
abbrev pub AgreeOver : ℕ → ℕ → Piece → Piece → Type 0
AgreeOver addr len want got = (k : ℕ) → k < len → byte_in want (addr + k) ≡ byte_in got (addr + k)

-- the bytes that an instruction stores are those of its Bypass, where there are both
abbrev pub AreBypassed : ℕ → ℕ → Option Piece → Option OpenReport → Type 0
AreBypassed addr len (Some want) (Some bypass) = AgreeOver addr len want bypass.piece
AreBypassed addr len _ _ = Unit {0}

-- for an AMO or SC
abbrev pub StoresBypassed : Doing → Option Piece → Option OpenReport → Type 0
StoresBypassed (sc i addr len) want bypass = AreBypassed addr len want bypass
StoresBypassed (amo i addr len) want bypass = AreBypassed addr len want bypass
StoresBypassed _ want bypass = Unit {0}

-- a Retire reports what the step of the model gives: pc, word, trap, next pc, register, CSRs, and the bytes that an AMO
-- or SC stores
pub record RetiresStep (image : Loaded) (before : List Message) (head : Head) (retire : Retire) : Type 0 where
  pub pc : (run_of image before head.hart).hart.pc ≡ retire.pc
  pub word : (plan_at image before head.hart).word ≡ retire.word
  pub trap : (effect_at image before head retire).trap ≡ retire.trap
  pub next : (effect_at image before head retire).next ≡ retire.next
  pub rd : meets (rd_want_of (doing_at image before head.hart) (is_some (bypass_at before head))
      (run_of image before head.hart).clocks (effect_at image before head retire).rd) retire.rd ≡ true
  pub csrs : (effect_at image before head retire).csrs ≡ retire.csrs
  pub stored : StoresBypassed (doing_at image before head.hart) (effect_at image before head retire).store
      (bypass_at before head)

-- a part of a store that retired has the bytes of the step that stored
abbrev pub BringsStored : Loaded → List Message → Head → Piece → Type 0
BringsStored image before head piece =
    (s : Stored) → store_under head.tag (retired_stores image before head.hart) ≡ Some s
    → AgreeOver piece.addr (length piece.bytes) s.piece piece

-- an early Bypass is compared when its instruction retires, and a plain one is a part of a store
abbrev pub BypassSteps : Loaded → List Message → Head → Piece → Bool → Type 0
BypassSteps image before head piece true = Unit {0}
BypassSteps image before head piece false = BringsStored image before head piece

-- a message reports the step
abbrev pub ReportsStep : Loaded → List Message → Head → Body → Type 0
ReportsStep image before head (body.Retire retire) = RetiresStep image before head retire
ReportsStep image before head (body.Insert piece) = BringsStored image before head piece
ReportsStep image before head (body.Bypass piece) = BypassSteps image before head piece (is_early before head)
ReportsStep image before head _ = Unit {0}

-- every retirement is the step
abbrev pub AreSteps : Loaded → List Message → Type 0
AreSteps image [] = Unit {0}
AreSteps image (m ∷ before) = AreSteps image before × ReportsStep image before m.head m.body

-- ---- pairs

-- an SC that stored has an LR, and its bytes are among those of the LR
abbrev pub ScIsPaired : Option Pair → Bool → Doing → Type 0
ScIsPaired pair stored (sc i addr len) = stored ≡ true → is_in_pair addr len pair ≡ true
ScIsPaired pair stored _ = Unit {0}

-- a message retires no successful SC without one
abbrev pub IsPairedAt : Loaded → List Message → Head → Body → Type 0
IsPairedAt image before head (body.Retire retire) = ScIsPaired (run_of image before head.hart).pair
    (is_some (bypass_at before head)) (doing_at image before head.hart)
IsPairedAt image before head _ = Unit {0}

-- every successful SC has its LR
abbrev pub ArePaired : Loaded → List Message → Type 0
ArePaired image [] = Unit {0}
ArePaired image (m ∷ before) = ArePaired image before × IsPairedAt image before m.head m.body

-- ---- stores

-- each byte of each plain store that retired was performed
abbrev pub AreWritten : Loaded → List Message → Type 0
AreWritten image messages = (h : ℕ) (s : Stored) (k : ℕ) → Contains (retired_stores image messages h) s
    → k < length s.piece.bytes → is_done (fate_at messages h s k) ≡ true
