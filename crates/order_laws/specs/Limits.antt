-- Counts of what is open, and how far they may go.
use Rattle.std.specs.Prelude.{ℕ, ◌≤◌, ◌≡◌, ◌↔◌, nat_lt, List, [], ◌∷◌, length, Some, None, if◌then◌else◌}
use Rattle.std.specs.declared.option.Option.{Option}
use Rattle.tandem_base.specs.FirstFault.{◌or_else◌}
use Rattle.msg_frames.specs.declared.message.Message.{Message}
use Rattle.elf_image.specs.Images.{Loaded}
use Rattle.verdict_report.specs.declared.verdict.Limit.{Limit}
use Rattle.verdict_report.specs.declared.verdict.Limit.TheVariants as limit
use Rattle.matching.specs.Counts.{reads_of, stores_of}
use Rattle.trace_model.specs.Kept.{kept_of}

-- how far each count may go; None where it may go any far
pub record Bounds : Type 0 where
  pub reads : Option ℕ
  pub stores : Option ℕ
  pub kept : Option ℕ
  pub messages : Option ℕ

-- the bounds where nothing but the number of messages has one
abbrev pub messages_up_to : ℕ → Bounds
messages_up_to n = record { reads = None; stores = None; kept = None; messages = Some n }

-- a count that is over its bound, and of which hart it is
pub record Overrun : Type 0 where
  pub limit : Limit
  pub hart : ℕ
  pub count : ℕ

-- the count, where it is over its bound
abbrev pub over_bound : Limit → Option ℕ → ℕ → ℕ → Option Overrun
over_bound l None hart count = None
over_bound l (Some bound) hart count =
    if nat_lt bound count then Some (record { limit = l; hart = hart; count = count }) else None

-- the first count that is over its bound after these messages, of those of hart h and the number of messages, which is
-- told as of hart 0
abbrev pub overrun_of : Loaded → Bounds → List Message → ℕ → Option Overrun
overrun_of image bounds messages h =
    over_bound limit.Reads bounds.reads h (reads_of messages h)
    or_else over_bound limit.Stores bounds.stores h (stores_of image messages h)
    or_else over_bound limit.Kept bounds.kept h (kept_of image messages h)
    or_else over_bound limit.Messages bounds.messages 0 (length messages)

-- a count isn't over its bound
abbrev pub IsUpTo : Option ℕ → ℕ → Type 0
IsUpTo None count = Unit {0}
IsUpTo (Some bound) count = count ≤ bound

-- after these messages no count of any hart is over its bound, nor is their number
pub record IsInBounds (image : Loaded) (bounds : Bounds) (messages : List Message) : Type 0 where
  pub reads : (h : ℕ) → IsUpTo bounds.reads (reads_of messages h)
  pub stores : (h : ℕ) → IsUpTo bounds.stores (stores_of image messages h)
  pub kept : (h : ℕ) → IsUpTo bounds.kept (kept_of image messages h)
  pub number : IsUpTo bounds.messages (length messages)

-- nor was any after the first one, two and so on of them
abbrev pub StaysInBounds : Loaded → Bounds → List Message → Type 0
StaysInBounds image bounds [] = Unit {0}
StaysInBounds image bounds (m ∷ before) = StaysInBounds image bounds before × IsInBounds image bounds (m ∷ before)

-- after one more message the counts of its own hart tell whether any count is over its bound
abbrev pub OwnHartTells : Type 0
OwnHartTells = (image : Loaded) (bounds : Bounds) (before : List Message) (m : Message) → IsInBounds image bounds before
    → (overrun_of image bounds (m ∷ before) m.head.hart ≡ None) ↔ IsInBounds image bounds (m ∷ before)
