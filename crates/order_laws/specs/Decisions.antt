-- The first message of a list at which something is decided. In what came before it the newest message stands first;
-- the list itself is in the order in which its messages came.
use Rattle.std.specs.Prelude.{ℕ, ◌≡◌, List, [], ◌∷◌, ◌++◌, length, reverse, option_map, Some, None, if◌then◌else◌}
use Rattle.std.specs.declared.option.Option.{Option}
use Rattle.tandem_base.specs.FirstFault.{◌or_else◌}
use Rattle.msg_frames.specs.declared.message.Message.{Message}
use Rattle.msg_frames.specs.Cut.{is_end}
use Rattle.elf_image.specs.Images.{Loaded}
use Rattle.verdict_report.specs.declared.fault.Fault.{Fault}
use Rattle.matching.specs.Settings.{number_after}
use Rattle.trace_model.specs.Traces.{trace_of}
use Rattle.order_laws.specs.Faults.{message_fault}
use Rattle.order_laws.specs.Limits.{Bounds, Overrun, overrun_of}

-- what is decided at a message: it has this fault; this count is over its bound; or it is the End, and accepts
pub data Decision : Type 0 where
  Offends : Fault → Decision
  Passes : Overrun → Decision
  Accepts : Decision

-- what is decided at a message after these, if anything: its first fault, else the first count that passes its bound
-- with it, else that it is the End
abbrev pub decision_at : Loaded → Bounds → List Message → Message → Option Decision
decision_at image bounds before m =
    option_map Offends (message_fault image before m)
    or_else option_map Passes (overrun_of image bounds (m ∷ before) m.head.hart)
    or_else (if is_end m.body then Some Accepts else None)

-- nothing was decided at any of these messages
abbrev pub IsUndecided : Loaded → Bounds → List Message → Type 0
IsUndecided image bounds [] = Unit {0}
IsUndecided image bounds (m ∷ before) = IsUndecided image bounds before × (decision_at image bounds before m ≡ None)

-- a decision, with the number of its message
pub record Decided : Type 0 where
  pub number : ℕ
  pub decision : Decision

-- the first decision at the messages that come after these, if any
abbrev pub first_decision : Loaded → Bounds → List Message → List Message → Option Decided
first_decision image bounds before [] = None
first_decision image bounds before (m ∷ later) =
    option_map (λ d. record { number = number_after before; decision = d }) (decision_at image bounds before m)
    or_else first_decision image bounds (m ∷ before) later

-- d is decided at one of the messages, and nothing at those before it
pub record IsFirstDecision (image : Loaded) (bounds : Bounds) (messages : List Message) (d : Decided) : Type 0 where
  pub before : List Message
  pub message : Message
  pub later : List Message
  pub whole : messages ≡ reverse before ++ message ∷ later
  pub undecided : IsUndecided image bounds before
  pub number : d.number ≡ number_after before
  pub here : decision_at image bounds before message ≡ Some d.decision

-- how many operations these messages have
abbrev pub operations_of : Loaded → List Message → ℕ
operations_of image messages = length (trace_of image messages).ops
