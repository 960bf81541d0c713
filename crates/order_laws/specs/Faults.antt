-- The first fault of a message after those before it, those of memory order included. A list of messages has the newest
-- first.
use Rattle.std.specs.Prelude.{◌≡◌, List, [], ◌∷◌, Some, None}
use Rattle.std.specs.declared.option.Option.{Option}
use Rattle.tandem_base.specs.FirstFault.{◌or_else◌}
use Rattle.msg_frames.specs.declared.message.Message.{Message}
use Rattle.msg_frames.specs.Frames.{Fits}
use Rattle.elf_image.specs.Images.{Loaded, initial_byte}
use Rattle.verdict_report.specs.declared.fault.Fault.{Fault}
use Rattle.verdict_report.specs.declared.fault.Fault.TheVariants as fault
use Rattle.rvwmo_model.specs.declared.answers.Last.{Last}
use Rattle.rvwmo_model.specs.declared.answers.Last.TheVariants as last
use Rattle.rvwmo_model.specs.LastAnswer.{newest_answer}
use Rattle.matching.specs.Matching.{match_fault}
use Rattle.trace_model.specs.Traces.{trace_of}
use Rattle.order_laws.specs.Retired.{retired_tag}

-- the newest step of the trace, after one more message: the instruction that it retires, if it retires one, has its
-- values and its pair asked, and the whole trace its order
abbrev pub last_of : Loaded → List Message → Message → Last
last_of image before m =
    newest_answer (initial_byte image) (trace_of image (m ∷ before)) m.head.hart (retired_tag m.head m.body)

-- what stands at the newest step, as a fault
abbrev pub order_fault_of : Last → Option Fault
order_fault_of last.Fine = None
order_fault_of (last.Value x want got) = Some (fault.LoadValue x (Some want) (Some got))
order_fault_of (last.Order rule first second) = Some (fault.Order rule first second)
order_fault_of (last.Atomicity x store) = Some (fault.Atomicity x store)

-- the first fault of memory order at a message
abbrev pub order_fault : Loaded → List Message → Message → Option Fault
order_fault image before m = order_fault_of (last_of image before m)

-- the first fault of a message: one of matching, or else one of memory order
abbrev pub message_fault : Loaded → List Message → Message → Option Fault
message_fault image before m = match_fault image before m or_else order_fault image before m

-- each message is well-formed, and none has a fault
abbrev pub IsFaultless : Loaded → List Message → Type 0
IsFaultless image [] = Unit {0}
IsFaultless image (m ∷ before) = IsFaultless image before × Fits m × (message_fault image before m ≡ None)
