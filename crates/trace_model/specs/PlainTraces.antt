-- What a list of messages comes to: its trace, or its first fault. The list has the newest first.
use Rattle.std.specs.Prelude.{ℕ, ◌≡◌, List, ◌∷◌, ◌++◌, Some}
use Rattle.msg_frames.specs.declared.message.Message.{Message}
use Rattle.elf_image.specs.Images.{Loaded}
use Rattle.verdict_report.specs.declared.fault.Fault.{Fault}
use Rattle.matching.specs.Settings.{number_after}
use Rattle.matching.specs.Matching.{IsClean, match_fault}
use Rattle.trace_model.specs.declared.plain.Traced.{Traced}
use Rattle.trace_model.specs.declared.plain.Traced.TheVariants.{Whole, Faulty}
use Rattle.trace_model.specs.Traces.{trace_of}

-- message n is the first that has a fault, and this is its first; those of memory order are not meant
pub record IsFirstFault (image : Loaded) (messages : List Message) (n : ℕ) (fault : Fault) : Type 0 where
  pub later : List Message
  pub message : Message
  pub before : List Message
  pub whole : messages ≡ later ++ message ∷ before
  pub clean : IsClean image before
  pub number : n ≡ number_after before
  pub is : match_fault image before message ≡ Some fault

-- no message has a fault, and this is the trace; or that is the first fault
abbrev pub IsTraced : Loaded → List Message → Traced → Type 0
IsTraced image messages (Whole trace) = IsClean image messages × (trace ≡ trace_of image messages)
IsTraced image messages (Faulty n fault) = IsFirstFault image messages n fault
