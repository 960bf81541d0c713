-- Places are in the order of their positions in the list: by message, then by Insert.
use Rattle.std.specs.Prelude.{◌≡◌, List, Some}
use Rattle.std.specs.List.{Contains}
use Rattle.tandem_base.specs.declared.names.Place.{Place}
use Rattle.tandem_base.specs.declared.names.Position.{Position}
use Rattle.tandem_base.specs.Places.{earlier, comes_before}
use Rattle.msg_frames.specs.declared.message.Head.{Head}
use Rattle.msg_frames.specs.declared.message.Body.{Body}
use Rattle.msg_frames.specs.declared.message.Message.{Message}
use Rattle.elf_image.specs.Images.{Loaded}
use Rattle.rvwmo_model.specs.declared.operations.Op.{Op}
use Rattle.rvwmo_model.specs.Order.{everything}
use Rattle.matching.specs.Matching.{IsClean}
use Rattle.trace_model.specs.Traces.{trace_of}
use Rattle.trace_model.specs.FirstWrites.{IsMessage}

-- an operation or early store of the trace was performed at p
pub record IsPerformedAt (image : Loaded) (messages : List Message) (o : Op) (p : Place) : Type 0 where
  pub there : Contains (everything (trace_of image messages)) o
  pub place : o.place ≡ Some p

-- the message of a place, with the place's time
pub record HasMessage (messages : List Message) (p : Place) : Type 0 where
  pub older : List Message
  pub head : Head
  pub body : Body
  pub message : IsMessage messages p.message older head body
  pub timed : head.time ≡ p.time

-- the position of a place in the list
abbrev pub position_of : Place → Position
position_of p = record { message = p.message; insert = p.insert }

-- the time of a place is that of the message that it names
abbrev pub PlacesHaveMessages : Type 0
PlacesHaveMessages = (image : Loaded) (messages : List Message) (o : Op) (p : Place) → IsClean image messages
    → IsPerformedAt image messages o p → HasMessage messages p

-- so the order of places is that of positions
abbrev pub PlacesAreOrdered : Type 0
PlacesAreOrdered = (image : Loaded) (messages : List Message) (v w : Op) (p q : Place) → IsClean image messages
    → IsPerformedAt image messages v p → IsPerformedAt image messages w q
    → earlier p q ≡ comes_before (position_of p) (position_of q)
