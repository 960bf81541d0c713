-- What is taken from a source for one frame.
use Rattle.std.specs.Prelude.{◌≡◌, ℕ, ◌<◌, nat_le, ◌&&◌, if◌then◌else◌, Bool, true, false, List, length, map}
use Rattle.std.specs.Prelude.{Option, Ok, Err, ⊤}
use Rattle.std.specs.Io.KnownBytes.{Consumes, IsAtEnd}
use Rattle.tandem_io.specs.Told.{Log, Logs, taken}
use Rattle.msg_frames.specs.declared.source.Next.{Next}
use Rattle.msg_frames.specs.declared.source.Next.TheVariants as next
use Rattle.msg_frames.specs.declared.source.Arrived.{Arrived}
use Rattle.msg_frames.specs.declared.source.Arrived.TheVariants as arrived
use Rattle.msg_frames.specs.declared.message.Message.{Message}
use Rattle.msg_frames.specs.declared.source.Filled.{Filled}
use Rattle.msg_frames.specs.declared.source.Filled.TheVariants as filled
use Rattle.msg_frames.specs.Frames.{Spells}
use Rattle.msg_frames.specs.Reading.{reading}
use Rattle.msg_frames.specs.Cut.{needed}

-- these bytes were taken from what was left of a source, and logged as taken
pub record TakenFrom (left left' : Option (List ℕ)) (log log' : Log) (got : List ℕ) : Type 0 where
  pub consumed : Consumes left left' got
  pub logged : Logs log log' (map taken got)

-- just as many bytes as the frame that they begin needs
abbrev pub IsWholeFrame : List ℕ → Type 0
IsWholeFrame got = length got ≡ needed got

-- fewer bytes than the frame that they begin needs
abbrev pub IsShort : List ℕ → Type 0
IsShort got = length got < needed got

-- what an answer says of the bytes that were taken, and of what is left of the source
abbrev pub NextIs : Next → List ℕ → Option (List ℕ) → Type 0
NextIs (next.Msg message) got left = IsWholeFrame got × (reading got ≡ Ok message) × Spells got message
NextIs (next.Bad fault) got left = IsWholeFrame got × (reading got ≡ Err fault)
NextIs (next.Ended have) got left = IsShort got × (length got ≡ have) × IsAtEnd left
NextIs next.Failed got left = IsShort got

-- the same answer with the message that is lent, where the message came there
abbrev pub with_message : Arrived → Message → Next
with_message arrived.Message message = next.Msg message
with_message (arrived.Bad fault) message = next.Bad fault
with_message (arrived.Ended have) message = next.Ended have
with_message arrived.Failed message = next.Failed

-- the message that is lent stays where none came
abbrev pub IsKept : Arrived → Message → Message → Type 0
IsKept arrived.Message old new = ⊤
IsKept (arrived.Bad fault) old new = new ≡ old
IsKept (arrived.Ended have) old new = new ≡ old
IsKept arrived.Failed old new = new ≡ old

-- how many bytes the frame has that lies whole at the front, and 0 where none does
abbrev pub size_at_front : List ℕ → ℕ
size_at_front bytes = if nat_le 20 (needed bytes) && nat_le (needed bytes) (length bytes) then needed bytes else 0

-- the answer that the source has ended
abbrev pub is_ended : Next → Bool
is_ended (next.Msg _) = false
is_ended (next.Bad _) = false
is_ended (next.Ended _) = true
is_ended next.Failed = false

-- the bytes that were taken to fill a buffer
abbrev pub FilledIs : Filled → List ℕ → List ℕ → Option (List ℕ) → Type 0
FilledIs filled.Whole got buf left = got ≡ buf
FilledIs (filled.Ended have) got buf left = (length got ≡ have) × (have < length buf) × IsAtEnd left
FilledIs filled.Failed got buf left = length got < length buf

-- the answer that the source has ended before the buffer was full
abbrev pub has_ended : Filled → Bool
has_ended filled.Whole = false
has_ended (filled.Ended _) = true
has_ended filled.Failed = false
