-- How many bytes messages take, and how many of them are Retires. A list of messages stands with the newest first, so
-- that one more message is put in front.
use Rattle.std.specs.Prelude.{ℕ, ◌+◌, Bool, true, false, if◌then◌else◌, List, [], ◌∷◌, ◌++◌, length}
use Rattle.msg_frames.specs.declared.message.Body.{Body}
use Rattle.msg_frames.specs.declared.message.Body.TheVariants as body
use Rattle.msg_frames.specs.declared.message.Message.{Message}
use Rattle.msg_frames.specs.Frames.{frame}

-- the message is a Retire
abbrev pub is_retire : Body → Bool
is_retire (body.Open info) = false
is_retire (body.Poke poke) = false
is_retire (body.Read piece) = false
is_retire (body.Insert piece) = false
is_retire (body.Write write) = false
is_retire (body.Bypass piece) = false
is_retire (body.Retire retire) = true
is_retire body.Squash = false
is_retire body.End = false

-- how many bytes the frame of a message takes
unfoldable pub frame_size : Message → ℕ
frame_size m = length (frame m)

-- the frames of the messages, in the order in which they came
abbrev pub frames_of : List Message → List ℕ
frames_of [] = []
frames_of (m ∷ before) = frames_of before ++ frame m

-- how many bytes the messages take
abbrev pub offset_of : List Message → ℕ
offset_of [] = 0
offset_of (m ∷ before) = offset_of before + frame_size m

-- how many of the messages are Retires
abbrev pub retired_of : List Message → ℕ
retired_of [] = 0
retired_of (m ∷ before) = if is_retire m.body then retired_of before + 1 else retired_of before
