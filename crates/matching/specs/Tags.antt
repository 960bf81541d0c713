-- The tags of a hart's Retires, and which Bypasses come before their instruction retires.
use Rattle.std.specs.Prelude.{ℕ, ◌==◌, ◌&&◌, nat_lt, List, [], ◌∷◌, Bool, true, Some, None, if◌then◌else◌}
use Rattle.std.specs.declared.option.Option.{Option}
use Rattle.msg_frames.specs.declared.message.Head.{Head}
use Rattle.msg_frames.specs.declared.message.Body.{Body}
use Rattle.msg_frames.specs.declared.message.Body.TheVariants as body
use Rattle.msg_frames.specs.declared.message.Message.{Message}

-- the message is of this hart and this tag
abbrev pub is_of : Head → ℕ → ℕ → Bool
is_of head h t = (head.hart == h) && (head.tag == t)

-- the tag of the latest Retire of hart h, after one more message
abbrev pub last_in : Option ℕ → Head → Body → ℕ → Option ℕ
last_in old head (body.Open info) h = old
last_in old head (body.Poke poke) h = old
last_in old head (body.Read piece) h = old
last_in old head (body.Insert piece) h = old
last_in old head (body.Write write) h = old
last_in old head (body.Bypass piece) h = old
last_in old head (body.Retire retire) h = if head.hart == h then Some head.tag else old
last_in old head body.Squash h = old
last_in old head body.End h = old

-- the tag of the latest Retire of hart h, none where it has not retired
abbrev pub last_tag : List Message → ℕ → Option ℕ
last_tag [] h = None
last_tag (m ∷ before) h = last_in (last_tag before h) m.head m.body h

-- the tag is above the last retired one
abbrev pub is_younger : Option ℕ → ℕ → Bool
is_younger None t = true
is_younger (Some last) t = nat_lt last t

-- a Bypass is early: its instruction has not retired
abbrev pub is_early : List Message → Head → Bool
is_early before head = is_younger (last_tag before head.hart) head.tag
