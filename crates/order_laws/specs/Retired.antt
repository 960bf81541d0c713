-- Which instruction a message retires, and whether it performs stores of instructions that retired.
use Rattle.std.specs.Prelude.{ℕ, is_some, not, List, Bool, true, false, None, Some, if◌then◌else◌}
use Rattle.std.specs.declared.option.Option.{Option}
use Rattle.msg_frames.specs.declared.message.Head.{Head}
use Rattle.msg_frames.specs.declared.message.Body.{Body}
use Rattle.msg_frames.specs.declared.message.Body.TheVariants as body
use Rattle.msg_frames.specs.declared.message.Message.{Message}
use Rattle.matching.specs.Tags.{is_early}

-- the tag of the instruction that a message retires: that of a Retire without a trap, none of every other message
abbrev pub retired_tag : Head → Body → Option ℕ
retired_tag head (body.Open info) = None
retired_tag head (body.Poke poke) = None
retired_tag head (body.Read piece) = None
retired_tag head (body.Insert piece) = None
retired_tag head (body.Write write) = None
retired_tag head (body.Bypass piece) = None
retired_tag head (body.Retire retire) = if is_some retire.trap then None else Some head.tag
retired_tag head body.Squash = None
retired_tag head body.End = None

-- a message performs stores of instructions that retired: a Write, or a Bypass that isn't early
abbrev pub performs_stores : List Message → Head → Body → Bool
performs_stores before head (body.Open info) = false
performs_stores before head (body.Poke poke) = false
performs_stores before head (body.Read piece) = false
performs_stores before head (body.Insert piece) = false
performs_stores before head (body.Write write) = true
performs_stores before head (body.Bypass piece) = not (is_early before head)
performs_stores before head (body.Retire retire) = false
performs_stores before head body.Squash = false
performs_stores before head body.End = false
