-- What the Open of a stream says, and the number and time of a message. A list of messages stands with the newest
-- first, so that one more message is put in front.
use Rattle.std.specs.Prelude.{ℕ, ◌+◌, ◌/◌, ◌%◌, ◌==◌, Bool, Some, None, is_some, List, [], ◌∷◌, length}
use Rattle.std.specs.declared.option.Option.{Option}
use Rattle.std.specs.Option.{option_map_or}
use Rattle.msg_frames.specs.declared.message.OpenInfo.{OpenInfo}
use Rattle.msg_frames.specs.declared.message.Body.{Body}
use Rattle.msg_frames.specs.declared.message.Body.TheVariants as body
use Rattle.msg_frames.specs.declared.message.Message.{Message}
use Rattle.rv_step.specs.declared.plan.Config.{Config}

-- the number of the message that comes after these, counted from 1
abbrev pub number_after : List Message → ℕ
number_after before = length before + 1

-- the time of the newest message
abbrev pub last_time : List Message → ℕ
last_time [] = 0
last_time (m ∷ before) = m.head.time

-- what an Open says
abbrev pub open_of : Body → Option OpenInfo
open_of (body.Open info) = Some info
open_of (body.Poke poke) = None
open_of (body.Read piece) = None
open_of (body.Insert piece) = None
open_of (body.Write write) = None
open_of (body.Bypass piece) = None
open_of (body.Retire retire) = None
open_of body.Squash = None
open_of body.End = None

-- the message is an Open
abbrev pub is_open : Body → Bool
is_open b = is_some (open_of b)

-- the number of harts, as the Open says
abbrev pub harts_of : List Message → ℕ
harts_of [] = 0
harts_of (m ∷ before) = option_map_or (λ (info : OpenInfo). info.harts) (open_of m.body) (harts_of before)

-- flag bit 0: mtval of an illegal instruction is its word; bit 1: misaligned loads and stores trap
abbrev pub config_in : ℕ → Config
config_in flags = record { mtval_word = flags % 2 == 1; traps_misaligned = flags / 2 % 2 == 1 }

-- the settings of the model, as the Open says
abbrev pub config_of : List Message → Config
config_of [] = config_in 0
config_of (m ∷ before) = option_map_or (λ (info : OpenInfo). config_in info.flags) (open_of m.body) (config_of before)
