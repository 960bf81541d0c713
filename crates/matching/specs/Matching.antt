-- The first fault of a message after those before it, in the order of the faults. The faults of memory order are not
-- among them.
use Rattle.std.specs.Prelude.{◌≡◌, nat_lt, List, [], ◌∷◌, Some, None, if◌then◌else◌}
use Rattle.std.specs.declared.option.Option.{Option}
use Rattle.msg_frames.specs.declared.message.Head.{Head}
use Rattle.msg_frames.specs.declared.message.Piece.{Piece}
use Rattle.msg_frames.specs.declared.message.Retire.{Retire}
use Rattle.msg_frames.specs.declared.message.Body.{Body}
use Rattle.msg_frames.specs.declared.message.Body.TheVariants as body
use Rattle.msg_frames.specs.declared.message.Message.{Message}
use Rattle.msg_frames.specs.Frames.{Fits}
use Rattle.elf_image.specs.Images.{Loaded}
use Rattle.tandem_base.specs.FirstFault.{◌or_else◌}
use Rattle.verdict_report.specs.declared.fault.Fault.{Fault}
use Rattle.verdict_report.specs.declared.fault.Fault.TheVariants as fault
use Rattle.matching.specs.Settings.{is_open, harts_of}
use Rattle.matching.specs.Tags.{last_tag, is_early}
use Rattle.matching.specs.Reports.{live, early}
use Rattle.matching.specs.Fates.{waiting}
use Rattle.matching.specs.Runs.{run_of, plan_at, bypass_at, effect_at}
use Rattle.matching.specs.Stores.{retired_stores, store_under}
use Rattle.matching.specs.Compares.{tag_fault_of}
use Rattle.matching.specs.PartFaults.{poke_fault_of, late_fault_of, read_range_fault, insert_range_fault}
use Rattle.matching.specs.PartFaults.{bypass_range_fault, part_fault_in, fate_at, second_bypass_fault, merge_fault_of}
use Rattle.matching.specs.RetireFaults.{retire_fault_in}
use Rattle.matching.specs.EndFaults.{unwritten_below, first_bypass, unretired_fault_of}

-- message 1 is the Open and no later one is; a hart is below the number of harts; time doesn't fall
abbrev pub stream_fault_of : List Message → Message → Option Fault
stream_fault_of [] m = if is_open m.body then None else Some fault.BadOpen
stream_fault_of (last ∷ before) m =
    if is_open m.body then Some fault.BadOpen
    else if nat_lt m.head.hart (harts_of (last ∷ before)) then
    (if nat_lt m.head.time last.head.time then Some (fault.TimeBack last.head.time) else None)
    else Some fault.BadHart

-- a part of a store that retired
abbrev pub part_fault_of : Loaded → List Message → Head → Piece → Option Fault
part_fault_of image before head piece =
    part_fault_in (fate_at before head.hart) piece (store_under head.tag (retired_stores image before head.hart))

-- an early Bypass is its instruction's only one, and a plain Bypass is a part of a store that retired
abbrev pub bypass_fault_at : Loaded → List Message → Head → Piece → Option Fault
bypass_fault_at image before head piece =
    if is_early before head then second_bypass_fault head.tag (bypass_at before head)
    else part_fault_of image before head piece

-- the end of an instruction
abbrev pub retire_fault_of : Loaded → List Message → Head → Retire → Option Fault
retire_fault_of image before head retire =
    tag_fault_of (last_tag before head.hart) head.tag
    or_else retire_fault_in (run_of image before head.hart) (live before head.hart) (early before) head retire
    (plan_at image before head.hart) (effect_at image before head retire) (bypass_at before head)

-- the end of the stream, of at most 16 harts
abbrev pub end_fault_of : Loaded → List Message → Option Fault
end_fault_of image before =
    unwritten_below image before 16 or_else unretired_fault_of (first_bypass (early before))

-- what is wrong with a message of a known hart
abbrev pub body_fault_of : Loaded → List Message → Head → Body → Option Fault
body_fault_of image before head (body.Open info) = None
body_fault_of image before head (body.Poke poke) = poke_fault_of (last_tag before head.hart)
body_fault_of image before head (body.Read piece) =
    late_fault_of (last_tag before head.hart) head.tag or_else read_range_fault piece
body_fault_of image before head (body.Insert piece) =
    insert_range_fault image piece or_else part_fault_of image before head piece
body_fault_of image before head (body.Write write) = merge_fault_of (waiting before head.hart write.line) write
body_fault_of image before head (body.Bypass piece) =
    bypass_range_fault image piece or_else bypass_fault_at image before head piece
body_fault_of image before head (body.Retire retire) = retire_fault_of image before head retire
body_fault_of image before head body.Squash = None
body_fault_of image before head body.End = end_fault_of image before

-- the first fault of a message after these
abbrev pub match_fault : Loaded → List Message → Message → Option Fault
match_fault image before m = stream_fault_of before m or_else body_fault_of image before m.head m.body

-- each message is well-formed, and none has a fault
abbrev pub IsClean : Loaded → List Message → Type 0
IsClean image [] = Unit {0}
IsClean image (m ∷ before) = IsClean image before × Fits m × (match_fault image before m ≡ None)
