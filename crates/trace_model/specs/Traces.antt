-- The completed trace of a list of messages. The list has the newest first.
use Rattle.std.specs.Prelude.{ℕ, List, [], ◌∷◌, length, map, replicate, None, Some}
use Rattle.std.specs.List.{cons_option}
use Rattle.std.specs.declared.option.Option.{Option}
use Rattle.tandem_base.specs.declared.extent.Extent.{Extent}
use Rattle.msg_frames.specs.declared.message.Head.{Head}
use Rattle.msg_frames.specs.declared.message.OpenInfo.{OpenInfo}
use Rattle.msg_frames.specs.declared.message.Piece.{Piece}
use Rattle.msg_frames.specs.declared.message.Retire.{Retire}
use Rattle.std.specs.Option.{option_map_or}
use Rattle.msg_frames.specs.declared.message.Body.{Body}
use Rattle.msg_frames.specs.declared.message.Body.TheVariants as body
use Rattle.msg_frames.specs.declared.message.Message.{Message}
use Rattle.elf_image.specs.Images.{Loaded}
use Rattle.rvwmo_model.specs.declared.operations.Op.{Op}
use Rattle.rvwmo_model.specs.declared.operations.OpKind.TheVariants as kind
use Rattle.rvwmo_model.specs.declared.operations.Ann.TheVariants as ann
use Rattle.rvwmo_model.specs.declared.traces.Trace.{Trace}
use Rattle.trace_model.specs.Extents.{extent_of}
use Rattle.trace_model.specs.Entries.{Entry, Places, built}
use Rattle.matching.specs.declared.reports.OpenReport.{OpenReport}
use Rattle.matching.specs.Reports.{live, early}
use Rattle.matching.specs.Fates.{fate, place_of}
use Rattle.matching.specs.Settings.{open_of}
use Rattle.matching.specs.Runs.{doing_at, effect_at}
use Rattle.trace_model.specs.Retirements.{bypass_op, entry_of}

-- the bytes of a store, none where there is none
abbrev pub bytes_stored : Option Piece → List ℕ
bytes_stored None = []
bytes_stored (Some piece) = piece.bytes

-- the bytes that the instruction of a Retire stores, as the model has them
abbrev pub stored_at : Loaded → List Message → Head → Retire → List ℕ
stored_at image before head retire = bytes_stored (effect_at image before head retire).store

-- the entry that a message adds: that of a Retire
abbrev pub entry_in : Loaded → List Message → Head → Body → Option Entry
entry_in image before head (body.Open info) = None
entry_in image before head (body.Poke poke) = None
entry_in image before head (body.Read piece) = None
entry_in image before head (body.Insert piece) = None
entry_in image before head (body.Write write) = None
entry_in image before head (body.Bypass piece) = None
entry_in image before head (body.Retire retire) =
    entry_of (live before head.hart) (early before) head (stored_at image before head retire)
    (doing_at image before head.hart)
entry_in image before head body.Squash = None
entry_in image before head body.End = None

-- the instructions that retired without a trap, with what they did to memory; the newest first
abbrev pub entries : Loaded → List Message → List Entry
entries image [] = []
entries image (m ∷ before) = cons_option (entry_in image before m.head m.body) (entries image before)

-- where each byte of each plain store was performed
abbrev pub places : List Message → Places
places before h t x = place_of (fate before h t x)

-- the bytes of an early Bypass
abbrev pub early_extent : OpenReport → Extent
early_extent r = extent_of r.piece.addr (length r.piece.bytes)

-- an early Bypass as a store: its instruction has not retired, so it has no annotation yet
abbrev pub early_op : OpenReport → Op
early_op r = bypass_op kind.Store (early_extent r) (replicate (early_extent r).len 0) ann.None ann.None r

-- the size of the block that a reservation covers, as the Open says
abbrev pub granule_of : List Message → ℕ
granule_of [] = 0
granule_of (m ∷ before) = option_map_or (λ (info : OpenInfo). info.granule) (open_of m.body) (granule_of before)

-- the completed trace of the messages
abbrev pub trace_of : Loaded → List Message → Trace
trace_of image before =
    built (entries image before) (places before) (map early_op (early before)) (granule_of before)
