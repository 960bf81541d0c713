-- How one more message makes the trace grow, by its kind.
use Rattle.std.specs.Prelude.{ℕ, ◌<◌, List, [], ◌∷◌, length, Bool, true, false, None, Some}
use Rattle.std.specs.declared.option.Option.{Option}
use Rattle.tandem_base.specs.declared.names.Place.{Place}
use Rattle.msg_frames.specs.declared.message.Head.{Head}
use Rattle.msg_frames.specs.declared.message.Piece.{Piece}
use Rattle.msg_frames.specs.declared.message.Body.{Body}
use Rattle.msg_frames.specs.declared.message.Body.TheVariants as body
use Rattle.msg_frames.specs.declared.message.Message.{Message}
use Rattle.elf_image.specs.Images.{Loaded}
use Rattle.rvwmo_model.specs.declared.operations.Op.{Op}
use Rattle.rvwmo_model.specs.declared.traces.Trace.{Trace}
use Rattle.growth_laws.specs.Growth.{Same, AddEarly, AddInsn, Performs, Growth}
use Rattle.matching.specs.Settings.{number_after}
use Rattle.matching.specs.Tags.{is_early}
use Rattle.matching.specs.Reports.{open_report_of}
use Rattle.matching.specs.Fates.{waiting}
use Rattle.matching.specs.Matching.{IsClean}
use Rattle.trace_model.specs.Entries.{Entry, Places, entry_ops}
use Rattle.trace_model.specs.Parts.{IsPartFor, ArePartsFor}
use Rattle.trace_model.specs.Traces.{entry_in, places, early_op, trace_of}

-- a Retire without an entry changes nothing, and one with an entry adds its instruction, with its operations
abbrev pub GrownBy : Trace → Trace → Places → Option Entry → Type 0
GrownBy t t' g None = Same t t'
GrownBy t t' g (Some e) = AddInsn t t' e.insn (entry_ops g e)

-- the place of what message n performs by itself
abbrev pub own_place : ℕ → ℕ → Place
own_place time n = record { time = time; message = n; insert = n }

-- a Bypass adds an early store where its instruction has not retired; else it performs its bytes of the store
abbrev pub BypassGrows : List Message → Head → Piece → Trace → Trace → Bool → Type 0
BypassGrows before head piece t t' true = AddEarly t t' (early_op (open_report_of (number_after before) head piece))
BypassGrows before head piece t t' false =
    (o : Op) × Performs head.hart t (o ∷ []) t'
    × IsPartFor head.hart head.tag (own_place head.time (number_after before)) piece o

-- what one more message does to the trace t, which is t' with it
abbrev pub MessageGrows : Loaded → List Message → Head → Body → Trace → Trace → Type 0
MessageGrows image before head (body.Open info) t t' = ⊥
MessageGrows image before head (body.Poke poke) t t' = Same t t'
MessageGrows image before head (body.Read piece) t t' = Same t t'
MessageGrows image before head (body.Insert piece) t t' = Same t t'
-- a Write performs the Inserts that wait in its line, in their order
MessageGrows image before head (body.Write write) t t' =
    (parts : List Op) × Performs head.hart t parts t'
    × ArePartsFor head.hart head.time (number_after before) (waiting before head.hart write.line) parts
MessageGrows image before head (body.Bypass piece) t t' = BypassGrows before head piece t t' (is_early before head)
MessageGrows image before head (body.Retire retire) t t' =
    GrownBy t t' (places before) (entry_in image before head (body.Retire retire))
MessageGrows image before head body.Squash t t' = Same t t'
MessageGrows image before head body.End t t' = Same t t'

-- from the second message of a clean list on, each makes the trace grow so
abbrev pub EachMessageGrows : Type 0
EachMessageGrows = (image : Loaded) (before : List Message) (m : Message) → IsClean image (m ∷ before)
    → 0 < length before → MessageGrows image before m.head m.body (trace_of image before) (trace_of image (m ∷ before))

-- so it is one growth
abbrev pub EachMessageIsGrowth : Type 0
EachMessageIsGrowth = (image : Loaded) (before : List Message) (m : Message) → IsClean image (m ∷ before)
    → 0 < length before → Growth (trace_of image before) (trace_of image (m ∷ before))
