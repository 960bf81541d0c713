-- Where the operations of instructions that retire later have their places from.
use Rattle.std.specs.Prelude.{ℕ, ◌<◌, ◌≡◌, ◌⊎◌, List, ◌++◌, length, Some, None}
use Rattle.std.specs.List.{Contains}
use Rattle.std.specs.declared.option.Option.{Option}
use Rattle.tandem_base.specs.declared.names.Place.{Place}
use Rattle.msg_frames.specs.declared.message.Message.{Message}
use Rattle.elf_image.specs.Images.{Loaded}
use Rattle.rvwmo_model.specs.declared.operations.Op.{Op}
use Rattle.growth_laws.specs.Growth.{IsYounger}
use Rattle.matching.specs.declared.reports.OpenReport.{OpenReport}
use Rattle.matching.specs.Reports.{live, early, place_of_report}
use Rattle.matching.specs.Matching.{IsClean}
use Rattle.trace_model.specs.Traces.{trace_of}

-- it is the place of a live Read of hart h, or of an early Bypass of that hart
abbrev pub IsReported : List Message → ℕ → Place → Type 0
IsReported before h p =
    (r : OpenReport) × (Contains (live before h) r ⊎ (Contains (early before) r × (r.hart ≡ h)))
    × (p ≡ place_of_report r)

-- there is no place, or it is of a later message, or of a report that these messages leave to hart h
abbrev pub IsOrigin : List Message → ℕ → Option Place → Type 0
IsOrigin before h None = Unit {0}
IsOrigin before h (Some p) = (length before < p.message) ⊎ IsReported before h p

-- an operation of an instruction that retires after some messages has no place, a place of a later message, or that of
-- a report of its hart that these messages leave open
abbrev pub PlacesOfLater : Type 0
PlacesOfLater = (image : Loaded) (later before : List Message) (o : Op) → IsClean image (later ++ before)
    → Contains (trace_of image (later ++ before)).ops o → IsYounger (trace_of image before) o
    → IsOrigin before o.name.hart o.place
