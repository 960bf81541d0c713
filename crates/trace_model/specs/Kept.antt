-- How many operations of a hart are kept: those that came after the oldest report that its next instructions may use.
use Rattle.std.specs.Prelude.{ℕ, ◌==◌, ◌&&◌, List, [], ◌∷◌, ◌++◌, length, Bool, false, Some, None, if◌then◌else◌}
use Rattle.std.specs.List.{filter}
use Rattle.std.specs.declared.option.Option.{Option}
use Rattle.tandem_base.specs.declared.names.Place.{Place}
use Rattle.tandem_base.specs.Places.{earlier}
use Rattle.msg_frames.specs.declared.message.Message.{Message}
use Rattle.elf_image.specs.Images.{Loaded}
use Rattle.rvwmo_model.specs.declared.operations.Op.{Op}
use Rattle.matching.specs.declared.reports.OpenReport.{OpenReport}
use Rattle.matching.specs.Reports.{live, early, place_of_report}
use Rattle.trace_model.specs.Traces.{trace_of}

-- the earlier of two places, the first where there is no second
abbrev pub earlier_of : Place → Option Place → Place
earlier_of p None = p
earlier_of p (Some q) = if earlier q p then q else p

-- the earliest place of some reports
abbrev pub earliest_place : List OpenReport → Option Place
earliest_place [] = None
earliest_place (r ∷ rs) = Some (earlier_of (place_of_report r) (earliest_place rs))

-- the earliest place of the live Reads and early Bypasses of hart h
abbrev pub oldest_place : List Message → ℕ → Option Place
oldest_place before h = earliest_place (live before h ++ filter (λ (r : OpenReport). r.hart == h) (early before))

-- performed after a place
abbrev pub is_after_place : Place → Option Place → Bool
is_after_place p None = false
is_after_place p (Some q) = earlier p q

-- o is of hart h, and was performed after a place; none is where there is no place
abbrev pub is_kept : ℕ → Option Place → Op → Bool
is_kept h None o = false
is_kept h (Some p) o = (o.name.hart == h) && is_after_place p o.place

-- the operations of hart h that are kept
abbrev pub kept_of : Loaded → List Message → ℕ → ℕ
kept_of image before h = length (filter (is_kept h (oldest_place before h)) (trace_of image before).ops)
