-- The operations of what the code keeps, with the places of stores as the tables of matching have them.
use Rattle.std.specs.Prelude.{ℕ, ◌≡◌, List, [], ◌∷◌, map, nat_lt, true, Some, None, if◌then◌else◌}
use Rattle.std.specs.declared.option.Option.{Option}
use Rattle.tandem_base.specs.declared.names.Place.{Place}
use Rattle.msg_frames.specs.declared.message.Message.{Message}
use Rattle.elf_image.specs.Images.{Loaded}
use Rattle.rvwmo_model.specs.declared.operations.Op.{Op}
use Rattle.matching.specs.declared.stores.Tracked.{Tracked}
use Rattle.matching.specs.Fates.{place_of}
use Rattle.matching.specs.Stores.{retired_stores}
use Rattle.matching.specs.Tables.{Stands, fate_in_store, tracked_at, tracked_under}
use Rattle.trace_model.specs.declared.retirements.KeptUse.{KeptUse}
use Rattle.trace_model.specs.declared.retirements.KeptUse.TheVariants as kept_use
use Rattle.trace_model.specs.declared.tracer.Tracer.{Tracer}
use Rattle.trace_model.specs.Groups.{op_of, parts_of}
use Rattle.trace_model.specs.Marks.{place_in, eight}
use Rattle.trace_model.specs.Histories.{IsHistoryOf}
use Rattle.trace_model.specs.Traces.{entries, granule_of}

-- where byte k of a store was performed, none where there is no store
abbrev pub place_tracked : Option Tracked → ℕ → Option Place
place_tracked None k = None
place_tracked (Some t) k = place_of (fate_in_store t k)

-- the store of hart h under a tag, as its table has it; there are tables for 16 harts
abbrev pub tracked_in : Loaded → List Message → ℕ → ℕ → Option Tracked
tracked_in image before h tag =
    if nat_lt h 16 then tracked_under tag (map (tracked_at before h) (retired_stores image before h)) else None

-- the operations of what an instruction did
abbrev pub ops_seen : Loaded → List Message → KeptUse → List Op
ops_seen image before (kept_use.Loaded access places) = parts_of access (place_in places)
ops_seen image before (kept_use.Stored access) =
    parts_of access (place_in (eight (place_tracked (tracked_in image before access.hart access.tag))))
ops_seen image before (kept_use.Whole access place) = op_of access (λ k. true) (Some place) ∷ []

-- the tables and what is kept of instructions are those of these messages, which have the newest first
pub record Follows (image : Loaded) (t : Tracer) (before : List Message) : Type 0 where
  pub stands : Stands image t.matching before
  pub keeps : IsHistoryOf t.history (entries image before)
  pub granule : t.granule ≡ granule_of before
