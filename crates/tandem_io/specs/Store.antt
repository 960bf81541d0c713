-- Inputs in memory, as their callers see them: contents by name, and two slots that read them.
use Rattle.std.specs.Prelude.{ℕ, min, Bool, true, false, nat_eq, ◌&&◌, List, [], ◌∷◌, ◌++◌, length, take, drop}
use Rattle.std.specs.Prelude.{map, Option, Some, None}
use Rattle.tandem_io.specs.declared.types.Slot.{Slot}
use Rattle.tandem_io.specs.declared.types.Slot.TheVariants.{Image, Stream}
use Rattle.tandem_io.specs.Told.{Log, taken}
use Rattle.tandem_io.specs.Inputs.{Named, SlotView, Slots}

-- one slot: the bytes that it still holds, those that were taken of the content that is attached,
-- whether the last read answered 0, and the last answer of attach
pub record HeldSlot : Type 0 where
  pub left : List ℕ
  pub gone : List ℕ
  pub ended : Bool
  pub attached : Option Bool

-- the contents by name, the two slots, and how many bytes a read takes at most
pub record HeldInputs : Type 0 where
  pub names : List Named
  pub image : HeldSlot
  pub stream : HeldSlot
  pub step : ℕ

-- a slot before its first attach
abbrev pub unread : HeldSlot
unread = record { left = []; gone = []; ended = false; attached = None }

-- nothing is there yet
abbrev pub nothing_held : ℕ → HeldInputs
nothing_held step = record { names = []; image = unread; stream = unread; step = step }

-- one more content under its name
abbrev pub with_content : HeldInputs → List ℕ → List ℕ → HeldInputs
with_content held name bytes = record held { names = held.names ++ (record { name = name; bytes = bytes } ∷ []) }

-- the slot of that name
abbrev pub slot_of : Slot → HeldInputs → HeldSlot
slot_of Image held = held.image
slot_of Stream held = held.stream

-- the slot of that name replaced
abbrev pub with_slot : Slot → HeldInputs → HeldSlot → HeldInputs
with_slot Image held state = record held { image = state }
with_slot Stream held state = record held { stream = state }

-- a slot after attach found this content, or none
abbrev pub after_attach : HeldSlot → Option (List ℕ) → HeldSlot
after_attach state (Some bytes) = record state { left = bytes; gone = []; attached = Some true }
after_attach state None = record state { attached = Some false }

-- how many bytes a read into so many takes: as many as it can, and at most step
abbrev pub taken_by : HeldSlot → ℕ → ℕ → ℕ
taken_by state step room = min (min step room) (length state.left)

-- a slot after a read of n bytes
abbrev pub after_read : HeldSlot → ℕ → HeldSlot
after_read state n = record state {
  left = drop n state.left;
  gone = state.gone ++ take n state.left;
  ended = nat_eq n 0;
}

-- what a slot lends: as many bytes as it can, and at most step
abbrev pub lent_of : HeldSlot → ℕ → List ℕ
lent_of state step = take step state.left

-- a slot after the first n bytes that it lends were taken
abbrev pub after_skip : HeldSlot → ℕ → HeldSlot
after_skip state n = record state {
  left = drop n state.left;
  gone = state.gone ++ take n state.left;
  ended = state.ended && nat_eq n 0;
}

-- a slot after a read that failed
abbrev pub after_miss : HeldSlot → HeldSlot
after_miss state = record state { ended = false }

-- the log of the bytes that were taken
abbrev pub log_of : HeldSlot → Log
log_of state = Some (map taken state.gone)

-- what is told of one slot, with its count of faults
abbrev pub told_of : HeldSlot → ℕ → SlotView
told_of state faults = record {
  left = Some state.left;
  ended = state.ended;
  attached = state.attached;
  faults = faults;
}

-- what is told of both slots, with the image's count of faults and the stream's
abbrev pub slots_of : HeldInputs → ℕ → ℕ → Slots
slots_of held image stream = record { image = told_of held.image image; stream = told_of held.stream stream }
