-- Inputs that are files, as their callers see them: nothing is told of names, and of contents what
-- a file tells.
use Rattle.std.specs.Prelude.{◌≡◌, ℕ, Bool, true, false, List, [], Option, Some, None, Result, Ok, Err}
use Rattle.std.specs.Prelude.{length, min, take, drop}
use Rattle.std.specs.Io.KnownBytes.{prepend_known}
use Rattle.tandem_io.specs.declared.types.Slot.{Slot}
use Rattle.tandem_io.specs.declared.types.Slot.TheVariants.{Image, Stream}
use Rattle.tandem_io.specs.declared.window.Window.{Window}
use Rattle.tandem_io.specs.Causes.{next_count}
use Rattle.tandem_io.specs.Inputs.{SlotView, Slots}
use Rattle.tandem_io.specs.Window.{unread_in}

-- an open file: the bytes that are left in it where they are known, whether its last read failed, and
-- how many of its reads did
pub record FileView : Type 0 where
  pub left : Option (List ℕ)
  pub failed : Bool
  pub errors : ℕ

-- a slot: what is told of it, the bytes that it lends, whether the last read of its file failed, and
-- how many did
pub record FileSlotView : Type 0 where
  pub told : SlotView
  pub lent : List ℕ
  pub failed : Bool
  pub errors : ℕ

-- both slots
pub record FileSlots : Type 0 where
  pub image : FileSlotView
  pub stream : FileSlotView

-- the bytes that are left in a file where they are known, and none where no file is open
abbrev pub left_in : Option FileView → Option (List ℕ)
left_in None = Some []
left_in (Some file) = file.left

-- the last read of the file failed
abbrev pub failed_in : Option FileView → Bool
failed_in None = false
failed_in (Some file) = file.failed

-- how many reads of the file failed
abbrev pub errors_in : Option FileView → ℕ
errors_in None = 0
errors_in (Some file) = file.errors

-- what a slot still gives: the rest of the window, and then what is left in the file
abbrev pub left_of : Option FileView → Window → Option (List ℕ)
left_of file window = prepend_known (unread_in window) (left_in file)

-- a slot before its first attach
abbrev pub no_file : FileSlotView
no_file = record {
  told = record { left = Some []; ended = false; attached = None; faults = 0 };
  lent = [];
  failed = false;
  errors = 0;
}

-- both slots before their first attach
abbrev pub no_files : FileSlots
no_files = record { image = no_file; stream = no_file }

-- the slot of that name
abbrev pub file_slot_of : Slot → FileSlots → FileSlotView
file_slot_of Image slots = slots.image
file_slot_of Stream slots = slots.stream

-- the other slot
abbrev pub other_file_slot : Slot → FileSlots → FileSlotView
other_file_slot Image slots = slots.stream
other_file_slot Stream slots = slots.image

-- a slot after attach answered: at the first byte of another file, of which these bytes are left where
-- they are known, or with the file that it had
abbrev pub after_attaching : {E : Type 0} → FileSlotView → Option (List ℕ) → Result Bool E → FileSlotView
after_attaching slot left (Ok true) = record {
  told = record { left = left; ended = slot.told.ended; attached = Some true; faults = slot.told.faults };
  lent = [];
  failed = false;
  errors = 0;
}
after_attaching slot left (Ok false) = record slot { told = record slot.told { attached = Some false } }
after_attaching slot left (Err _) = record slot { told = record slot.told { faults = next_count slot.told.faults } }

-- a read of a slot gives the first of the bytes that it lent, as many as there is room for, and the rest is lent still
abbrev pub GivesLent : {E : Type 0} → List ℕ → List ℕ → Result ℕ E → List ℕ → Type 0
GivesLent old new r buf =
    let n = min (length buf) (length old) in
    (r ≡ Ok n) × (take n buf ≡ take n old) × (new ≡ drop n old)

-- what is told of both slots
abbrev pub told_of_files : FileSlots → Slots
told_of_files slots = record { image = slots.image.told; stream = slots.stream.told }

-- how the parts of a slot hang together: before the first attach no file is open, and nothing was
-- read of one; after a read that failed nothing waits in the window
pub record IsSoundSlot (attached : Option Bool) (file : Option FileView) (window : Window) : Type 0 where
  pub closed : attached ≡ None → file ≡ None
  pub unread : attached ≡ None → unread_in window ≡ []
  pub drained : failed_in file ≡ true → unread_in window ≡ []
