-- Inputs in memory of which calls can be made to fail, as their callers see them.
use Rattle.std.specs.Prelude.{ℕ, Result, Ok, Err}
use Rattle.tandem_io.specs.declared.types.Slot.{Slot}
use Rattle.tandem_io.specs.declared.types.Slot.TheVariants.{Image, Stream}
use Rattle.tandem_io.specs.Calls.{CallRecord, no_calls}
use Rattle.tandem_io.specs.Store.{HeldInputs, HeldSlot, nothing_held, after_read, after_miss}

-- what is held, and the calls on each slot
pub record Failing : Type 0 where
  pub held : HeldInputs
  pub image : CallRecord
  pub stream : CallRecord

-- nothing is there yet, and no call is to fail
abbrev pub none_failing : ℕ → Failing
none_failing step = record { held = nothing_held step; image = no_calls; stream = no_calls }

-- the calls on the slot of that name
abbrev pub calls_of : Slot → Failing → CallRecord
calls_of Image ins = ins.image
calls_of Stream ins = ins.stream

-- those calls replaced
abbrev pub with_calls : Slot → Failing → CallRecord → Failing
with_calls Image ins calls = record ins { image = calls }
with_calls Stream ins calls = record ins { stream = calls }

-- a slot after a read of this answer
abbrev pub after_answer : {E : Type 0} → HeldSlot → Result ℕ E → HeldSlot
after_answer state (Ok n) = after_read state n
after_answer state (Err _) = after_miss state
