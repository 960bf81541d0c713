-- What a core stands for, and its answers.
use Rattle.std.specs.Prelude.{ℕ, ◌≡◌, ◌+◌, nat_lt, Option, Some, None, if◌then◌else◌, List, [], length}
use Rattle.msg_frames.specs.declared.message.Message.{Message}
use Rattle.msg_frames.specs.Cut.{is_end}
use Rattle.elf_image.specs.Images.{Loaded, loaded_of}
use Rattle.verdict_report.specs.declared.fault.Fault.{Fault}
use Rattle.verdict_report.specs.declared.verdict.Limit.TheVariants as limit
use Rattle.verdict_report.specs.declared.verdict.Verdict.{Verdict}
use Rattle.verdict_report.specs.declared.verdict.Verdict.TheVariants as verdict
use Rattle.trace_model.specs.Tracers.{Follows}
use Rattle.trace_model.specs.declared.tracer.Tracer.{Tracer}
use Rattle.order_laws.specs.Faults.{IsFaultless}
use Rattle.tandem_core.specs.declared.limits.Limits.{Limits}
use Rattle.tandem_core.specs.declared.core_state.Core.{Core}
use Rattle.tandem_core.specs.declared.fed.Fed.{Fed}
use Rattle.tandem_core.specs.declared.fed.Fed.TheVariants as fed
use Rattle.tandem_core.specs.Runs.{frame_size, is_retire, offset_of, retired_of}
use Rattle.tandem_core.specs.Judgements.{IsQuiet}

-- The core has counted these messages, newest first, the one that ended with a verdict included.
pub record HasCounted (core : Core) (counted : List Message) : Type 0 where
  pub count : core.count ≡ length counted
  pub offset : core.offset ≡ offset_of counted

-- the verdict with which a message ended, none where none did
abbrev pub ended_with : Core → Option Verdict
ended_with core = core.verdict

-- no message ended with a verdict yet
abbrev pub IsGoing : Core → Type 0
IsGoing core = ended_with core ≡ None

-- a message ended with this verdict
abbrev pub HasEnded : Core → Verdict → Type 0
HasEnded core v = ended_with core ≡ Some v

-- the tables of a core are those of these messages; before the first message there may be none
abbrev pub HasTables : Loaded → Option Tracer → List Message → Type 0
HasTables image None before = before ≡ []
HasTables image (Some t) before = Follows image t before

-- The core has taken these messages, newest first, against this image and within these limits; it has their tables;
-- none of them has a fault, and none ended with a verdict.
pub record CoreStands (image : Loaded) (limits : Limits) (core : Core) (before : List Message) : Type 0 where
  pub image_is : loaded_of core.image.now ≡ image
  pub limits_is : core.limits ≡ limits
  pub going : IsGoing core
  pub quiet : IsQuiet image limits before
  pub faultless : IsFaultless image before
  pub tables : HasTables image core.tracer before
  pub count : core.count ≡ length before
  pub offset : core.offset ≡ offset_of before
  pub retired : core.retired ≡ retired_of before

-- the answer to a message that ends with this verdict, or none
abbrev pub fed_as : Option Verdict → Fed
fed_as None = fed.Fine
fed_as (Some (verdict.Reject report)) = fed.Fault report
fed_as (Some (verdict.Undecided message limit hart count)) = fed.Full message limit hart count
fed_as (Some (verdict.Accept messages retired operations)) = fed.Done messages retired operations

-- ---- the parts of a message's way through the core

-- nothing of the core has changed that contracts see: its tables are those of the same messages, and all else is as it
-- was
pub record IsUnchanged (old new : Core) : Type 0 where
  pub image : new.image ≡ old.image
  pub limits : new.limits ≡ old.limits
  pub tables : (before : List Message) → HasTables (loaded_of old.image.now) old.tracer before
      → HasTables (loaded_of old.image.now) new.tracer before
  pub count : new.count ≡ old.count
  pub offset : new.offset ≡ old.offset
  pub retired : new.retired ≡ old.retired
  pub verdict : new.verdict ≡ old.verdict

-- the two cores differ at most in their tables and in the verdict
pub record KeepsCounts (old new : Core) : Type 0 where
  pub image : new.image ≡ old.image
  pub limits : new.limits ≡ old.limits
  pub count : new.count ≡ old.count
  pub offset : new.offset ≡ old.offset
  pub retired : new.retired ≡ old.retired

-- the two cores differ at most in their tables
pub record SetsTables (old new : Core) : Type 0 where
  pub image : new.image ≡ old.image
  pub limits : new.limits ≡ old.limits
  pub count : new.count ≡ old.count
  pub offset : new.offset ≡ old.offset
  pub retired : new.retired ≡ old.retired
  pub verdict : new.verdict ≡ old.verdict

-- the two cores differ at most in the verdict
pub record SetsVerdict (old new : Core) : Type 0 where
  pub image : new.image ≡ old.image
  pub limits : new.limits ≡ old.limits
  pub tracer : new.tracer ≡ old.tracer
  pub count : new.count ≡ old.count
  pub offset : new.offset ≡ old.offset
  pub retired : new.retired ≡ old.retired

-- the verdict with which a message ends, by the core's counts, where it is fine or has a fault
abbrev pub verdict_by : Core → Message → Option Fault → ℕ → Option Verdict
verdict_by core m (Some f) operations =
    Some (verdict.Reject (record { message = core.count + 1; offset = core.offset; head = Some m.head; fault = f }))
verdict_by core m None operations =
    if nat_lt core.limits.messages (core.count + 1)
    then Some (verdict.Undecided (core.count + 1) limit.Messages 0 (core.count + 1))
    else if is_end m.body then Some (verdict.Accept (core.count + 1) core.retired operations)
    else None

-- the core has counted a message
pub record Counts (old new : Core) (m : Message) : Type 0 where
  pub image : new.image ≡ old.image
  pub limits : new.limits ≡ old.limits
  pub tracer : new.tracer ≡ old.tracer
  pub verdict : new.verdict ≡ old.verdict
  pub count : new.count ≡ old.count + 1
  pub offset : new.offset ≡ old.offset + frame_size m
  pub retired : new.retired ≡ (if is_retire m.body then old.retired + 1 else old.retired)
