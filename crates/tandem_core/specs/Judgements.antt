-- The verdict on a stream.
use Rattle.std.specs.Prelude.{ℕ, ◌≡◌, ◌+◌, Option, Some, None, option_map, List}
use Rattle.std.specs.Prelude.{[], ◌∷◌, length, drop}
use Rattle.msg_frames.specs.declared.message.Message.{Message}
use Rattle.msg_frames.specs.declared.message.FrameFault.{FrameFault}
use Rattle.msg_frames.specs.Cut.{Ending, End, Bad, Short, cut, needed}
use Rattle.elf_image.specs.Images.{Loaded}
use Rattle.verdict_report.specs.declared.fault.Fault.{Fault}
use Rattle.verdict_report.specs.declared.fault.Fault.TheVariants as fault
use Rattle.verdict_report.specs.declared.verdict.Report.{Report}
use Rattle.verdict_report.specs.declared.verdict.Verdict.{Verdict}
use Rattle.verdict_report.specs.declared.verdict.Verdict.TheVariants as verdict
use Rattle.tandem_core.specs.declared.limits.Limits.{Limits}
use Rattle.order_laws.specs.Decisions.{Decision, Offends, Passes, Accepts, decision_at, operations_of}
use Rattle.order_laws.specs.Limits.{Bounds, messages_up_to}
use Rattle.tandem_core.specs.Runs.{offset_of, retired_of}

-- the report of a message that offends
abbrev pub report_of : List Message → Message → Fault → Report
report_of before m f =
    record { message = length before + 1; offset = offset_of before; head = Some m.head; fault = f }

-- that of a frame that breaks the grammar names the byte's own offset
abbrev pub bad_frame_of : List Message → FrameFault → Report
bad_frame_of before f =
    record {
      message = length before + 1;
      offset = offset_of before + f.offset;
      head = None;
      fault = fault.BadFrame f.form;
    }

-- that of a frame of which only so many bytes came
abbrev pub truncated_of : List Message → ℕ → Report
truncated_of before have =
    record {
      message = length before + 1;
      offset = offset_of before;
      head = None;
      fault = fault.Truncated have;
    }

-- no message of the stream offends: how many they are, how many of them are Retires, and how many operations they have
abbrev pub accept_of : Loaded → List Message → Verdict
accept_of image before = verdict.Accept (length before) (retired_of before) (operations_of image before)

-- the verdict that is decided at a message after these
abbrev pub verdict_of : Loaded → List Message → Message → Decision → Verdict
verdict_of image before m (Offends f) = verdict.Reject (report_of before m f)
verdict_of image before m (Passes o) = verdict.Undecided (length before + 1) o.limit o.hart o.count
verdict_of image before m Accepts = accept_of image (m ∷ before)

-- of the limits that on the number of messages alone is judged
abbrev pub bounds_of : Limits → Bounds
bounds_of limits = messages_up_to limits.messages

-- the verdict that ends with a message, where one does
abbrev pub verdict_at : Loaded → Limits → List Message → Message → Option Verdict
verdict_at image limits before m =
    option_map (verdict_of image before m) (decision_at image (bounds_of limits) before m)

-- no message of these ends with a verdict
abbrev pub IsQuiet : Loaded → Limits → List Message → Type 0
IsQuiet image limits [] = Unit {0}
IsQuiet image limits (m ∷ before) = (verdict_at image limits before m ≡ None) × IsQuiet image limits before

-- a verdict, how many bytes of the stream are taken for it, and how many whole frames among them are messages
pub record Judgement : Type 0 where
  pub verdict : Verdict
  pub taken : ℕ
  pub frames : ℕ

-- the verdict that is given once so many bytes and messages are taken, and else the later one
abbrev pub first_given : Option Verdict → ℕ → ℕ → Judgement → Judgement
first_given (Some v) taken frames later = record { verdict = v; taken = taken; frames = frames }
first_given None taken frames later = later

-- The verdict where these messages of the bytes decide nothing and those are still to come: that of the first message
-- that decides, or of the end.
unfoldable pub judge_from : Loaded → Limits → List ℕ → List Message → List Message → Ending → Judgement
judge_from image limits bytes before [] End =
    record { verdict = accept_of image before; taken = offset_of before; frames = length before }
judge_from image limits bytes before [] (Bad f) =
    record {
      verdict = verdict.Reject (bad_frame_of before f);
      taken = offset_of before + needed (drop (offset_of before) bytes);
      frames = length before;
    }
judge_from image limits bytes before [] (Short have) =
    record {
      verdict = verdict.Reject (truncated_of before have);
      taken = offset_of before + have;
      frames = length before;
    }
judge_from image limits bytes before (m ∷ later) ending =
    first_given (verdict_at image limits before m) (offset_of (m ∷ before)) (length (m ∷ before))
    (judge_from image limits bytes (m ∷ before) later ending)

-- the verdict on a stream
abbrev pub judgement : Loaded → Limits → List ℕ → Judgement
judgement image limits bytes = judge_from image limits bytes [] (cut bytes).messages (cut bytes).ending
