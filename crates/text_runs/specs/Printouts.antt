-- What is printed of a stream: the lines of its messages, and then, where its form breaks or its messages are too many,
-- a verdict.
use Rattle.std.specs.Prelude.{ℕ, ◌≡◌, ◌+◌, ◌⊎◌, ◌++◌, nat_lt, if◌then◌else◌, Bool, true, List, length, take, drop}
use Rattle.std.specs.Prelude.{Option, Some, None, Result, Ok, Err}
use Rattle.std.specs.List.{flat_map}
use Rattle.std.specs.Io.KnownBytes.{Appends, IsAtEnd}
use Rattle.msg_frames.specs.declared.message.Message.{Message}
use Rattle.msg_frames.specs.declared.message.FrameFault.{FrameFault}
use Rattle.msg_frames.specs.Frames.{frame}
use Rattle.msg_frames.specs.Cut.{Cut, Ending, End, Bad, Short, cut, needed}
use Rattle.verdict_report.specs.declared.fault.Fault.TheVariants as fault
use Rattle.verdict_report.specs.declared.verdict.Limit.TheVariants as limit
use Rattle.verdict_report.specs.declared.verdict.Verdict.{Verdict}
use Rattle.verdict_report.specs.declared.verdict.Verdict.TheVariants as verdict
use Rattle.trace_text.specs.Lines.{text_of}
use Rattle.tandem_core.specs.Limits.{ceilings}
use Rattle.text_runs.specs.declared.printing.Unprinted.{Unprinted}
use Rattle.text_runs.specs.declared.printing.Unprinted.TheVariants as unprinted
use Rattle.text_runs.specs.Written.{TakesFront}

-- no message with a greater number is printed
abbrev pub most_printed : ℕ
most_printed = ceilings.messages

-- how many bytes the frames of these messages have
abbrev pub frames_length : List Message → ℕ
frames_length messages = length (flat_map frame messages)

-- ---- verdicts on the form of a stream

-- a frame that breaks the grammar, behind so many messages in so many bytes
abbrev pub bad_frame_at : ℕ → ℕ → FrameFault → Verdict
bad_frame_at count offset broken =
    verdict.Reject (record {
      message = count + 1;
      offset = offset + broken.offset;
      head = None;
      fault = fault.BadFrame broken.form;
    })

-- a frame of which only so many bytes came
abbrev pub truncated_at : ℕ → ℕ → ℕ → Verdict
truncated_at count offset have =
    verdict.Reject (record {
      message = count + 1;
      offset = offset;
      head = None;
      fault = fault.Truncated have;
    })

-- more messages than are printed
abbrev pub passed_limit : Verdict
passed_limit = verdict.Undecided (most_printed + 1) limit.Messages 0 (most_printed + 1)

-- the verdict on a stream that ends so, behind so many messages in so many bytes; none where an End ends it
abbrev pub form_verdict : ℕ → ℕ → Ending → Option Verdict
form_verdict count offset End = None
form_verdict count offset (Bad broken) = Some (bad_frame_at count offset broken)
form_verdict count offset (Short have) = Some (truncated_at count offset have)

-- ---- the printout

-- what is printed of a stream, and how many of its bytes are taken for it
pub record Printout : Type 0 where
  pub lines : List ℕ
  pub verdict : Option Verdict
  pub taken : ℕ

-- the lines of the messages of a cut, as many as are printed
abbrev pub lines_in : Cut → List ℕ
lines_in c = text_of (take most_printed c.messages)

-- how many bytes are taken of a stream that ends so behind so many bytes: up to what breaks it, or all that came
abbrev pub taken_up_to : List ℕ → ℕ → Ending → ℕ
taken_up_to bytes offset End = offset
taken_up_to bytes offset (Bad broken) = offset + needed (drop offset bytes)
taken_up_to bytes offset (Short have) = offset + have

-- the printout of a stream that has this cut: of more messages than are printed the first one too many is taken
unfoldable pub printout_of : List ℕ → Cut → Printout
printout_of bytes c =
    if nat_lt most_printed (length c.messages) then record {
      lines = lines_in c;
      verdict = Some passed_limit;
      taken = frames_length (take (most_printed + 1) c.messages);
    } else record {
      lines = lines_in c;
      verdict = form_verdict (length c.messages) (frames_length c.messages) c.ending;
      taken = taken_up_to bytes (frames_length c.messages) c.ending;
    }

-- the printout of a stream
abbrev pub printout : List ℕ → Printout
printout bytes = printout_of bytes (cut bytes)

-- the lines of the messages that are whole in these bytes
abbrev pub lines_of_stream : List ℕ → List ℕ
lines_of_stream bytes = lines_in (cut bytes)

-- ---- what was printed

-- these bytes give this verdict, or end with an End, and all of them were needed: whatever follows, or because nothing
-- does, as the last read of the source has answered
abbrev pub IsPrinted : List ℕ → Option (List ℕ) → Bool → Option Verdict → Type 0
IsPrinted got left ended v =
    ((more : List ℕ) → printout (got ++ more)
    ≡ record { lines = lines_of_stream got; verdict = v; taken = length got })
    ⊎ ((ended ≡ true) × IsAtEnd left
    × (printout got ≡ record { lines = lines_of_stream got; verdict = v; taken = length got }))

-- where a verdict tells that the input ended within a frame, the last read has answered so
abbrev pub EndsAs : Option Verdict → Bool → Type 0
EndsAs v ended = (count offset have : ℕ) → v ≡ Some (truncated_at count offset have) → ended ≡ true

-- these bytes end within a frame
abbrev pub EndsShort : List ℕ → Type 0
EndsShort got = (have : ℕ) × ((cut got).ending ≡ Short have)

-- What an answer says of the bytes that were taken, of what is left, and of what the sink took: all the lines, or those
-- up to a read that failed, or a front of the lines that come to be whatever follows.
abbrev pub PrintedAs : Result (Option Verdict) Unprinted → List ℕ → Option (List ℕ) → Bool → Option (List ℕ)
    → Option (List ℕ) → Type 0
PrintedAs (Ok v) got left ended old new = IsPrinted got left ended v × Appends old new (lines_of_stream got)
PrintedAs (Err unprinted.Unread) got left ended old new = EndsShort got × Appends old new (lines_of_stream got)
PrintedAs (Err unprinted.Unwritten) got left ended old new =
    (more : List ℕ) → TakesFront old new (lines_of_stream (got ++ more))
