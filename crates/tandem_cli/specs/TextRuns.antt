-- What `tandem text` writes and answers.
use Rattle.std.specs.Prelude.{ℕ, ◌≡◌, ◌+◌, ◌-◌, ◌^◌, ◌<◌, ◌≤◌, ◌++◌, nat_lt, if◌then◌else◌, true, false}
use Rattle.std.specs.Prelude.{List, [], length, drop, codes, Option, Some, None, IfSome, Result, Ok, Err}
use Rattle.std.specs.Fmt.{decimal}
use Rattle.std.specs.List.{flat_map}
use Rattle.std.specs.Io.KnownBytes.{Appends}
use Rattle.tandem_base.specs.Texts.{newline}
use Rattle.tandem_io.specs.Causes.{Rose}
use Rattle.tandem_io.specs.Inputs.{Named, SlotView, content_of}
use Rattle.msg_frames.specs.declared.message.Message.{Message}
use Rattle.msg_frames.specs.Frames.{frame}
use Rattle.verdict_report.specs.declared.verdict.Verdict.{Verdict}
use Rattle.verdict_report.specs.Lines.{verdict_line}
use Rattle.trace_text.specs.Texts.{text_read}
use Rattle.trace_text.specs.declared.fault.TextFault.{TextFault}
use Rattle.trace_text.specs.declared.fault.TextFault.TheVariants as text_fault
use Rattle.text_runs.specs.Taking.{most_text_bytes}
use Rattle.text_runs.specs.declared.printing.Unprinted.{Unprinted}
use Rattle.text_runs.specs.declared.printing.Unprinted.TheVariants as unprinted
use Rattle.text_runs.specs.declared.taking.TakenText.{TakenText}
use Rattle.text_runs.specs.declared.taking.TakenText.TheVariants as taken
use Rattle.text_runs.specs.Printouts.{Printout, printout, lines_of_stream, EndsShort, EndsAs}
use Rattle.text_runs.specs.Written.{TakesFront}
use Rattle.tandem_cli.specs.Answers.{Due, Prints, PrintsDue, PrintsNothing, status_of_verdict}
use Rattle.tandem_cli.specs.Checks.{HoldsStill}
use Rattle.tandem_cli.specs.Outcomes.{missing_line, failed_line}
use Rattle.tandem_cli.specs.declared.text_words.TextWay.{TextWay}
use Rattle.tandem_cli.specs.declared.text_words.TextWay.TheVariants as way
use Rattle.tandem_cli.specs.declared.text_outcome.StreamPrinted.{StreamPrinted}
use Rattle.tandem_cli.specs.declared.text_outcome.StreamPrinted.TheVariants as printed
use Rattle.tandem_cli.specs.declared.text_outcome.TextRead.{TextRead}
use Rattle.tandem_cli.specs.declared.text_outcome.TextRead.TheVariants as text

-- ---- lines

-- the words that `text` takes
abbrev pub text_usage_line : List ℕ
text_usage_line = codes "USAGE tandem text to STREAM | text from FILE\n"

-- the first thing in a text that is wrong
abbrev pub text_fault_line : ℕ → ℕ → List ℕ
text_fault_line line column = codes "TEXT line=" ++ decimal line ++ codes " column=" ++ decimal column ++ newline

-- a text that is too long
abbrev pub text_too_large_line : List ℕ
text_too_large_line = codes "TEXT toolarge\n"

-- what is due for words of another form
abbrev pub text_usage_due : Due
text_usage_due = record { line = text_usage_line; status = 2 }

-- ---- what is due for a stream

-- the line of a verdict, or nothing where the stream ends with an End
abbrev pub closing_line : Option Verdict → List ℕ
closing_line None = []
closing_line (Some v) = verdict_line v

-- the status of a verdict, or 0 where the stream ends with an End
abbrev pub closing_status : Option Verdict → ℕ
closing_status None = 0
closing_status (Some v) = status_of_verdict v

-- what is due for a printout: its lines, and then the line of its verdict
abbrev pub due_for_printout : Printout → Due
due_for_printout p = record { line = p.lines ++ closing_line p.verdict; status = closing_status p.verdict }

-- what is due for a stream of this name, which is there or not
abbrev pub due_for_stream : List ℕ → Option (List ℕ) → Due
due_for_stream name None = record { line = missing_line name; status = 3 }
due_for_stream name (Some stream) = due_for_printout (printout stream)

-- ---- what is due for a text

-- the frames of the messages of a text, or the first thing in it that is wrong
abbrev pub due_for_reading : Result (List Message) TextFault → Option Due
due_for_reading (Ok messages) = Some (record { line = flat_map frame messages; status = 0 })
due_for_reading (Err (text_fault.Form line column)) = Some (record { line = text_fault_line line column; status = 1 })
due_for_reading (Err text_fault.Memory) = None

-- what is due for a text that is too long
abbrev pub too_large_due : Due
too_large_due = record { line = text_too_large_line; status = 1 }

-- what is due for a text of this name, which is there or not
abbrev pub due_for_text : List ℕ → Option (List ℕ) → Option Due
due_for_text name None = Some (record { line = missing_line name; status = 3 })
due_for_text name (Some text) =
    if nat_lt most_text_bytes (length text) then Some too_large_due else due_for_reading (text_read text)

-- ---- what comes of printing a stream

-- what the printer's answer comes to
abbrev pub stream_printed : Result (Option Verdict) Unprinted → StreamPrinted
stream_printed (Ok v) = printed.Printed v
stream_printed (Err unprinted.Unread) = printed.Unread
stream_printed (Err unprinted.Unwritten) = printed.Unwritten

-- these bytes were taken of the input of this name, and the rest is left
pub record IsTakenOf (name : List ℕ) (files : List Named) (got : List ℕ) (left : Option (List ℕ)) : Type 0 where
  pub content : List ℕ
  pub rest : List ℕ
  pub there : content_of files name ≡ Some content
  pub content_is : content ≡ got ++ rest
  pub left_is : left ≡ Some rest

-- the stream of this name has this printout, and just what isn't taken for it is left
pub record IsPrintoutOf (name : List ℕ) (files : List Named) (p : Printout) (left : Option (List ℕ)) : Type 0 where
  pub stream : List ℕ
  pub there : content_of files name ≡ Some stream
  pub is : printout stream ≡ p
  pub left_is : left ≡ Some (drop p.taken stream)

-- what an outcome says of inputs that tell their names, of the bytes that were taken, and of what is left
abbrev pub StreamPrintedIs : List ℕ → List Named → StreamPrinted → List ℕ → Option (List ℕ) → Type 0
StreamPrintedIs name files printed.Missing got left = content_of files name ≡ None
StreamPrintedIs name files printed.Unopened got left = Unit {0}
StreamPrintedIs name files printed.Unread got left = IsTakenOf name files got left × EndsShort got
StreamPrintedIs name files printed.Unwritten got left = IsTakenOf name files got left
StreamPrintedIs name files (printed.Printed v) got left =
    IsPrintoutOf name files (record { lines = lines_of_stream got; verdict = v; taken = length got }) left

-- no input of the name is there, and the slot holds what it held
abbrev pub IsMissed : SlotView → SlotView → Type 0
IsMissed before after = (after.attached ≡ Some false) × HoldsStill before after

-- an input could not be opened, and the slot holds what it held
abbrev pub IsUnopened : SlotView → SlotView → Type 0
IsUnopened before after =
    Rose before.faults after.faults × (after.attached ≡ before.attached) × HoldsStill before after

-- the cause of an outcome, by the slot of the stream; where the sink failed its count rose
abbrev pub StreamPrintedCaused : StreamPrinted → SlotView → SlotView → Type 0
StreamPrintedCaused printed.Missing before after = IsMissed before after
StreamPrintedCaused printed.Unopened before after = IsUnopened before after
StreamPrintedCaused printed.Unread before after = Rose before.faults after.faults × (after.attached ≡ Some true)
StreamPrintedCaused printed.Unwritten before after = after.attached ≡ Some true
StreamPrintedCaused (printed.Printed v) before after = (after.attached ≡ Some true) × EndsAs v after.ended

-- what an outcome says of what the sink took: nothing, the lines, or a front of them
abbrev pub TakesLines : StreamPrinted → List ℕ → Option (List ℕ) → Option (List ℕ) → Type 0
TakesLines printed.Missing got old new = Appends old new []
TakesLines printed.Unopened got old new = Appends old new []
TakesLines printed.Unread got old new = Appends old new (lines_of_stream got)
TakesLines printed.Unwritten got old new = (more : List ℕ) → TakesFront old new (lines_of_stream (got ++ more))
TakesLines (printed.Printed v) got old new = Appends old new (lines_of_stream got)

-- the last line and the status of an outcome, none where the sink failed before
abbrev pub last_due : List ℕ → StreamPrinted → Option Due
last_due name printed.Missing = Some (record { line = missing_line name; status = 3 })
last_due name printed.Unopened = Some (record { line = failed_line name; status = 3 })
last_due name printed.Unread = Some (record { line = failed_line name; status = 3 })
last_due name printed.Unwritten = None
last_due name (printed.Printed v) = Some (record { line = closing_line v; status = closing_status v })

-- what was due was printed, where anything was; else 6 is answered
abbrev pub PrintsLast : Option Due → ℕ → Option (List ℕ) → Option (List ℕ) → ℕ → ℕ → Type 0
PrintsLast None result old new before after = (result ≡ 6) × Appends old new []
PrintsLast (Some due) result old new before after = Prints due result old new before after

-- What was printed for an outcome: the lines of the messages that were whole and then the last line, with its status.
-- Or the sink's count rose, the sink took a front of what was due whatever follows, and 6 was answered.
abbrev pub PrintsStream : List ℕ → StreamPrinted → List ℕ → ℕ → Option (List ℕ) → Option (List ℕ) → ℕ → ℕ → Type 0
PrintsStream name printed.Missing got result old new before after =
    Prints (record { line = missing_line name; status = 3 }) result old new before after
PrintsStream name printed.Unopened got result old new before after =
    Prints (record { line = failed_line name; status = 3 }) result old new before after
PrintsStream name printed.Unread got result old new before after =
    Prints (record { line = lines_of_stream got ++ failed_line name; status = 3 }) result old new before after
PrintsStream name printed.Unwritten got result old new before after =
    (result ≡ 6) × Rose before after × ((more : List ℕ) → TakesFront old new (lines_of_stream (got ++ more)))
PrintsStream name (printed.Printed v) got result old new before after =
    Prints (record { line = lines_of_stream got ++ closing_line v; status = closing_status v }) result old new before
    after

-- The answer to `text to` with this name: an outcome with what it says and its cause, and its lines.
pub record PrintsAs (name : List ℕ) (names : Option (List Named)) (stream stream' : SlotView) (result : ℕ)
    (old new : Option (List ℕ)) (before after : ℕ) : Type 0 where
  pub outcome : StreamPrinted
  pub got : List ℕ
  pub is : IfSome names (λ files. StreamPrintedIs name files outcome got stream'.left)
  pub caused : StreamPrintedCaused outcome stream stream'
  pub prints : PrintsStream name outcome got result old new before after

-- no count of faults of the stream and of the sink rose, or stands at its end
pub record NoStreamFaultRose (stream stream' : SlotView) (before after : ℕ) : Type 0 where
  pub source : (stream'.faults ≤ stream.faults) × (stream.faults < 2 ^ 64 - 1)
  pub out : (after ≤ before) × (before < 2 ^ 64 - 1)

-- the answer to `text to` where no count rose: what is due for the stream, of which just what isn't taken is left
pub record SettledStream (name : List ℕ) (files : List Named) (left : Option (List ℕ)) (result : ℕ)
    (old new : Option (List ℕ)) : Type 0 where
  pub status : result ≡ (due_for_stream name (content_of files name)).status
  pub line : Appends old new (due_for_stream name (content_of files name)).line
  pub left_is : IfSome (content_of files name) (λ stream. left ≡ Some (drop (printout stream).taken stream))

-- ---- what comes of reading a text

-- what the reader's answer comes to
abbrev pub text_taken : TakenText → TextRead
text_taken (taken.Text bytes) = text.Whole bytes
text_taken taken.TooLarge = text.TooLarge
text_taken taken.Failed = text.Unread
text_taken taken.Memory = text.Memory

-- at most so many bytes were taken of the input of this name
abbrev pub TakesAtMostOf : List ℕ → List Named → ℕ → Option (List ℕ) → Type 0
TakesAtMostOf name files most left = (got : List ℕ) × IsTakenOf name files got left × (length got ≤ most)

-- what an outcome says of inputs that tell their names, and of what is left
abbrev pub TextReadIs : List ℕ → List Named → TextRead → Option (List ℕ) → Type 0
TextReadIs name files text.Missing left = content_of files name ≡ None
TextReadIs name files text.Unopened left = Unit {0}
TextReadIs name files text.Unread left = TakesAtMostOf name files most_text_bytes left
TextReadIs name files text.Memory left = TakesAtMostOf name files most_text_bytes left
TextReadIs name files text.TooLarge left =
    (content : List ℕ) × (content_of files name ≡ Some content) × (most_text_bytes < length content)
    × (left ≡ Some (drop (most_text_bytes + 1) content))
TextReadIs name files (text.Whole bytes) left =
    (content_of files name ≡ Some bytes.items) × (length bytes.items ≤ most_text_bytes) × (left ≡ Some [])

-- the cause of an outcome, by the slot of the stream, where the text is attached
abbrev pub TextReadCaused : TextRead → SlotView → SlotView → Type 0
TextReadCaused text.Missing before after = IsMissed before after
TextReadCaused text.Unopened before after = IsUnopened before after
TextReadCaused text.Unread before after =
    Rose before.faults after.faults × (after.attached ≡ Some true) × (after.ended ≡ false)
TextReadCaused text.Memory before after = after.attached ≡ Some true
TextReadCaused text.TooLarge before after = after.attached ≡ Some true
TextReadCaused (text.Whole bytes) before after = (after.attached ≡ Some true) × (after.ended ≡ true)

-- what is due for an outcome; nothing where memory was refused
abbrev pub due_for_read : List ℕ → TextRead → Option Due
due_for_read name text.Missing = Some (record { line = missing_line name; status = 3 })
due_for_read name text.Unopened = Some (record { line = failed_line name; status = 3 })
due_for_read name text.Unread = Some (record { line = failed_line name; status = 3 })
due_for_read name text.Memory = None
due_for_read name text.TooLarge = Some too_large_due
due_for_read name (text.Whole bytes) = due_for_reading (text_read bytes.items)

-- The answer to `text from` with this name: an outcome with what it says and its cause, and what is due for it.
pub record WritesAs (name : List ℕ) (names : Option (List Named)) (stream stream' : SlotView) (result : ℕ)
    (old new : Option (List ℕ)) (before after : ℕ) : Type 0 where
  pub outcome : TextRead
  pub is : IfSome names (λ files. TextReadIs name files outcome stream'.left)
  pub caused : TextReadCaused outcome stream stream'
  pub prints : PrintsDue (due_for_read name outcome) result old new before after

-- the answer to `text from` where no count rose: memory was refused, or what is due for the text
pub data SettledText (name : List ℕ) (files : List Named) (result : ℕ) (old new : Option (List ℕ)) : Type 0 where
  no_memory : PrintsNothing result old new → SettledText name files result old new
  written : (due : Due) → due_for_text name (content_of files name) ≡ Some due → result ≡ due.status
      → Appends old new due.line → SettledText name files result old new

-- ---- both

-- the answer to words of the form of `text`, by their way
abbrev pub runs_text : TextWay → List ℕ → Option (List Named) → SlotView → SlotView → ℕ → Option (List ℕ)
    → Option (List ℕ) → ℕ → ℕ → Type 0
runs_text way.To name names stream stream' result old new before after =
    PrintsAs name names stream stream' result old new before after
runs_text way.From name names stream stream' result old new before after =
    WritesAs name names stream stream' result old new before after

-- the same where no count rose
abbrev pub settles_text : TextWay → List ℕ → List Named → Option (List ℕ) → ℕ → Option (List ℕ) → Option (List ℕ)
    → Type 0
settles_text way.To name files left result old new = SettledStream name files left result old new
settles_text way.From name files left result old new = SettledText name files result old new
