-- The messages that a text spells, and else the line and the column of the first thing that is wrong.
use Rattle.std.specs.Prelude.{ℕ, ◌+◌, ◌-◌, ◌==◌, nat_lt, if◌then◌else◌, List, [], ◌∷◌, length, drop}
use Rattle.std.specs.Prelude.{Option, Some, None, Result, Ok, Err}
use Rattle.msg_frames.specs.declared.message.Message.{Message}
use Rattle.msg_frames.specs.Frames.{Fits, InRange}
use Rattle.trace_text.specs.Reading.{line_read}
use Rattle.trace_text.specs.Words.{until}
use Rattle.trace_text.specs.declared.fault.TextFault.{TextFault}
use Rattle.trace_text.specs.declared.fault.TextFault.TheVariants as fault
use Rattle.trace_text.specs.declared.text_line.TextLine.{TextLine}

-- a message that has a line: it keeps the rules of its fields, and each number is in its field's range
abbrev pub Spellable : Message → Type 0
Spellable message = Fits message × InRange message

-- a text falls into lines that a newline ends, without it, and what is left behind the last newline
pub record Lines : Type 0 where
  pub whole : List (List ℕ)
  pub left : List ℕ

-- a byte in front of the first line
abbrev pub put_byte : ℕ → List (List ℕ) → List ℕ → Lines
put_byte byte [] left = record { whole = []; left = byte ∷ left }
put_byte byte (line ∷ lines) left = record { whole = (byte ∷ line) ∷ lines; left = left }

-- the lines of a text; 10 is the newline
abbrev pub text_lines : List ℕ → Lines
text_lines [] = record { whole = []; left = [] }
text_lines (byte ∷ bytes) =
    if byte == 10 then record { whole = [] ∷ (text_lines bytes).whole; left = (text_lines bytes).left }
    else put_byte byte (text_lines bytes).whole (text_lines bytes).left

-- the column of the word at a place, from 1
abbrev pub fault_at : ℕ → ℕ → TextFault
fault_at line place = fault.Form line (place + 1)

-- what is left behind the last newline has to be nothing: its first wrong word is named, or where it
-- has none the newline that is missing
abbrev pub rest_fault : ℕ → List ℕ → Result Message ℕ → TextFault
rest_fault number left (Ok _) = fault_at number (length left)
rest_fault number left (Err place) = fault_at number place

-- the messages of the lines that are left, the first of them with this number
abbrev pub left_read : ℕ → List ℕ → Result (List Message) TextFault
left_read number left = if length left == 0 then Ok [] else Err (rest_fault number left (line_read left))

-- a message in front of others
abbrev pub message_before : Message → Result (List Message) TextFault → Result (List Message) TextFault
message_before message (Ok messages) = Ok (message ∷ messages)
message_before message (Err broken) = Err broken

-- the message of a line in front of those of the others
abbrev pub line_before : ℕ → Result Message ℕ → Result (List Message) TextFault → Result (List Message) TextFault
line_before number (Ok message) later = message_before message later
line_before number (Err place) later = Err (fault_at number place)

-- the messages of lines, the first of them with this number
abbrev pub lines_read : ℕ → List (List ℕ) → List ℕ → Result (List Message) TextFault
lines_read number [] left = left_read number left
lines_read number (line ∷ lines) left = line_before number (line_read line) (lines_read (number + 1) lines left)

-- the messages of a text whose first line has this number
abbrev pub text_from : ℕ → List ℕ → Result (List Message) TextFault
text_from number text = lines_read number (text_lines text).whole (text_lines text).left

-- the messages of a text
unfoldable pub text_read : List ℕ → Result (List Message) TextFault
text_read text = text_from 1 text

-- ---- one line of a text

-- the line that ends at a place, with the place behind its newline; else the column of what is wrong
abbrev pub line_answer : ℕ → ℕ → ℕ → Result Message ℕ → Result (Option TextLine) ℕ
line_answer size start end (Err place) = Err (place + 1)
line_answer size start end (Ok message) =
    if nat_lt end size then Ok (Some (record { message = message; next = end + 1 })) else Err (end - start + 1)

-- the line that begins at a place, or nothing where the text ends there; else the column of what is
-- wrong
unfoldable pub text_line_at : List ℕ → ℕ → Result (Option TextLine) ℕ
text_line_at text start =
    if start == length text then Ok None
    else line_answer (length text) start (start + length (until 10 (drop start text)))
    (line_read (until 10 (drop start text)))
