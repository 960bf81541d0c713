-- From a text to the frames of its messages, and from these back to lines. Messages stand in the order of the stream.
use Rattle.std.specs.Prelude.{ℕ, ◌≡◌, ◌≤◌, List, [], ◌∷◌, length, All, None, Ok, true, false}
use Rattle.std.specs.List.{flat_map}
use Rattle.msg_frames.specs.declared.message.Message.{Message}
use Rattle.msg_frames.specs.Frames.{frame}
use Rattle.msg_frames.specs.Cut.{is_end}
use Rattle.trace_text.specs.Lines.{text_of}
use Rattle.trace_text.specs.Texts.{Spellable, text_read}
use Rattle.text_runs.specs.Printouts.{Printout, printout, most_printed}

-- the last message is an End, and no other is one
abbrev pub EndsLast : List Message → Type 0
EndsLast [] = ⊥
EndsLast (m ∷ []) = is_end m.body ≡ true
EndsLast (m ∷ next ∷ later) = (is_end m.body ≡ false) × EndsLast (next ∷ later)

-- the frames of these messages, one behind the other
abbrev pub stream_of : List Message → List ℕ
stream_of messages = flat_map frame messages

-- these lines are printed of the stream, without a verdict, and all of its bytes are taken
abbrev pub all_printed : List ℕ → List ℕ → Printout
all_printed stream lines = record { lines = lines; verdict = None; taken = length stream }

-- from messages to frames to lines
abbrev pub FramesPrintAsLines : Type 0
FramesPrintAsLines = (messages : List Message) → All Spellable messages → EndsLast messages
    → length messages ≤ most_printed
    → printout (stream_of messages) ≡ all_printed (stream_of messages) (text_of messages)

-- from a text to frames to lines: what is printed of the frames of a text that is read is that text, where its last
-- line is its only End
abbrev pub TextsPrintAgain : Type 0
TextsPrintAgain = (text : List ℕ) (messages : List Message) → text_read text ≡ Ok messages → EndsLast messages
    → length messages ≤ most_printed
    → printout (stream_of messages) ≡ all_printed (stream_of messages) text
