-- The cut of the frames of messages, and what is printed of it.
use Rattle.std.proofs.Common.{◌≡◌, ◌≤◌, List, [], ◌∷◌, length, take, ap, sym, ◌∙◌}
use Rattle.std.specs.Prelude.{All, nat_lt}
use Rattle.std.proofs.lemmas.Bool.{le-ltb, cond-false}
use Rattle.std.proofs.lemmas.List.{take_all}
use Rattle.std.proofs.lemmas.List.Elements.{All-head, All-tail}
use Rattle.msg_frames.specs.declared.message.Message.{Message}
use Rattle.msg_frames.specs.Frames.{frame}
use Rattle.msg_frames.specs.Cut.{End, cut, put_front}
use Rattle.msg_frames.proofs.Frames.{reading_frame}
use Rattle.msg_frames.proofs.CutLaws.{cut_message, cut_end, whole_frame}
use Rattle.trace_text.specs.Lines.{text_of}
use Rattle.trace_text.specs.Texts.{Spellable}
use Rattle.trace_text.proofs.WholeTexts.{text_found}
use Rattle.text_runs.specs.Printouts.{printout_of, most_printed}
use Rattle.text_laws.specs.RoundTrips.{EndsLast, stream_of, all_printed, FramesPrintAsLines, TextsPrintAgain}

-- the frames of messages are cut into these messages
frames_cut : (messages : List Message) → All Spellable messages → EndsLast messages
    → cut (stream_of messages) ≡ record { messages = messages; ending = End }
frames_cut [] fit ends = absurd ends
frames_cut (m ∷ []) fit ends =
    let own = All-head Spellable m [] fit in
    cut_end (frame m) [] m (whole_frame m own.0 own.1) (reading_frame m own.0 own.1) ends
frames_cut (m ∷ next ∷ later) fit ends =
    let own = All-head Spellable m (next ∷ later) fit in
    cut_message (frame m) (stream_of (next ∷ later)) m (whole_frame m own.0 own.1) (reading_frame m own.0 own.1) ends.0
    ∙ ap (put_front m) (frames_cut (next ∷ later) (All-tail Spellable m (next ∷ later) fit) ends.1)

-- what is printed of a stream that has this cut, where its messages aren't too many
whole_printed : (messages : List Message) → length messages ≤ most_printed
    → printout_of (stream_of messages) (record { messages = messages; ending = End })
    ≡ all_printed (stream_of messages) (text_of (take most_printed messages))
unfolding printout_of
whole_printed messages few = cond-false (nat_lt most_printed (length messages)) _ _ (le-ltb _ _ few)

pub frames_print : FramesPrintAsLines
frames_print messages fit ends few =
    ap (printout_of (stream_of messages)) (frames_cut messages fit ends)
    ∙ whole_printed messages few
    ∙ ap (λ l. all_printed (stream_of messages) (text_of l)) (take_all most_printed messages few)

pub texts_print : TextsPrintAgain
texts_print text messages read ends few =
    let found = text_found text messages read in
    frames_print messages found.1 ends few ∙ ap (all_printed (stream_of messages)) (sym found.0)
