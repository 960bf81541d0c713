-- The frames of messages, and what they decide.
use Rattle.std.proofs.Common.{◌≡◌, ℕ, ◌+◌, Bool, true, false, List, [], ◌∷◌, ◌++◌, length, refl, sym, ap, ◌∙◌}
use Rattle.std.proofs.Common.{Option, None, Some, append_assoc, length-append}
use Rattle.std.specs.Prelude.{All, option_map, if◌then◌else◌}
use Rattle.std.proofs.lemmas.List.Elements.{All-head, All-tail}
use Rattle.msg_frames.specs.declared.message.Message.{Message}
use Rattle.msg_frames.specs.Frames.{frame, Spells}
use Rattle.msg_frames.specs.Cut.{cut, is_end}
use Rattle.msg_frames.proofs.CutLaws.{cut_message, whole_frame}
use Rattle.msg_frames.proofs.Frames.{reading_frame}
use Rattle.elf_image.specs.Images.{Loaded}
use Rattle.verdict_report.specs.declared.fault.Fault.{Fault}
use Rattle.order_laws.specs.Decisions.{Decision, Offends, Passes, Accepts, decision_at}
use Rattle.order_laws.specs.Faults.{message_fault}
use Rattle.order_laws.specs.Limits.{Overrun, overrun_of}
use Rattle.tandem_core.specs.declared.limits.Limits.{Limits}
use Rattle.tandem_base.specs.FirstFault.{◌or_else◌}
use Rattle.tandem_core.specs.Runs.{frame_size, frames_of, offset_of}
use Rattle.tandem_core.specs.Judgements.{judge_from, judgement, bounds_of, verdict_of, verdict_at, IsQuiet}
use Rattle.tandem_core.specs.Judging.{IsSpelled, Lacks}
use Rattle.tandem_core.proofs.JudgeLaws.{judged_after, after_message}

-- where nothing is decided the message is no End
last_none : (f : Option Fault) (o : Option Overrun) (ends : Bool) → (option_map Offends f or_else option_map Passes o
    or_else (if ends then Some Accepts else None)) ≡ None → ends ≡ false
last_none (Some f) o ends e = absurd (cc)
last_none None (Some o) ends e = absurd (cc)
last_none None None true e = absurd (cc)
last_none None None false e = refl

pub undecided : (image : Loaded) (limits : Limits) (before : List Message) (m : Message)
    → verdict_at image limits before m ≡ None → decision_at image (bounds_of limits) before m ≡ None
undecided image limits before m quiet = at (decision_at image (bounds_of limits) before m) quiet
  where
    at : (d : Option Decision) → option_map (verdict_of image before m) d ≡ None → d ≡ None
    at None e = refl
    at (Some d) e = absurd (cc)

-- a message that ends with no verdict is no End
pub no_end : (image : Loaded) (limits : Limits) (before : List Message) (m : Message)
    → verdict_at image limits before m ≡ None → is_end m.body ≡ false
no_end image limits before m quiet = last_none (message_fault image before m)
    (overrun_of image (bounds_of limits) (m ∷ before) m.head.hart) (is_end m.body)
    (undecided image limits before m quiet)

-- the frames are as long as the messages say
pub frames_size : (before : List Message) → length (frames_of before) ≡ offset_of before
unfolding frame_size
frames_size [] = refl
frames_size (m ∷ before) =
    length-append (frames_of before) (frame m) ∙ ap (λ (n : ℕ). n + length (frame m)) (frames_size before)

-- a frame of a message, behind those of messages that decide nothing
pub after_frame : (image : Loaded) (limits : Limits) (before : List Message) (m : Message) (more : List ℕ) →
    Spells (frame m) m → verdict_at image limits before m ≡ None →
    judged_after image limits (frames_of before) before (frame m ++ more)
    ≡ judged_after image limits (frames_of (m ∷ before)) (m ∷ before) more
after_frame image limits before m more spells quiet =
    after_message image limits (frames_of before) (frame m) more before m
    (cut_message (frame m) more m (whole_frame m spells.fits spells.holds)
    (reading_frame m spells.fits spells.holds) (no_end image limits before m quiet))
    quiet

-- the judgement of frames that decide nothing and of what follows them, from there on
pub frames_judged : (image : Loaded) (limits : Limits) (before : List Message) (more : List ℕ) →
    All IsSpelled before → IsQuiet image limits before →
    judgement image limits (frames_of before ++ more) ≡ judged_after image limits (frames_of before) before more
frames_judged image limits [] more spelled quiet = refl
frames_judged image limits (m ∷ before) more spelled quiet =
    ap (λ (bytes : List ℕ). judgement image limits bytes) (append_assoc (frames_of before) (frame m) more)
    ∙ frames_judged image limits before (frame m ++ more) (All-tail IsSpelled m before spelled) quiet.1
    ∙ after_frame image limits before m more (All-head IsSpelled m before spelled) quiet.0

-- bytes that decide nothing yet, and what follows them
pub lacking_judged : (image : Loaded) (limits : Limits) (got more : List ℕ) (lacks : Lacks image limits got) →
    judgement image limits (got ++ more)
    ≡ judge_from image limits (got ++ more) lacks.before (cut (lacks.part ++ more)).messages
    (cut (lacks.part ++ more)).ending
lacking_judged image limits got more lacks =
    let whole = frames_of lacks.before in
    let same : got ++ more ≡ whole ++ (lacks.part ++ more) =
    ap (λ (bytes : List ℕ). bytes ++ more) lacks.is ∙ append_assoc whole lacks.part more in
    ap (λ (bytes : List ℕ). judgement image limits bytes) same
    ∙ frames_judged image limits lacks.before (lacks.part ++ more) lacks.spelled lacks.quiet
    ∙ ap (λ (bytes : List ℕ). judge_from image limits bytes lacks.before (cut (lacks.part ++ more)).messages
    (cut (lacks.part ++ more)).ending)
    (sym same)
