-- The verdict on a stream, frame by frame.
use Rattle.std.proofs.Common.{◌≡◌, ℕ, ◌+◌, List, [], ◌∷◌, ◌++◌, length, drop, refl, sym, ap, ◌∙◌}
use Rattle.std.proofs.Common.{None, Some, append_assoc}
use Rattle.std.specs.declared.option.Option.{Option}
use Rattle.std.proofs.Math.Seq.{drop-append_seam}
use Rattle.msg_frames.specs.declared.message.Message.{Message}
use Rattle.msg_frames.specs.declared.message.FrameFault.{FrameFault}
use Rattle.msg_frames.specs.Cut.{Cut, Ending, Bad, Short, cut, needed}
use Rattle.elf_image.specs.Images.{Loaded}
use Rattle.verdict_report.specs.declared.verdict.Verdict.{Verdict}
use Rattle.verdict_report.specs.declared.verdict.Verdict.TheVariants as verdict
use Rattle.tandem_core.specs.declared.limits.Limits.{Limits}
use Rattle.tandem_core.specs.Runs.{offset_of}
use Rattle.tandem_core.specs.Judgements.{Judgement, first_given, judge_from, verdict_at, bad_frame_of}
use Rattle.tandem_core.specs.Judgements.{truncated_of}

-- the verdict where these bytes gave these messages, and those are still to come
abbrev pub judged_after : Loaded → Limits → List ℕ → List Message → List ℕ → Judgement
judged_after image limits got before more =
    judge_from image limits (got ++ more) before (cut more).messages (cut more).ending

next : (image : Loaded) (limits : Limits) (bytes : List ℕ) (before : List Message) (m : Message) (later : List Message)
    (ending : Ending) → verdict_at image limits before m ≡ None →
    judge_from image limits bytes before (m ∷ later) ending ≡ judge_from image limits bytes (m ∷ before) later ending
unfolding judge_from
next image limits bytes before m later ending none =
    ap (λ (d : Option Verdict). first_given d (offset_of (m ∷ before)) (length (m ∷ before))
    (judge_from image limits bytes (m ∷ before) later ending)) none

-- a message that decides nothing
pub after_message : (image : Loaded) (limits : Limits) (got front more : List ℕ) (before : List Message) (m : Message) →
    cut (front ++ more) ≡ record { messages = m ∷ (cut more).messages; ending = (cut more).ending } →
    verdict_at image limits before m ≡ None →
    judged_after image limits got before (front ++ more) ≡ judged_after image limits (got ++ front) (m ∷ before) more
after_message image limits got front more before m cut_is none =
    ap (λ (c : Cut). judge_from image limits (got ++ (front ++ more)) before c.messages c.ending) cut_is
    ∙ next image limits (got ++ (front ++ more)) before m (cut more).messages (cut more).ending none
    ∙ ap (λ (bytes : List ℕ). judge_from image limits bytes (m ∷ before) (cut more).messages (cut more).ending)
    (sym (append_assoc got front more))

decides : (image : Loaded) (limits : Limits) (bytes : List ℕ) (before : List Message) (m : Message)
    (later : List Message)
    (ending : Ending) (v : Verdict) → verdict_at image limits before m ≡ Some v →
    judge_from image limits bytes before (m ∷ later) ending
    ≡ record { verdict = v; taken = offset_of (m ∷ before); frames = length (m ∷ before) }
unfolding judge_from
decides image limits bytes before m later ending v some =
    ap (λ (d : Option Verdict). first_given d (offset_of (m ∷ before)) (length (m ∷ before))
    (judge_from image limits bytes (m ∷ before) later ending)) some

-- a message that decides
pub after_decision : (image : Loaded) (limits : Limits) (got front more : List ℕ) (before : List Message) (m : Message)
    (later : List Message) (v : Verdict) → (cut (front ++ more)).messages ≡ m ∷ later →
    verdict_at image limits before m ≡ Some v →
    judged_after image limits got before (front ++ more)
    ≡ record { verdict = v; taken = offset_of (m ∷ before); frames = length (m ∷ before) }
after_decision image limits got front more before m later v cut_is some =
    ap (λ (ms : List Message). judge_from image limits (got ++ (front ++ more)) before ms
    (cut (front ++ more)).ending) cut_is
    ∙ decides image limits (got ++ (front ++ more)) before m later (cut (front ++ more)).ending v some

breaks : (image : Loaded) (limits : Limits) (bytes : List ℕ) (before : List Message) (f : FrameFault) →
    judge_from image limits bytes before [] (Bad f)
    ≡ record {
      verdict = verdict.Reject (bad_frame_of before f);
      taken = offset_of before + needed (drop (offset_of before) bytes);
      frames = length before;
    }
unfolding judge_from
breaks image limits bytes before f = refl

-- what is taken where a frame breaks the grammar
abbrev pub bad_taken : List Message → FrameFault → ℕ → Judgement
bad_taken before f n = record {
  verdict = verdict.Reject (bad_frame_of before f);
  taken = offset_of before + n;
  frames = length before;
}

-- a frame that breaks the grammar
pub after_bad : (image : Loaded) (limits : Limits) (got front more : List ℕ) (before : List Message) (f : FrameFault) →
    length got ≡ offset_of before → cut (front ++ more) ≡ record { messages = []; ending = Bad f } →
    needed (front ++ more) ≡ length front →
    judged_after image limits got before (front ++ more)
    ≡ bad_taken before f (length front)
after_bad image limits got front more before f size cut_is needs =
    let rest : drop (offset_of before) (got ++ (front ++ more)) ≡ front ++ more =
    ap (λ (n : ℕ). drop n (got ++ (front ++ more))) (sym size) ∙ drop-append_seam got (front ++ more) in
    ap (λ (c : Cut). judge_from image limits (got ++ (front ++ more)) before c.messages c.ending) cut_is
    ∙ breaks image limits (got ++ (front ++ more)) before f
    ∙ ap (λ (n : ℕ). bad_taken before f n) (ap needed rest ∙ needs)

-- what is taken where only a part of a frame came
abbrev pub short_taken : List Message → ℕ → Judgement
short_taken before have = record {
  verdict = verdict.Reject (truncated_of before have);
  taken = offset_of before + have;
  frames = length before;
}

stops : (image : Loaded) (limits : Limits) (bytes : List ℕ) (before : List Message) (have : ℕ) →
    judge_from image limits bytes before [] (Short have)
    ≡ short_taken before have
unfolding judge_from
stops image limits bytes before have = refl

-- a frame of which only a part came
pub after_short : (image : Loaded) (limits : Limits) (got front : List ℕ) (before : List Message) (have : ℕ) →
    cut front ≡ record { messages = []; ending = Short have } →
    judged_after image limits got before front
    ≡ short_taken before have
after_short image limits got front before have cut_is =
    ap (λ (c : Cut). judge_from image limits (got ++ front) before c.messages c.ending) cut_is
    ∙ stops image limits (got ++ front) before have
