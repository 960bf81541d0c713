-- How far the judging of a source has come, and what each next frame makes of it.
use Rattle.std.proofs.Common.{◌≡◌, ℕ, ◌+◌, inl, inr, List, [], ◌∷◌, ◌++◌}
use Rattle.std.proofs.Common.{length, refl, sym, ap, ◌∙◌, subst, arith, Option, Some, Ok, Err}
use Rattle.std.proofs.Common.{append_assoc, length-append}
use Rattle.std.specs.Prelude.{All}
use Rattle.std.specs.Io.KnownBytes.{IsAtEnd}
use Rattle.std.proofs.lemmas.Bool.{cases_Bool}
use Rattle.std.proofs.lemmas.List.Elements.{All-nil, All-cons}
use Rattle.tandem_io.specs.Told.{Log}
use Rattle.msg_frames.specs.declared.message.Message.{Message}
use Rattle.msg_frames.specs.declared.message.FrameFault.{FrameFault}
use Rattle.msg_frames.specs.Frames.{Spells}
use Rattle.msg_frames.specs.Reading.{reading}
use Rattle.msg_frames.specs.Cut.{cut, is_end}
use Rattle.msg_frames.specs.Taking.{TakenFrom, IsWholeFrame, IsShort}
use Rattle.msg_frames.proofs.Taking.{TakenFrom-nil, TakenFrom-trans}
use Rattle.msg_frames.proofs.CutLaws.{needed_least, needed_front, cut_message, cut_end, cut_bad, cut_short}
use Rattle.elf_image.specs.Images.{Loaded}
use Rattle.verdict_report.specs.declared.verdict.Verdict.{Verdict}
use Rattle.verdict_report.specs.declared.verdict.Verdict.TheVariants as verdict
use Rattle.tandem_core.specs.declared.core_state.Core.{Core}
use Rattle.tandem_core.specs.declared.limits.Limits.{Limits}
use Rattle.tandem_core.specs.Runs.{frames_of, offset_of}
use Rattle.tandem_core.specs.Judgements.{Judgement, judgement, verdict_at, bad_frame_of}
use Rattle.tandem_core.specs.Judgements.{truncated_of}
use Rattle.tandem_core.specs.Cores.{CoreStands}
use Rattle.tandem_core.specs.Judging.{IsSpelled, Decides, Halts, Lacks}
use Rattle.tandem_core.proofs.JudgeLaws.{judged_after, short_taken, after_decision, after_bad, after_short}
use Rattle.tandem_core.proofs.FrameLaws.{frames_size, frames_judged}

-- the core stands for messages whose frames are just what was taken
pub record Progress (image : Loaded) (limits : Limits) (core : Core) (left left' : Option (List ℕ))
    (log log' : Log) : Type 0 where
  pub before : List Message
  pub took : TakenFrom left left' log log' (frames_of before)
  pub stands : CoreStands image limits core before
  pub spelled : All IsSpelled before

-- nothing is taken yet
pub begins : {image : Loaded} {limits : Limits} {core : Core} (left : Option (List ℕ)) (log : Log) →
    CoreStands image limits core [] → Progress image limits core left left log log
begins left log stands = record {
  before = [];
  took = TakenFrom-nil left log;
  stands = stands;
  spelled = All-nil IsSpelled;
}

-- what was taken is one frame more
pub takes : {left left' left'' : Option (List ℕ)} {log log' log'' : Log} (before : List Message) (front : List ℕ) →
    TakenFrom left left' log log' (frames_of before) → TakenFrom left' left'' log' log'' front →
    TakenFrom left left'' log log'' (frames_of before ++ front)
takes {left} {left'} {left''} {log} {log'} {log''} before front took more =
    TakenFrom-trans left left' left'' log log' log'' (frames_of before) front took more

-- a message that ends with no verdict
pub goes_on : {image : Loaded} {limits : Limits} {core core' : Core} {left left' left'' : Option
    (List ℕ)} {log log' log'' : Log}
    (front : List ℕ) (m : Message) (p : Progress image limits core left left' log log') →
    TakenFrom left' left'' log' log'' front → Spells front m → CoreStands image limits core' (m ∷ p.before) →
    Progress image limits core' left left'' log log''
goes_on {left = left} {left'' = left''} {log = log} {log'' = log''} front m p took spells stands = record {
  before = m ∷ p.before;
  took =
      subst (λ (bytes : List ℕ). TakenFrom left left'' log log'' (frames_of p.before ++ bytes)) spells.is
      (takes p.before front p.took took);
  stands = stands;
  spelled = All-cons IsSpelled m p.before (subst (λ (bytes : List ℕ). Spells bytes m) spells.is spells) p.spelled;
}

-- the judgement of all, from what was taken last on
from_here : {image : Loaded} {limits : Limits} {core : Core} {left left' : Option (List ℕ)} {log log' : Log}
    (front more : List ℕ)
    (p : Progress image limits core left left' log log') →
    judgement image limits ((frames_of p.before ++ front) ++ more)
    ≡ judged_after image limits (frames_of p.before) p.before (front ++ more)
from_here {image} {limits} {core} {left} {left'} {log} {log'} front more p =
    ap (λ (bytes : List ℕ). judgement image limits bytes) (append_assoc (frames_of p.before) front more)
    ∙ frames_judged image limits p.before (front ++ more) p.spelled p.stands.quiet

-- the length of what was taken with one more frame
sized : (before : List Message) (front : List ℕ) → length (frames_of before ++ front) ≡ offset_of before + length front
sized before front = length-append (frames_of before) front ∙ ap (λ (n : ℕ). n + length front) (frames_size before)

grown : (before : List Message) (front : List ℕ) (m : Message) → Spells front m →
    length (frames_of before ++ front) ≡ offset_of (m ∷ before)
grown before front m spells =
    ap (λ (bytes : List ℕ). length (frames_of before ++ bytes)) spells.is ∙ frames_size (m ∷ before)

abbrev at_size : ℕ → Verdict → ℕ → Judgement
at_size k v n = record { verdict = v; taken = n; frames = k }

-- a message that decides
pub given_at : {image : Loaded} {limits : Limits} {core : Core} {left left' left'' : Option (List ℕ)} {log log' : Log}
    (front : List ℕ) (m : Message) (v : Verdict) (p : Progress image limits core left left' log log') →
    IsWholeFrame front → reading front ≡ Ok m → Spells front m → verdict_at image limits p.before m ≡ Some v →
    Decides image limits (frames_of p.before ++ front) left'' v
given_at {image} {limits} {core} {left} {left'} {left''} {log} {log'} front m v p whole reads spells here =
    let size = grown p.before front m spells in
    let first : (more : List ℕ) → (later : List Message) × ((cut (front ++ more)).messages ≡ m ∷ later) =
    λ more. elim (cases_Bool (is_end m.body)) [
      | inl ends ↦ ([], ap (λ c. c.messages) (cut_end front more m whole reads ends))
      | inr on ↦ ((cut more).messages, ap (λ c. c.messages) (cut_message front more m whole reads on))
    ] in
    record {
      frames = length (m ∷ p.before);
      verdict = inl (λ more.
          from_here front more p
          ∙ after_decision image limits (frames_of p.before) front more p.before m (first more).0 v (first more).1 here
          ∙ ap (λ (n : ℕ). at_size (length (m ∷ p.before)) v n) (sym size));
    }

-- a frame that spells no message
pub malformed : {image : Loaded} {limits : Limits} {core : Core} {left left' left'' : Option (List ℕ)} {log log' : Log}
    (front : List ℕ) (f : FrameFault) (v : Verdict) (p : Progress image limits core left left' log log') →
    IsWholeFrame front → reading front ≡ Err f → v ≡ verdict.Reject (bad_frame_of p.before f) →
    Decides image limits (frames_of p.before ++ front) left'' v
malformed {image} {limits} {core} {left} {left'} {left''} {log} {log'} front f v p whole reads is =
    let least = needed_least front in
    record {
      frames = length p.before;
      verdict = inl (λ more.
          from_here front more p
          ∙ after_bad image limits (frames_of p.before) front more p.before f (frames_size p.before)
          (cut_bad front more f whole reads)
          (needed_front front more (omega arith) ∙ sym whole)
          ∙ ap (λ (w : Verdict). at_size (length p.before) w (offset_of p.before + length front)) (sym is)
          ∙ ap (λ (n : ℕ). at_size (length p.before) v n) (sym (sized p.before front)));
    }

-- the end of the input within a frame
pub ends_short : {image : Loaded} {limits : Limits} {core : Core} {left left' left'' : Option (List ℕ)} {log log' : Log}
    (front : List ℕ) (have : ℕ) (v : Verdict) (p : Progress image limits core left left' log log') →
    IsShort front → length front ≡ have → IsAtEnd left'' → v ≡ verdict.Reject (truncated_of p.before have) →
    Decides image limits (frames_of p.before ++ front) left'' v
ends_short {image} {limits} {core} {left} {left'} {left''} {log} {log'} front have v p short size_is at_end is =
    let size : length (frames_of p.before ++ front) ≡ offset_of p.before + have =
    sized p.before front ∙ ap (λ (n : ℕ). offset_of p.before + n) size_is in
    record {
      frames = length p.before;
      verdict = inr (
        at_end,
        frames_judged image limits p.before front p.spelled p.stands.quiet
            ∙ after_short image limits (frames_of p.before) front p.before (length front) (cut_short front short)
            ∙ ap (λ (n : ℕ). short_taken p.before n) size_is
            ∙ ap (λ (w : Verdict). at_size (length p.before) w (offset_of p.before + have)) (sym is)
            ∙ ap (λ (n : ℕ). at_size (length p.before) v n) (sym size),
      );
    }

-- a read that failed within a frame
pub lacks_part : {image : Loaded} {limits : Limits} {core : Core} {left left' : Option (List ℕ)} {log log' : Log}
    (front : List ℕ) (p : Progress image limits core left left' log log') → IsShort front →
    Lacks image limits (frames_of p.before ++ front)
lacks_part front p short = record {
  before = p.before;
  part = front;
  is = refl;
  spelled = p.spelled;
  quiet = p.stands.quiet;
  short = short;
}

-- a message that is whole, and of which nothing more is known
pub halts_at : {image : Loaded} {limits : Limits} {core : Core} {left left' : Option (List ℕ)} {log log' : Log}
    (front : List ℕ) (m : Message) (p : Progress image limits core left left' log log') → Spells front m →
    Halts image limits (frames_of p.before ++ front)
halts_at front m p spells = record {
  before = p.before;
  last = Some m;
  is = ap (λ (bytes : List ℕ). frames_of p.before ++ bytes) spells.is;
  spelled = p.spelled;
  spelled_last = subst (λ (bytes : List ℕ). Spells bytes m) spells.is spells;
  quiet = p.stands.quiet;
}
