-- What is judged of a source.
use Rattle.std.specs.Prelude.{ℕ, ◌≡◌, ◌⊎◌, List, [], ◌++◌, length, All, Option, IfSome, Result, Ok, Err}
use Rattle.std.specs.Option.{option_map_or}
use Rattle.std.specs.Io.KnownBytes.{IsAtEnd}
use Rattle.elf_image.specs.Images.{Loaded}
use Rattle.msg_frames.specs.declared.message.Message.{Message}
use Rattle.msg_frames.specs.Frames.{frame, Spells}
use Rattle.msg_frames.specs.Taking.{IsShort}
use Rattle.verdict_report.specs.declared.fault.Fault.TheVariants as fault
use Rattle.verdict_report.specs.declared.verdict.Verdict.{Verdict}
use Rattle.verdict_report.specs.declared.verdict.Verdict.TheVariants as verdict
use Rattle.tandem_core.specs.declared.limits.Limits.{Limits}
use Rattle.tandem_core.specs.declared.judging.Unjudged.{Unjudged}
use Rattle.tandem_core.specs.declared.judging.Unjudged.TheVariants as unjudged
use Rattle.tandem_core.specs.Runs.{frames_of}
use Rattle.tandem_core.specs.Judgements.{judgement, IsQuiet}

-- These bytes give this verdict, and it stands on all of them and on no more: whatever follows, or because nothing
-- does. So many whole frames among them are messages.
pub record Decides (image : Loaded) (limits : Limits) (got : List ℕ) (left : Option (List ℕ))
    (v : Verdict) : Type 0 where
  pub frames : ℕ
  pub verdict : ((more : List ℕ) →
      judgement image limits (got ++ more) ≡ record { verdict = v; taken = length got; frames = frames })
      ⊎ (IsAtEnd left × (judgement image limits got ≡ record { verdict = v; taken = length got; frames = frames }))

-- the parts of a message fit their fields, so that its frame spells it
abbrev pub IsSpelled : Message → Type 0
IsSpelled m = Spells (frame m) m

-- These bytes decide nothing yet: they are the frames of these messages, none of which ends with a verdict, and a part
-- of one more frame.
pub record Lacks (image : Loaded) (limits : Limits) (got : List ℕ) : Type 0 where
  pub before : List Message
  pub part : List ℕ
  pub is : got ≡ frames_of before ++ part
  pub spelled : All IsSpelled before
  pub quiet : IsQuiet image limits before
  pub short : IsShort part

-- Memory was refused within these bytes: they are the frames of these messages, none of which ends with a verdict, and
-- at most the frame of one message more.
pub record Halts (image : Loaded) (limits : Limits) (got : List ℕ) : Type 0 where
  pub before : List Message
  pub last : Option Message
  pub is : got ≡ frames_of before ++ option_map_or frame last []
  pub spelled : All IsSpelled before
  pub spelled_last : IfSome last IsSpelled
  pub quiet : IsQuiet image limits before

-- the verdict says that the stream ended within a frame
abbrev pub TellsTruncation : Verdict → Type 0
TellsTruncation (verdict.Accept messages retired operations) = ⊥
TellsTruncation (verdict.Reject report) = (have : ℕ) × (report.fault ≡ fault.Truncated have)
TellsTruncation (verdict.Undecided message limit hart count) = ⊥

-- what an answer says of the bytes that were taken and of what is left
abbrev pub JudgedIs : Loaded → Limits → Result Verdict Unjudged → List ℕ → Option (List ℕ) → Type 0
JudgedIs image limits (Ok v) got left = Decides image limits got left v
JudgedIs image limits (Err unjudged.Failed) got left = Lacks image limits got
JudgedIs image limits (Err unjudged.Memory) got left = Halts image limits got
