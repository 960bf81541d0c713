-- Which streams of bytes are accepted.
use Rattle.std.specs.Prelude.{ℕ, ◌≤◌, ◌≡◌, ◌↔◌, List, length, reverse}
use Rattle.msg_frames.specs.Cut.{End, cut}
use Rattle.msg_frames.specs.Frames.{AreBytes}
use Rattle.elf_image.specs.Images.{Loaded}
use Rattle.verdict_report.specs.declared.verdict.Verdict.{Verdict}
use Rattle.verdict_report.specs.declared.verdict.Verdict.TheVariants as verdict
use Rattle.order_laws.specs.Lawful.{Lawful}
use Rattle.tandem_core.specs.declared.limits.Limits.{Limits}
use Rattle.tandem_core.specs.Judgements.{judgement}

-- the verdict accepts
abbrev pub IsAccept : Verdict → Type 0
IsAccept (verdict.Accept messages retired operations) = Unit {0}
IsAccept (verdict.Reject report) = ⊥
IsAccept (verdict.Undecided message limit hart count) = ⊥

-- a stream of bytes is lawful: it falls into messages up to an End, and these are lawful
pub record IsLawfulStream (image : Loaded) (bytes : List ℕ) : Type 0 where
  pub ended : (cut bytes).ending ≡ End
  pub lawful : Lawful image (reverse (cut bytes).messages)

-- a stream is accepted exactly where it is lawful and its messages are not more than the limit
abbrev pub AcceptsLawfulStreams : Type 0
AcceptsLawfulStreams = (image : Loaded) (limits : Limits) (bytes : List ℕ) → AreBytes bytes
    → IsAccept (judgement image limits bytes).verdict
    ↔ (IsLawfulStream image bytes × (length (cut bytes).messages ≤ limits.messages))
