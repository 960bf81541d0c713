-- What `tandem check` is to answer, and what an outcome says.
use Rattle.std.specs.Prelude.{ℕ, ◌≡◌, ◌+◌, ◌^◌, ◌≤◌, ◌⊎◌, ◌++◌, true, false, List, drop, length, Option, Some, None}
use Rattle.std.specs.Prelude.{Result, Ok, Err}
use Rattle.std.specs.Io.KnownBytes.{IsAtEnd, Keeps}
use Rattle.tandem_io.specs.Causes.{Rose}
use Rattle.tandem_io.specs.Inputs.{Named, SlotView, Slots, content_of}
use Rattle.elf_image.specs.declared.fault.ImageFault.{ImageFault}
use Rattle.elf_image.specs.declared.fault.ImageFault.TheVariants as image_fault
use Rattle.elf_image.specs.Images.{ImageOf, Loaded, loaded_of}
use Rattle.elf_image.specs.Elf.{elf_of}
use Rattle.elf_image.specs.Flat.{flat_of}
use Rattle.verdict_report.specs.declared.verdict.Verdict.{Verdict}
use Rattle.tandem_core.specs.declared.judging.Unjudged.{Unjudged}
use Rattle.tandem_core.specs.declared.judging.Unjudged.TheVariants as unjudged
use Rattle.tandem_core.specs.Judgements.{judgement}
use Rattle.tandem_core.specs.Judging.{Halts, Lacks, TellsTruncation}
use Rattle.tandem_cli.specs.Options.{Chosen}
use Rattle.tandem_cli.specs.Words.{Asked}
use Rattle.tandem_cli.specs.declared.file_fault.FileFault.TheVariants as file_fault
use Rattle.tandem_cli.specs.declared.outcome.NoImage.{NoImage}
use Rattle.tandem_cli.specs.declared.outcome.NoImage.TheVariants as no_image
use Rattle.tandem_cli.specs.declared.outcome.NoVerdict.{NoVerdict}
use Rattle.tandem_cli.specs.declared.outcome.NoVerdict.TheVariants as no_verdict
use Rattle.tandem_cli.specs.declared.outcome.Outcome.{Outcome}
use Rattle.tandem_cli.specs.declared.outcome.Outcome.TheVariants as outcome

-- the image that a file means, or its first fault: an ELF64 file, or a flat one where a base is asked for
abbrev pub meaning_at : Option ℕ → Chosen → List ℕ → Result Loaded ImageFault
meaning_at None options bytes = elf_of bytes options.rams
meaning_at (Some base) options bytes = flat_of bytes base options.rams

-- the image that a file means under these options
abbrev pub meaning_of : Chosen → List ℕ → Result Loaded ImageFault
meaning_of options bytes = meaning_at options.flat options bytes

-- why there is no image: a fault of the file, or that memory was refused
abbrev pub no_image_of : ImageFault → NoImage
no_image_of image_fault.NotElf = no_image.Refused file_fault.NotElf
no_image_of image_fault.Class = no_image.Refused file_fault.Class
no_image_of image_fault.Kind = no_image.Refused file_fault.Kind
no_image_of image_fault.Machine = no_image.Refused file_fault.Machine
no_image_of (image_fault.Headers offset) = no_image.Refused (file_fault.Headers offset)
no_image_of (image_fault.Segment index) = no_image.Refused (file_fault.Segment index)
no_image_of (image_fault.Overlap first second) = no_image.Refused (file_fault.Overlap first second)
no_image_of (image_fault.TooLarge limit) = no_image.Refused (file_fault.TooLarge limit)
no_image_of image_fault.Memory = no_image.Memory

-- the answer once the image is there: the stream is missing, or judged
abbrev pub answer_to_stream : Asked → Loaded → Option (List ℕ) → Outcome
answer_to_stream asked image None = outcome.Unjudged no_verdict.Missing
answer_to_stream asked image (Some stream) = outcome.Judged (judgement image asked.options.limits stream).verdict

-- the answer once the image is read: it is refused, or the stream is looked for
abbrev pub answer_to_image : Asked → List Named → Result Loaded ImageFault → Outcome
answer_to_image asked names (Err fault) = outcome.Unloaded (no_image_of fault)
answer_to_image asked names (Ok image) = answer_to_stream asked image (content_of names asked.stream)

-- the answer once the image is looked for
abbrev pub answer_to_file : Asked → List Named → Option (List ℕ) → Outcome
answer_to_file asked names None = outcome.Unloaded no_image.Missing
answer_to_file asked names (Some bytes) = answer_to_image asked names (meaning_of asked.options bytes)

-- The answer where nothing fails: the image's name first, then the image, then the stream's name, then the verdict.
abbrev pub answer_of : Asked → List Named → Outcome
answer_of asked names = answer_to_file asked names (content_of names asked.image)

-- the image that is asked for is there, and this is what its bytes mean
pub record IsAccepted (asked : Asked) (names : List Named) (image : Loaded) : Type 0 where
  pub bytes : List ℕ
  pub file : content_of names asked.image ≡ Some bytes
  pub meaning : meaning_of asked.options bytes ≡ Ok image

-- the image that is asked for, and the bytes of the stream
pub record AreThere (asked : Asked) (names : List Named) (image : Loaded) (stream : List ℕ) : Type 0 where
  pub accepted : IsAccepted asked names image
  pub stream_is : content_of names asked.stream ≡ Some stream

-- the verdict on the stream, of which just what follows the frame of the verdict is left
pub record IsJudged (asked : Asked) (names : List Named) (v : Verdict) (left : Option (List ℕ)) : Type 0 where
  pub image : Loaded
  pub stream : List ℕ
  pub there : AreThere asked names image stream
  pub verdict : (judgement image asked.options.limits stream).verdict ≡ v
  pub left_is : left ≡ Some (drop (judgement image asked.options.limits stream).taken stream)

-- these bytes were taken of the stream that is asked for, which is judged against this image, and the rest is left
pub record IsFront (asked : Asked) (names : List Named) (image : Loaded) (got : List ℕ) (left : Option (List ℕ))
    : Type 0 where
  pub stream : List ℕ
  pub rest : List ℕ
  pub there : AreThere asked names image stream
  pub stream_is : stream ≡ got ++ rest
  pub left_is : left ≡ Some rest

-- what was taken of the stream lacks a part of the frame at which the verdict stands
pub record IsUnread (asked : Asked) (names : List Named) (left : Option (List ℕ)) : Type 0 where
  pub image : Loaded
  pub got : List ℕ
  pub taken : IsFront asked names image got left
  pub lacks : Lacks image asked.options.limits got

-- what was taken of the stream ends at most with the frame at which the verdict stands, and memory was refused there
pub record IsHalted (asked : Asked) (names : List Named) (left : Option (List ℕ)) : Type 0 where
  pub image : Loaded
  pub got : List ℕ
  pub taken : IsFront asked names image got left
  pub halts : Halts image asked.options.limits got

-- what the want of an image says of inputs that tell their names
abbrev pub NoImageIs : Asked → List Named → NoImage → Type 0
NoImageIs asked names no_image.Missing = answer_of asked names ≡ outcome.Unloaded no_image.Missing
NoImageIs asked names no_image.Unopened = Unit {0}
NoImageIs asked names no_image.Unread = Unit {0}
NoImageIs asked names (no_image.Refused fault) = answer_of asked names ≡ outcome.Unloaded (no_image.Refused fault)
NoImageIs asked names no_image.Memory = Unit {0}

-- what the want of a verdict says of them, and of what is left of the stream
abbrev pub NoVerdictIs : Asked → List Named → NoVerdict → Option (List ℕ) → Type 0
NoVerdictIs asked names no_verdict.Missing left = answer_of asked names ≡ outcome.Unjudged no_verdict.Missing
NoVerdictIs asked names no_verdict.Unopened left = (image : Loaded) × IsAccepted asked names image
NoVerdictIs asked names no_verdict.Unread left = IsUnread asked names left
NoVerdictIs asked names no_verdict.Memory left = IsHalted asked names left

-- what an outcome says of inputs that tell their names, and of what is left of the stream
abbrev pub OutcomeIs : Asked → List Named → Outcome → Option (List ℕ) → Type 0
OutcomeIs asked names (outcome.Unloaded why) left = NoImageIs asked names why
OutcomeIs asked names (outcome.Unjudged why) left = NoVerdictIs asked names why left
OutcomeIs asked names (outcome.Judged v) left = IsJudged asked names v left

-- what an answer on the stream says of inputs that tell their names, and of what is left of the stream
abbrev pub StreamIs : Asked → List Named → Result Verdict NoVerdict → Option (List ℕ) → Type 0
StreamIs asked names (Ok v) left = IsJudged asked names v left
StreamIs asked names (Err why) left = NoVerdictIs asked names why left

-- what an answer on the image says of inputs that tell their names
abbrev pub ImageIs : Asked → List Named → Result ImageOf NoImage → Type 0
ImageIs asked names (Ok image) = IsAccepted asked names (loaded_of image)
ImageIs asked names (Err why) = NoImageIs asked names why

-- at most 2 ^ 28 + 1 bytes of the image that is asked for were read, and the rest is left
pub record IsReadOn (asked : Asked) (names : List Named) (left : Option (List ℕ)) : Type 0 where
  pub got : List ℕ
  pub rest : List ℕ
  pub file : content_of names asked.image ≡ Some (got ++ rest)
  pub most : length got ≤ 2 ^ 28 + 1
  pub left_is : left ≡ Some rest

-- how much was read of an image that isn't there: where memory was refused before it was looked for, its slot is as it
-- was
abbrev pub NoImageReads : Asked → List Named → NoImage → SlotView → SlotView → Type 0
NoImageReads asked names no_image.Missing before after = Unit {0}
NoImageReads asked names no_image.Unopened before after = Unit {0}
NoImageReads asked names no_image.Unread before after = IsReadOn asked names after.left
NoImageReads asked names (no_image.Refused fault) before after = IsReadOn asked names after.left
NoImageReads asked names no_image.Memory before after = (after ≡ before) ⊎ IsReadOn asked names after.left

-- how much was read of the image, by the answer on it
abbrev pub ImageReads : Asked → List Named → Result ImageOf NoImage → SlotView → SlotView → Type 0
ImageReads asked names (Ok image) before after = IsReadOn asked names after.left
ImageReads asked names (Err why) before after = NoImageReads asked names why before after

-- the same, by the outcome
abbrev pub OutcomeReads : Asked → List Named → Outcome → SlotView → SlotView → Type 0
OutcomeReads asked names (outcome.Unloaded why) before after = NoImageReads asked names why before after
OutcomeReads asked names (outcome.Unjudged why) before after = IsReadOn asked names after.left
OutcomeReads asked names (outcome.Judged v) before after = IsReadOn asked names after.left

-- the image was found, its last read answered that nothing is left of it, and nothing is
pub record IsReadWhole (image : SlotView) : Type 0 where
  pub attached : image.attached ≡ Some true
  pub ended : image.ended ≡ true
  pub at_end : IsAtEnd image.left

-- a slot holds what it held, and no read of it was made
pub record HoldsStill (before after : SlotView) : Type 0 where
  pub left : Keeps before.left after.left
  pub ended : after.ended ≡ before.ended

-- Why there is no image, by the image's slot. Where it isn't there or could not be opened the slot holds what it held,
-- and where it could not be read or is refused it was found. Memory was refused before it was looked for, or after it
-- was found.
abbrev pub NoImageCaused : NoImage → SlotView → SlotView → Type 0
NoImageCaused no_image.Missing before after = (after.attached ≡ Some false) × HoldsStill before after
NoImageCaused no_image.Unopened before after =
    Rose before.faults after.faults × (after.attached ≡ before.attached) × HoldsStill before after
NoImageCaused no_image.Unread before after =
    Rose before.faults after.faults × (after.attached ≡ Some true) × (after.ended ≡ false)
NoImageCaused (no_image.Refused fault) before after = after.attached ≡ Some true
NoImageCaused no_image.Memory before after = (after ≡ before) ⊎ (after.attached ≡ Some true)

-- the cause of an answer on the image: it was read whole, or this is why there is none
abbrev pub ImageCaused : Result ImageOf NoImage → SlotView → SlotView → Type 0
ImageCaused (Ok image) before after = IsReadWhole after
ImageCaused (Err why) before after = NoImageCaused why before after

-- why there is no verdict, by the stream's slot, likewise
abbrev pub NoVerdictCaused : NoVerdict → SlotView → SlotView → Type 0
NoVerdictCaused no_verdict.Missing before after = (after.attached ≡ Some false) × HoldsStill before after
NoVerdictCaused no_verdict.Unopened before after =
    Rose before.faults after.faults × (after.attached ≡ before.attached) × HoldsStill before after
NoVerdictCaused no_verdict.Unread before after = Rose before.faults after.faults × (after.attached ≡ Some true)
NoVerdictCaused no_verdict.Memory before after = after.attached ≡ Some true

-- the cause of a verdict on the stream: it was found, and where the verdict tells that it ended, it had
pub record VerdictCaused (v : Verdict) (after : SlotView) : Type 0 where
  pub attached : after.attached ≡ Some true
  pub ended : TellsTruncation v → after.ended ≡ true

-- the cause of an answer on the stream: that of a verdict, or this is why there is none
abbrev pub StreamCaused : Result Verdict NoVerdict → SlotView → SlotView → Type 0
StreamCaused (Ok v) before after = VerdictCaused v after
StreamCaused (Err why) before after = NoVerdictCaused why before after

-- The cause of an outcome. One on the image leaves the stream's slot as it was, and one on the stream comes only after
-- the image was read whole.
abbrev pub Caused : Outcome → Slots → Slots → Type 0
Caused (outcome.Unloaded why) before after =
    NoImageCaused why before.image after.image × (after.stream ≡ before.stream)
Caused (outcome.Unjudged why) before after =
    NoVerdictCaused why before.stream after.stream × IsReadWhole after.image
Caused (outcome.Judged v) before after = VerdictCaused v after.stream × IsReadWhole after.image

-- no count of faults falls
pub record CountsStand (before after : Slots) : Type 0 where
  pub image : before.image.faults ≤ after.image.faults
  pub stream : before.stream.faults ≤ after.stream.faults

-- what a reader's answer comes to
abbrev pub image_read : Result ImageOf ImageFault → Result ImageOf NoImage
image_read (Ok image) = Ok image
image_read (Err fault) = Err (no_image_of fault)

-- what the core's answer comes to
abbrev pub stream_judged : Result Verdict Unjudged → Result Verdict NoVerdict
stream_judged (Ok v) = Ok v
stream_judged (Err unjudged.Failed) = Err no_verdict.Unread
stream_judged (Err unjudged.Memory) = Err no_verdict.Memory
