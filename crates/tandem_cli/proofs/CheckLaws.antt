-- What the readings of the inputs come to.
use Rattle.std.proofs.Common.{◌≡◌, ℕ, ◌+◌, ◌^◌, ◌<◌, ◌≤◌, ◌⊎◌, inl, inr, List, ◌++◌, length, drop, refl}
use Rattle.std.proofs.Common.{sym, ap, subst, ◌∙◌, arith, Option, None, Some, Result, Ok, Err, append-nil}
use Rattle.std.proofs.Common.{length-append}
use Rattle.std.specs.Prelude.{nat_lt, Bool, true, false, is_some, IfSome, IfOk, MatchBool}
use Rattle.std.specs.Io.KnownBytes.{Consumes, Keeps, IsAtEnd}
use Rattle.std.proofs.Math.Nat.{eq-or-lt_of_le}
use Rattle.std.proofs.Math.Seq.{drop-append_seam}
use Rattle.std.proofs.lemmas.Bool.{lt-ltb, cond-true}
use Rattle.tandem_io.specs.Causes.{Rose}
use Rattle.tandem_io.specs.Inputs.{Named, SlotView, content_of}
use Rattle.elf_image.specs.declared.fault.ImageFault.{ImageFault}
use Rattle.elf_image.specs.declared.fault.ImageFault.TheVariants as image_fault
use Rattle.elf_image.specs.declared.fault.TooLarge.TheVariants as limit
use Rattle.elf_image.specs.declared.limits.TheConstants.{MOST_FILE_BYTES}
use Rattle.elf_image.specs.Images.{ImageOf, Loaded}
use Rattle.elf_image.specs.Faults.{Reads, file_fault}
use Rattle.verdict_report.specs.declared.verdict.Verdict.{Verdict}
use Rattle.tandem_core.specs.declared.judging.Unjudged.{Unjudged}
use Rattle.tandem_core.specs.declared.judging.Unjudged.TheVariants as unjudged
use Rattle.tandem_core.specs.Judgements.{Judgement, judgement}
use Rattle.tandem_core.specs.Judging.{JudgedIs, TellsTruncation}
use Rattle.tandem_cli.specs.declared.outcome.NoImage.TheVariants as no_image
use Rattle.tandem_cli.specs.declared.outcome.NoVerdict.TheVariants as no_verdict
use Rattle.tandem_cli.specs.declared.outcome.Outcome.TheVariants as outcome
use Rattle.tandem_cli.specs.Options.{Chosen}
use Rattle.tandem_cli.specs.Words.{Asked}
use Rattle.tandem_cli.specs.Checks.{meaning_at, meaning_of, answer_of, answer_to_file, answer_to_image}
use Rattle.tandem_cli.specs.Checks.{answer_to_stream, IsAccepted, IsFront, ImageIs, StreamIs, StreamCaused, no_image_of}
use Rattle.tandem_cli.specs.Checks.{image_read, stream_judged}

-- ---- an image that was read whole, or as far as one is read

too_large : (bytes : List ℕ) → MOST_FILE_BYTES < length bytes →
    file_fault bytes ≡ Some (image_fault.TooLarge (limit.File (MOST_FILE_BYTES + 1)))
too_large bytes long = cond-true (nat_lt MOST_FILE_BYTES (length bytes)) _ _ (lt-ltb MOST_FILE_BYTES
    (length bytes) long)

refused : (flat : Option ℕ) (options : Chosen) (bytes : List ℕ) → MOST_FILE_BYTES < length bytes →
    meaning_at flat options bytes ≡ Err (image_fault.TooLarge (limit.File (MOST_FILE_BYTES + 1)))
refused None options bytes long = rw (too_large bytes long) refl
refused (Some base) options bytes long = rw (too_large bytes long) refl

-- the bytes that were read mean what the whole file means
pub whole_means : (options : Chosen) (read content : List ℕ) (left : Option (List ℕ))
    → Consumes (Some content) left read →
    (IsAtEnd left ⊎ (length read ≡ 2 ^ 28 + 1)) → meaning_of options read ≡ meaning_of options content
whole_means options read content None consumed ends = absurd consumed
whole_means options read content (Some rest) consumed (inl at_end) =
    let e : content ≡ read = consumed ∙ ap (λ (r : List ℕ). read ++ r) at_end ∙ append-nil read in
    ap (λ (b : List ℕ). meaning_of options b) (sym e)
whole_means options read content (Some rest) consumed (inr size) =
    let long : MOST_FILE_BYTES < length read = omega arith in
    let longer : MOST_FILE_BYTES < length content = omega (arith, ap length consumed, length-append read rest) in
    refused options.flat options read long ∙ sym (refused options.flat options content longer)

-- ---- the answer on the image

refused_is : (asked : Asked) (names : List Named) (meaning : Result Loaded ImageFault) (fault : ImageFault) →
    answer_of asked names ≡ answer_to_image asked names meaning →
    (fault ≡ image_fault.Memory) ⊎ (meaning ≡ Err fault) → ImageIs asked names (Err (no_image_of fault))
refused_is asked names meaning image_fault.NotElf is (inl e) = absurd (cc)
refused_is asked names meaning image_fault.NotElf is (inr e) = is ∙ ap (answer_to_image asked names) e
refused_is asked names meaning image_fault.Class is (inl e) = absurd (cc)
refused_is asked names meaning image_fault.Class is (inr e) = is ∙ ap (answer_to_image asked names) e
refused_is asked names meaning image_fault.Kind is (inl e) = absurd (cc)
refused_is asked names meaning image_fault.Kind is (inr e) = is ∙ ap (answer_to_image asked names) e
refused_is asked names meaning image_fault.Machine is (inl e) = absurd (cc)
refused_is asked names meaning image_fault.Machine is (inr e) = is ∙ ap (answer_to_image asked names) e
refused_is asked names meaning (image_fault.Headers offset) is (inl e) = absurd (cc)
refused_is asked names meaning (image_fault.Headers offset) is (inr e) = is ∙ ap (answer_to_image asked names) e
refused_is asked names meaning (image_fault.Segment index) is (inl e) = absurd (cc)
refused_is asked names meaning (image_fault.Segment index) is (inr e) = is ∙ ap (answer_to_image asked names) e
refused_is asked names meaning (image_fault.Overlap first second) is (inl e) = absurd (cc)
refused_is asked names meaning (image_fault.Overlap first second) is (inr e) = is ∙ ap (answer_to_image asked names) e
refused_is asked names meaning (image_fault.TooLarge limit') is (inl e) = absurd (cc)
refused_is asked names meaning (image_fault.TooLarge limit') is (inr e) = is ∙ ap (answer_to_image asked names) e
refused_is asked names meaning image_fault.Memory is e = tt

-- what a reader answers, said of the names
read_is : (asked : Asked) (names : List Named) (bytes read : List ℕ) (answer : Result ImageOf ImageFault) →
    content_of names asked.image ≡ Some bytes → meaning_of asked.options read ≡ meaning_of asked.options bytes →
    Reads answer (meaning_of asked.options read) → ImageIs asked names (image_read answer)
read_is asked names bytes read (Ok image) there means reads =
    record { bytes = bytes; file = there; meaning = sym means ∙ reads }
read_is asked names bytes read (Err fault) there means reads =
    refused_is asked names (meaning_of asked.options read) fault
    (ap (λ (found : Option (List ℕ)). answer_to_file asked names found) there
    ∙ ap (answer_to_image asked names) (sym means)) reads

-- a name that isn't there
pub missing_image : (asked : Asked) (names : List Named) → content_of names asked.image ≡ None →
    answer_of asked names ≡ outcome.Unloaded no_image.Missing
missing_image asked names none = ap (λ (found : Option (List ℕ)). answer_to_file asked names found) none

pub content_found : (found : Option (List ℕ)) → true ≡ is_some found → (bytes : List ℕ) × (found ≡ Some bytes)
content_found (Some bytes) e = (bytes, refl)
content_found None e = absurd (cc)

pub content_none : (found : Option (List ℕ)) → false ≡ is_some found → found ≡ None
content_none (Some bytes) e = absurd (cc)
content_none None e = refl

-- what was attached as the image and read whole
pub whole_answer : (names : Option (List Named)) (asked : Asked) (found : Bool) (old left left' : Option (List ℕ))
    (read : List ℕ)
    (answer : Result ImageOf ImageFault) → found ≡ true →
    IfSome names (λ files. found ≡ is_some (content_of files asked.image)) →
    MatchBool found (IfSome names (λ files. left ≡ content_of files asked.image)) (Keeps old left) →
    Consumes left left' read → (IsAtEnd left' ⊎ (length read ≡ 2 ^ 28 + 1))
    → Reads answer (meaning_of asked.options read) →
    IfSome names (λ files. ImageIs asked files (image_read answer))
whole_answer None asked found old left left' read answer is_there told holds consumed ends reads = tt
whole_answer (Some files) asked true old left left' read answer is_there told holds consumed ends reads =
    let content = content_found (content_of files asked.image) told in
    let taken : Consumes (Some content.0) left' read =
    subst (λ (l : Option (List ℕ)). Consumes l left' read) (holds ∙ content.1) consumed in
    read_is asked files content.0 read answer content.1
    (whole_means asked.options read content.0 left' taken ends) reads
whole_answer (Some files) asked false old left left' read answer is_there told holds consumed ends reads = absurd (cc)

-- ---- the answer on the stream

-- the stream of an accepted image isn't there
pub missing_stream : (names : Option (List Named)) (asked : Asked) (image : Loaded) (found : Bool) → found ≡ false →
    IfSome names (λ files. found ≡ is_some (content_of files asked.stream)) →
    IfSome names (λ files. IsAccepted asked files image → answer_of asked files ≡ outcome.Unjudged no_verdict.Missing)
missing_stream None asked image found none told = tt
missing_stream (Some files) asked image found none told =
    λ accepted.
    ap (λ (found : Option (List ℕ)). answer_to_file asked files found) accepted.file
    ∙ ap (answer_to_image asked files) accepted.meaning
    ∙ ap (λ (found : Option (List ℕ)). answer_to_stream asked image found)
    (content_none (content_of files asked.stream) (sym none ∙ told))

-- what was taken of a stream that is there
front_is : {names : List Named} {asked : Asked} {image : Loaded} (stream got rest : List ℕ) →
    content_of names asked.stream ≡ Some stream → stream ≡ got ++ rest → IsAccepted asked names image →
    IsFront asked names image got (Some rest)
front_is stream got rest there is accepted = record {
  stream = stream;
  rest = rest;
  there = record { accepted = accepted; stream_is = there };
  stream_is = is;
  left_is = refl;
}

-- what is answered of a stream that is there
stream_is : (names : List Named) (asked : Asked) (image : Loaded) (judged : Result Verdict Unjudged)
    (stream got : List ℕ)
    (left : Option (List ℕ)) → content_of names asked.stream ≡ Some stream → Consumes (Some stream) left got →
    JudgedIs image asked.options.limits judged got left → IsAccepted asked names image →
    StreamIs asked names (stream_judged judged) left
stream_is names asked image (Ok v) stream got None there consumed decides accepted = absurd consumed
stream_is names asked image (Ok v) stream got (Some rest) there consumed decides accepted =
    let j : Judgement = record { verdict = v; taken = length got; frames = decides.frames } in
    let whole : judgement image asked.options.limits (got ++ rest) ≡ j =
    elim decides.verdict as (λ _. judgement image asked.options.limits (got ++ rest) ≡ j) [
      | inl always ↦ always rest
      | inr ended ↦ ap (λ (r : List ℕ). judgement image asked.options.limits (got ++ r)) ended.0
          ∙ ap (λ (b : List ℕ). judgement image asked.options.limits b) (append-nil got) ∙ ended.1
    ] in
    let all : judgement image asked.options.limits stream ≡ j =
    ap (λ (b : List ℕ). judgement image asked.options.limits b) consumed ∙ whole in
    let after : drop (length got) stream ≡ rest =
    ap (λ (b : List ℕ). drop (length got) b) consumed ∙ drop-append_seam got rest in
    record {
      image = image;
      stream = stream;
      there = record { accepted = accepted; stream_is = there };
      verdict = ap (λ (k : Judgement). k.verdict) all;
      left_is = ap (λ (b : List ℕ). Some b) (sym after) ∙ ap (λ (k : Judgement). Some (drop k.taken stream)) (sym all);
    }
stream_is names asked image (Err unjudged.Failed) stream got None there consumed lacks accepted = absurd consumed
stream_is names asked image (Err unjudged.Failed) stream got (Some rest) there consumed lacks accepted =
    record { image = image; got = got; taken = front_is stream got rest there consumed accepted; lacks = lacks }
stream_is names asked image (Err unjudged.Memory) stream got None there consumed halts accepted = absurd consumed
stream_is names asked image (Err unjudged.Memory) stream got (Some rest) there consumed halts accepted =
    record { image = image; got = got; taken = front_is stream got rest there consumed accepted; halts = halts }

-- what was attached as the stream and judged
pub judged_told : (names : Option (List Named)) (asked : Asked) (image : Loaded) (judged : Result Verdict Unjudged)
    (found : Bool)
    (old left left' : Option (List ℕ)) (got : List ℕ) → found ≡ true →
    IfSome names (λ files. found ≡ is_some (content_of files asked.stream)) →
    MatchBool found (IfSome names (λ files. left ≡ content_of files asked.stream)) (Keeps old left) →
    Consumes left left' got → JudgedIs image asked.options.limits judged got left' →
    IfSome names (λ files. IsAccepted asked files image → StreamIs asked files (stream_judged judged) left')
judged_told None asked image judged found old left left' got is_there told holds consumed is = tt
judged_told (Some files) asked image judged true old left left' got is_there told holds consumed is =
    let content = content_found (content_of files asked.stream) told in
    let taken : Consumes (Some content.0) left' got =
    subst (λ (l : Option (List ℕ)). Consumes l left' got) (holds ∙ content.1) consumed in
    λ accepted. stream_is files asked image judged content.0 got left' content.1 taken is accepted
judged_told (Some files) asked image judged false old left left' got is_there told holds consumed is = absurd (cc)

-- ---- causes

-- a count that rose within a call rose over it
pub rose_on : (before mid after : ℕ) → before ≤ mid → mid ≤ after → Rose mid after → Rose before after
rose_on before mid after low high (inl rises) = inl (omega arith)
rose_on before mid after low high (inr last) =
    elim (eq-or-lt_of_le low) [ inl same ↦ inr (same ∙ last) | inr less ↦ inl (omega arith) ]

-- the cause of an answer on a stream that is there
pub stream_caused : (judged : Result Verdict Unjudged) (before after : SlotView) → after.attached ≡ Some true →
    IfOk judged (λ v. TellsTruncation v → after.ended ≡ true) →
    (judged ≡ Err unjudged.Failed → Rose before.faults after.faults) → StreamCaused (stream_judged judged) before after
stream_caused (Ok v) before after attached ends rises = record { attached = attached; ended = ends }
stream_caused (Err unjudged.Failed) before after attached ends rises = (rises refl, attached)
stream_caused (Err unjudged.Memory) before after attached ends rises = attached
