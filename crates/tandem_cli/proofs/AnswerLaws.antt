-- What is answered where no count of faults rose.
use Rattle.std.proofs.Common.{◌≡◌, ℕ, ◌-◌, ◌^◌, ◌<◌, ◌≤◌, inl, inr, List, refl, sym, ap, subst, ◌∙◌, arith}
use Rattle.std.proofs.Common.{Option, None, Some}
use Rattle.std.specs.Prelude.{IfSome}
use Rattle.std.specs.Io.KnownBytes.{Appends}
use Rattle.std.proofs.KnownBytes.{Appends-nil}
use Rattle.tandem_io.specs.Causes.{Rose}
use Rattle.tandem_io.specs.Inputs.{Named, Slots}
use Rattle.verdict_report.specs.declared.verdict.Verdict.{Verdict}
use Rattle.tandem_cli.specs.declared.outcome.NoImage.TheVariants as no_image
use Rattle.tandem_cli.specs.declared.outcome.NoVerdict.TheVariants as no_verdict
use Rattle.tandem_cli.specs.declared.outcome.Outcome.{Outcome}
use Rattle.tandem_cli.specs.declared.outcome.Outcome.TheVariants as outcome
use Rattle.tandem_cli.specs.Words.{Asked}
use Rattle.tandem_cli.specs.Checks.{answer_of, answer_to_file, answer_to_image, answer_to_stream, IsJudged}
use Rattle.tandem_cli.specs.Checks.{OutcomeIs, OutcomeReads, Caused}
use Rattle.tandem_cli.specs.Answers.{Due, due_for, Prints, PrintsDue, ChecksAs, NoFaultRose, Settled, AnswersUsage}
use Rattle.tandem_cli.specs.Answers.{AnswersTo, refused, answered}

-- a count that didn't rise
pub not_risen : (before after : ℕ) → after ≤ before → before < 2 ^ 64 - 1 → Rose before after → ⊥
not_risen before after stays below (inl rises) = omega arith
not_risen before after stays below (inr last) = omega arith

-- the one answer, by an outcome that it is
settle : (asked : Asked) (names : List Named) (slots' : Slots) (result : ℕ) (old new : Option (List ℕ)) (o : Outcome)
    (due : Due) → answer_of asked names ≡ o → due_for asked o ≡ Some due → result ≡ due.status →
    Appends old new due.line → OutcomeIs asked names o slots'.stream.left → Settled asked names slots' result old new
settle asked names slots' result old new o due is due_is status line says =
    answered due (ap (λ (p : Outcome). due_for asked p) is ∙ due_is) status line
    (subst (λ (p : Outcome). OutcomeIs asked names p slots'.stream.left) (sym is) says)

-- a verdict is the one answer
verdict_is : (asked : Asked) (names : List Named) (v : Verdict) (left : Option (List ℕ)) → IsJudged asked names v left →
    answer_of asked names ≡ outcome.Judged v
verdict_is asked names v left judged =
    ap (λ (found : Option (List ℕ)). answer_to_file asked names found) judged.there.accepted.file
    ∙ ap (answer_to_image asked names) judged.there.accepted.meaning
    ∙ ap (λ (found : Option (List ℕ)). answer_to_stream asked judged.image found) judged.there.stream_is
    ∙ ap outcome.Judged judged.verdict

-- what was printed where the sink's count didn't rise
pub printed_quietly : {due : Due} {result : ℕ} {old new : Option (List ℕ)} {before after : ℕ} → after ≤ before →
    before < 2 ^ 64 - 1 → Prints due result old new before after → (result ≡ due.status) × Appends old new due.line
printed_quietly stays below (inl whole) = whole
printed_quietly {before = before} {after = after} stays below (inr failed) =
    absurd (not_risen before after stays below failed.1)

settled_by : (asked : Asked) (names : List Named) (slots slots' : Slots) (result : ℕ) (old new : Option (List ℕ))
    (before after : ℕ) (o : Outcome) → OutcomeIs asked names o slots'.stream.left → Caused o slots slots' →
    NoFaultRose slots slots' before after → PrintsDue (due_for asked o) result old new before after →
    Settled asked names slots' result old new
settled_by asked names slots slots' result old new before after
    (outcome.Unloaded no_image.Missing) is caused quiet prints =
    let line = printed_quietly quiet.out.0 quiet.out.1 prints in
    settle asked names slots' result old new (outcome.Unloaded no_image.Missing) _ is refl line.0 line.1 is
settled_by asked names slots slots' result old new before after
    (outcome.Unloaded no_image.Unopened) is caused quiet prints =
    absurd (not_risen slots.image.faults slots'.image.faults quiet.image.0 quiet.image.1 caused.0.0)
settled_by asked names slots slots' result old new before after
    (outcome.Unloaded no_image.Unread) is caused quiet prints =
    absurd (not_risen slots.image.faults slots'.image.faults quiet.image.0 quiet.image.1 caused.0.0)
settled_by asked names slots slots' result old new before after
    (outcome.Unloaded (no_image.Refused fault)) is caused quiet prints =
    let line = printed_quietly quiet.out.0 quiet.out.1 prints in
    settle asked names slots' result old new (outcome.Unloaded (no_image.Refused fault)) _ is refl line.0 line.1 is
settled_by asked names slots slots' result old new before after
    (outcome.Unloaded no_image.Memory) is caused quiet prints =
    refused prints
settled_by asked names slots slots' result old new before after
    (outcome.Unjudged no_verdict.Missing) is caused quiet prints =
    let line = printed_quietly quiet.out.0 quiet.out.1 prints in
    settle asked names slots' result old new (outcome.Unjudged no_verdict.Missing) _ is refl line.0 line.1 is
settled_by asked names slots slots' result old new before after
    (outcome.Unjudged no_verdict.Unopened) is caused quiet prints =
    absurd (not_risen slots.stream.faults slots'.stream.faults quiet.stream.0 quiet.stream.1 caused.0.0)
settled_by asked names slots slots' result old new before after
    (outcome.Unjudged no_verdict.Unread) is caused quiet prints =
    absurd (not_risen slots.stream.faults slots'.stream.faults quiet.stream.0 quiet.stream.1 caused.0.0)
settled_by asked names slots slots' result old new before after
    (outcome.Unjudged no_verdict.Memory) is caused quiet prints =
    refused prints
settled_by asked names slots slots' result old new before after
    (outcome.Judged v) is caused quiet prints =
    let line = printed_quietly quiet.out.0 quiet.out.1 prints in
    settle asked names slots' result old new (outcome.Judged v) _ (verdict_is asked names v slots'.stream.left is) refl
    line.0 line.1 is

-- where no count rose, every answer is the one answer, or that memory was refused
pub settled : (asked : Asked) (names : List Named) (slots slots' : Slots) (result : ℕ) (old new : Option (List ℕ))
    (before after : ℕ) → ChecksAs asked (Some names) slots slots' result old new before after →
    NoFaultRose slots slots' before after → Settled asked names slots' result old new
settled asked names slots slots' result old new before after answers quiet =
    settled_by asked names slots slots' result old new before after answers.outcome answers.is answers.caused quiet
    answers.prints

-- the same, where the names are told
pub settled_told : (asked : Asked) (names : Option (List Named)) (slots slots' : Slots) (result : ℕ)
    (old new : Option (List ℕ))
    (before after : ℕ) → ChecksAs asked names slots slots' result old new before after →
    IfSome names (λ files. NoFaultRose slots slots' before after → Settled asked files slots' result old new)
settled_told asked None slots slots' result old new before after answers = tt
settled_told asked (Some files) slots slots' result old new before after answers =
    λ quiet. settled asked files slots slots' result old new before after answers quiet

-- memory was refused before anything was attached
pub memory_refused : (asked : Asked) (names : Option (List Named)) (slots : Slots) (written : Option (List ℕ))
    (faults : ℕ) →
    ChecksAs asked names slots slots 7 written written faults faults
memory_refused asked names slots written faults = record {
  outcome = outcome.Unloaded no_image.Memory;
  is = nothing_said names;
  reads = nothing_read names;
  caused = (inl refl, refl);
  prints = (refl, Appends-nil written);
}
  where
    nothing_said : (names : Option (List Named)) → IfSome names (λ files. Unit {0})
    nothing_said None = tt
    nothing_said (Some files) = tt

    nothing_read : (names : Option (List Named)) → IfSome names (λ files.
        OutcomeReads asked files (outcome.Unloaded no_image.Memory) slots.image slots.image)
    nothing_read None = tt
    nothing_read (Some files) = inl refl

-- the answer to words, by what is answered to words of another form, and of the form of `check`
pub answers_to : (o : Option Asked) (names : Option (List Named)) (slots slots' : Slots) (result : ℕ)
    (old new : Option (List ℕ)) (before after : ℕ) →
    (o ≡ None → AnswersUsage result old new before after) → (o ≡ None → slots' ≡ slots) →
    ((a : Asked) → o ≡ Some a → ChecksAs a names slots slots' result old new before after) →
    AnswersTo o names slots slots' result old new before after
answers_to None names slots slots' result old new before after usage same checks = (usage refl, same refl)
answers_to (Some a) names slots slots' result old new before after usage same checks = checks a refl

-- the answer to words for which memory was refused
pub words_refused : (o : Option Asked) (names : Option (List Named)) (slots : Slots) (written : Option (List ℕ))
    (faults : ℕ) →
    AnswersTo o names slots slots 7 written written faults faults
words_refused None names slots written faults = (inl (refl, Appends-nil written), refl)
words_refused (Some a) names slots written faults = memory_refused a names slots written faults
