-- What `tandem check` writes and answers.
use Rattle.std.specs.Prelude.{ℕ, ◌≡◌, ◌-◌, ◌^◌, ◌<◌, ◌≤◌, ◌⊎◌, List, [], Option, Some, None, IfSome}
use Rattle.std.specs.Io.KnownBytes.{Appends}
use Rattle.tandem_io.specs.Causes.{Rose}
use Rattle.tandem_io.specs.Inputs.{Named, Slots}
use Rattle.verdict_report.specs.declared.verdict.Verdict.{Verdict}
use Rattle.verdict_report.specs.declared.verdict.Verdict.TheVariants as verdict
use Rattle.verdict_report.specs.Lines.{verdict_line}
use Rattle.tandem_cli.specs.Words.{Asked}
use Rattle.text_runs.specs.Written.{TakesFront}
use Rattle.tandem_cli.specs.Outcomes.{missing_line, failed_line, image_line, usage_line}
use Rattle.tandem_cli.specs.Checks.{OutcomeIs, OutcomeReads, Caused, answer_of}
use Rattle.tandem_cli.specs.declared.outcome.NoImage.{NoImage}
use Rattle.tandem_cli.specs.declared.outcome.NoImage.TheVariants as no_image
use Rattle.tandem_cli.specs.declared.outcome.NoVerdict.{NoVerdict}
use Rattle.tandem_cli.specs.declared.outcome.NoVerdict.TheVariants as no_verdict
use Rattle.tandem_cli.specs.declared.outcome.Outcome.{Outcome}
use Rattle.tandem_cli.specs.declared.outcome.Outcome.TheVariants as outcome

-- a line that is due, and the status that goes with it
pub record Due : Type 0 where
  pub line : List ℕ
  pub status : ℕ

-- what is due where there is no image of this name: 3 is a want of the input, 4 a refused image; nothing is due where
-- memory was refused
abbrev pub due_without_image : List ℕ → NoImage → Option Due
due_without_image name no_image.Missing = Some (record { line = missing_line name; status = 3 })
due_without_image name no_image.Unopened = Some (record { line = failed_line name; status = 3 })
due_without_image name no_image.Unread = Some (record { line = failed_line name; status = 3 })
due_without_image name (no_image.Refused fault) = Some (record { line = image_line fault; status = 4 })
due_without_image name no_image.Memory = None

-- what is due where there is no verdict on the stream of this name, likewise
abbrev pub due_without_verdict : List ℕ → NoVerdict → Option Due
due_without_verdict name no_verdict.Missing = Some (record { line = missing_line name; status = 3 })
due_without_verdict name no_verdict.Unopened = Some (record { line = failed_line name; status = 3 })
due_without_verdict name no_verdict.Unread = Some (record { line = failed_line name; status = 3 })
due_without_verdict name no_verdict.Memory = None

-- 0 accepts, 1 rejects, 5 is undecided
abbrev pub status_of_verdict : Verdict → ℕ
status_of_verdict (verdict.Accept messages retired operations) = 0
status_of_verdict (verdict.Reject report) = 1
status_of_verdict (verdict.Undecided message limit hart count) = 5

-- what is due for an outcome
abbrev pub due_for : Asked → Outcome → Option Due
due_for asked (outcome.Unloaded why) = due_without_image asked.image why
due_for asked (outcome.Unjudged why) = due_without_verdict asked.stream why
due_for asked (outcome.Judged v) = Some (record { line = verdict_line v; status = status_of_verdict v })

-- what is due for words of another form
abbrev pub usage_due : Due
usage_due = record { line = usage_line; status = 2 }

-- the line was written and its status answered; or the sink's count rose, the sink took a front of the line, and 6 was
-- answered
abbrev pub Prints : Due → ℕ → Option (List ℕ) → Option (List ℕ) → ℕ → ℕ → Type 0
Prints due result old new before after =
    ((result ≡ due.status) × Appends old new due.line)
    ⊎ ((result ≡ 6) × Rose before after × TakesFront old new due.line)

-- memory was refused: nothing was written, and 7 was answered
abbrev pub PrintsNothing : ℕ → Option (List ℕ) → Option (List ℕ) → Type 0
PrintsNothing result old new = (result ≡ 7) × Appends old new []

-- what is due was printed, and nothing where nothing is
abbrev pub PrintsDue : Option Due → ℕ → Option (List ℕ) → Option (List ℕ) → ℕ → ℕ → Type 0
PrintsDue None result old new before after = PrintsNothing result old new
PrintsDue (Some due) result old new before after = Prints due result old new before after

-- The answer to words of the form of `check`: an outcome with what it says, how much was read of the image, and its
-- cause, and its line.
pub record ChecksAs (asked : Asked) (names : Option (List Named)) (slots slots' : Slots) (result : ℕ)
    (old new : Option (List ℕ)) (before after : ℕ) : Type 0 where
  pub outcome : Outcome
  pub is : IfSome names (λ files. OutcomeIs asked files outcome slots'.stream.left)
  pub reads : IfSome names (λ files. OutcomeReads asked files outcome slots.image slots'.image)
  pub caused : Caused outcome slots slots'
  pub prints : PrintsDue (due_for asked outcome) result old new before after

-- no count of faults rose in the call, or stands at its end
pub record NoFaultRose (slots slots' : Slots) (before after : ℕ) : Type 0 where
  pub image : (slots'.image.faults ≤ slots.image.faults) × (slots.image.faults < 2 ^ 64 - 1)
  pub stream : (slots'.stream.faults ≤ slots.stream.faults) × (slots.stream.faults < 2 ^ 64 - 1)
  pub out : (after ≤ before) × (before < 2 ^ 64 - 1)

-- The answer where no count rose: memory was refused and nothing is written; or the line and the status of the one
-- answer that the words, the image and the stream have, with just what follows the frame of a verdict left of the
-- stream.
pub data Settled (asked : Asked) (names : List Named) (slots' : Slots) (result : ℕ) (old new : Option (List ℕ))
    : Type 0 where
  refused : PrintsNothing result old new → Settled asked names slots' result old new
  answered : (due : Due) → due_for asked (answer_of asked names) ≡ Some due → result ≡ due.status →
      Appends old new due.line → OutcomeIs asked names (answer_of asked names) slots'.stream.left →
      Settled asked names slots' result old new

-- the answer to words of another form: the words that `check` takes are written, or memory was refused
abbrev pub AnswersUsage : ℕ → Option (List ℕ) → Option (List ℕ) → ℕ → ℕ → Type 0
AnswersUsage result old new before after =
    PrintsNothing result old new ⊎ Prints usage_due result old new before after

-- the answer to words, by what they ask for
abbrev pub AnswersTo : Option Asked → Option (List Named) → Slots → Slots → ℕ → Option (List ℕ) → Option (List ℕ) → ℕ
    → ℕ → Type 0
AnswersTo None names slots slots' result old new before after =
    AnswersUsage result old new before after × (slots' ≡ slots)
AnswersTo (Some a) names slots slots' result old new before after =
    ChecksAs a names slots slots' result old new before after
