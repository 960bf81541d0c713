-- What the command of the first word comes to.
use Rattle.std.proofs.Common.{◌≡◌, ℕ, inl, inr, List, Option, Some, None, refl, sym, subst}
use Rattle.std.proofs.KnownBytes.{Appends-nil}
use Rattle.tandem_io.specs.Inputs.{Named, Slots}
use Rattle.tandem_cli.specs.Answers.{AnswersTo, Prints}
use Rattle.tandem_cli.specs.GenRuns.{AnswersMade, gen_usage_due}
use Rattle.tandem_cli.specs.GenWords.{gen_asked}
use Rattle.tandem_cli.specs.Programs.{command_of, AnswersText, AnswersWords, WritesMade, answers_command, asks_nothing}
use Rattle.tandem_cli.specs.TextRuns.{runs_text, text_usage_due}
use Rattle.tandem_cli.specs.TextWords.{TextAsked, text_asked}
use Rattle.tandem_cli.specs.Words.{asked}
use Rattle.tandem_cli.specs.declared.gen_words.GenWords.{GenWords}
use Rattle.tandem_cli.specs.declared.program.Command.{Command}
use Rattle.tandem_cli.specs.declared.program.Command.TheVariants as command
use Rattle.tandem_cli.proofs.AnswerLaws.{words_refused}

-- the answer to words of `text`, by what is answered to words of another form, and of its form
pub answers_text : (o : Option TextAsked) (names : Option (List Named)) (slots slots' : Slots) (result : ℕ)
    (old new : Option (List ℕ)) (before after : ℕ)
    → (o ≡ None → Prints text_usage_due result old new before after) → (o ≡ None → slots' ≡ slots)
    → ((a : TextAsked) → o ≡ Some a
    → runs_text a.way a.name names slots.stream slots'.stream result old new before after)
    → AnswersText o names slots slots' result old new before after
answers_text None names slots slots' result old new before after usage same runs = (inr (usage refl), same refl)
answers_text (Some a) names slots slots' result old new before after usage same runs = inr (runs a refl)

text_refused : (o : Option TextAsked) (names : Option (List Named)) (slots : Slots) (written : Option (List ℕ))
    (faults : ℕ) → AnswersText o names slots slots 7 written written faults faults
text_refused None names slots written faults = (inl (refl, Appends-nil written), refl)
text_refused (Some a) names slots written faults = inl ((refl, Appends-nil written), refl)

-- the answer to words of `gen`, likewise
pub answers_made : (o : Option GenWords) (result : ℕ) (old new : Option (List ℕ)) (before after : ℕ)
    → (o ≡ None → Prints gen_usage_due result old new before after)
    → ((a : GenWords) → o ≡ Some a → AnswersMade a result old new before after)
    → WritesMade o result old new before after
answers_made None result old new before after usage made = inr (usage refl)
answers_made (Some a) result old new before after usage made = made a refl

made_refused : (o : Option GenWords) (written : Option (List ℕ)) (faults : ℕ)
    → WritesMade o 7 written written faults faults
made_refused None written faults = inl (refl, Appends-nil written)
made_refused (Some a) written faults = inl (refl, Appends-nil written)

refused_by : (c : Command) (words : List (List ℕ)) (names : Option (List Named)) (slots : Slots)
    (written : Option (List ℕ)) (faults : ℕ)
    → answers_command c words names slots slots 7 written written faults faults
refused_by command.Text words names slots written faults = text_refused (text_asked words) names slots written faults
refused_by command.Gen words names slots written faults = (made_refused (gen_asked words) written faults, refl)
refused_by command.Check words names slots written faults = words_refused (asked words) names slots written faults

-- the answer to words for which memory was refused
pub command_refused : (words : List (List ℕ)) (names : Option (List Named)) (slots : Slots)
    (written : Option (List ℕ)) (faults : ℕ) → AnswersWords words names slots slots 7 written written faults faults
command_refused words names slots written faults = refused_by (command_of words) words names slots written faults

-- the answer by the command that the words name
pub named : (c : Command) (names : Option (List Named)) (slots slots' : Slots) (result : ℕ)
    (old new : Option (List ℕ)) (before after : ℕ) (words : List (List ℕ)) → command_of words ≡ c
    → answers_command c words names slots slots' result old new before after
    → AnswersWords words names slots slots' result old new before after
named c names slots slots' result old new before after words is answers =
    subst (λ (k : Command). answers_command k words names slots slots' result old new before after) (sym is) answers

-- what is asked of it
pub nothing_of : (c : Command) (words : List (List ℕ)) → command_of words ≡ c
    → asks_nothing (command_of words) words → asks_nothing c words
nothing_of c words is none = subst (λ (k : Command). asks_nothing k words) is none
