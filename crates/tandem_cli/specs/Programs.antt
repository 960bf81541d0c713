-- The answer to the words that the program was started with, by the command that the first of them names.
use Rattle.std.specs.Prelude.{ℕ, ◌≡◌, ◌⊎◌, List, [], ◌∷◌, codes, Option, Some, None, if◌then◌else◌}
use Rattle.std.specs.Str.{bytes_eq}
use Rattle.tandem_io.specs.Inputs.{Named, Slots}
use Rattle.tandem_cli.specs.Answers.{AnswersTo, Prints, PrintsNothing}
use Rattle.tandem_cli.specs.GenRuns.{AnswersMade, gen_usage_due}
use Rattle.tandem_cli.specs.GenWords.{gen_asked}
use Rattle.tandem_cli.specs.TextRuns.{runs_text, text_usage_due}
use Rattle.tandem_cli.specs.TextWords.{TextAsked, text_asked}
use Rattle.tandem_cli.specs.Words.{asked}
use Rattle.tandem_cli.specs.declared.gen_words.GenWords.{GenWords}
use Rattle.tandem_cli.specs.declared.program.Command.{Command}
use Rattle.tandem_cli.specs.declared.program.Command.TheVariants as command

-- the command that a first word names: every other word than `text` and `gen` is left to `check`
abbrev pub command_named : List ℕ → Command
command_named word =
    if bytes_eq word (codes "text") then command.Text
    else if bytes_eq word (codes "gen") then command.Gen else command.Check

-- the command that words name
abbrev pub command_of : List (List ℕ) → Command
command_of [] = command.Check
command_of (word ∷ words) = command_named word

-- the answer to words that begin with `text`, by what they ask for; or memory for them was refused
abbrev pub AnswersText : Option TextAsked → Option (List Named) → Slots → Slots → ℕ → Option (List ℕ)
    → Option (List ℕ) → ℕ → ℕ → Type 0
AnswersText None names slots slots' result old new before after =
    (PrintsNothing result old new ⊎ Prints text_usage_due result old new before after) × (slots' ≡ slots)
AnswersText (Some a) names slots slots' result old new before after =
    (PrintsNothing result old new × (slots' ≡ slots))
    ⊎ runs_text a.way a.name names slots.stream slots'.stream result old new before after

-- what is written for words that begin with `gen`, by what they ask for; or memory was refused
abbrev pub WritesMade : Option GenWords → ℕ → Option (List ℕ) → Option (List ℕ) → ℕ → ℕ → Type 0
WritesMade None result old new before after =
    PrintsNothing result old new ⊎ Prints gen_usage_due result old new before after
WritesMade (Some a) result old new before after = AnswersMade a result old new before after

-- the answer to words, by the command that they name
abbrev pub answers_command : Command → List (List ℕ) → Option (List Named) → Slots → Slots → ℕ → Option (List ℕ)
    → Option (List ℕ) → ℕ → ℕ → Type 0
answers_command command.Text words names slots slots' result old new before after =
    AnswersText (text_asked words) names slots slots' result old new before after
answers_command command.Gen words names slots slots' result old new before after =
    WritesMade (gen_asked words) result old new before after × (slots' ≡ slots)
answers_command command.Check words names slots slots' result old new before after =
    AnswersTo (asked words) names slots slots' result old new before after

-- the answer to words
abbrev pub AnswersWords : List (List ℕ) → Option (List Named) → Slots → Slots → ℕ → Option (List ℕ)
    → Option (List ℕ) → ℕ → ℕ → Type 0
AnswersWords words names slots slots' result old new before after =
    answers_command (command_of words) words names slots slots' result old new before after

-- the words ask for nothing for which their command needs the inputs
abbrev pub asks_nothing : Command → List (List ℕ) → Type 0
asks_nothing command.Text words = text_asked words ≡ None
asks_nothing command.Gen words = Unit {0}
asks_nothing command.Check words = asked words ≡ None
