-- What `tandem gen` writes and answers.
use Rattle.std.specs.Prelude.{ℕ, ◌⊎◌, ◌++◌, List, [], codes, Option, Some, None}
use Rattle.std.specs.Fmt.{decimal}
use Rattle.tandem_base.specs.Texts.{newline}
use Rattle.verdict_report.specs.declared.verdict.Verdict.{Verdict}
use Rattle.verdict_report.specs.Lines.{verdict_line}
use Rattle.gen_runs.specs.Accepting.{made_accept}
use Rattle.gen_runs.specs.Verdicts.{made_verdict}
use Rattle.tandem_cli.specs.Answers.{Due, Prints, PrintsNothing, status_of_verdict}
use Rattle.tandem_cli.specs.declared.gen_words.GenWords.{GenWords}

-- the words that `gen` takes
abbrev pub gen_usage_line : List ℕ
gen_usage_line = codes "USAGE tandem gen SEED HARTS COUNT [--flip OFFSET]\n"

-- the flip that was asked for
abbrev pub flip_text : Option ℕ → List ℕ
flip_text None = []
flip_text (Some n) = codes " flip=" ++ decimal n

-- what was made
abbrev pub gen_line : GenWords → List ℕ
gen_line asked =
    codes "GEN seed=" ++ decimal asked.seed ++ codes " harts=" ++ decimal asked.harts ++ codes " count="
    ++ decimal asked.count ++ flip_text asked.flip ++ newline

-- what is due for words of another form
abbrev pub gen_usage_due : Due
gen_usage_due = record { line = gen_usage_line; status = 2 }

-- what is due for a verdict on what was made
abbrev pub due_for_made : GenWords → Verdict → Due
due_for_made asked v = record { line = gen_line asked ++ verdict_line v; status = status_of_verdict v }

-- what is due for words of the form of `gen`
abbrev pub gen_due : GenWords → Due
gen_due asked = due_for_made asked (made_verdict asked.seed asked.harts asked.count asked.flip)

-- the answer to words of the form of `gen`: memory was refused and nothing was written, or the two lines that are due
abbrev pub AnswersMade : GenWords → ℕ → Option (List ℕ) → Option (List ℕ) → ℕ → ℕ → Type 0
AnswersMade asked result old new before after =
    PrintsNothing result old new ⊎ Prints (gen_due asked) result old new before after

-- the same, where the verdict accepts what was made
abbrev pub AnswersAccepted : GenWords → ℕ → Option (List ℕ) → Option (List ℕ) → ℕ → ℕ → Type 0
AnswersAccepted asked result old new before after =
    PrintsNothing result old new
    ⊎ Prints (due_for_made asked (made_accept asked.seed asked.harts asked.count)) result old new before after
