-- What the words of `gen` that are read say of those that were asked for.
use Rattle.std.proofs.Common.{◌≡◌, Option, None, Some, ap, subst, ◌∙◌}
use Rattle.tandem_cli.specs.declared.gen_words.GenWords.{GenWords}

-- the words that were asked for, or others where none were
abbrev given : GenWords → Option GenWords → GenWords
given others None = others
given others (Some asked) = asked

-- what holds of the words that were read where no byte is named holds of those that were asked for
pub as_asked : (P : GenWords → Type 0) (o : Option GenWords) (read asked : GenWords) → Some read ≡ o → o ≡ Some asked
    → (read.flip ≡ None → P read) → asked.flip ≡ None → P asked
as_asked P o read asked is are p none =
    let same : read ≡ asked = ap (given read) (is ∙ are) in
    subst P same (p (ap (λ (a : GenWords). a.flip) same ∙ none))
