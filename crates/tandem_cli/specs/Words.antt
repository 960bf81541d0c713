-- The words of the commands.
use Rattle.std.specs.Prelude.{ℕ, ◌==◌, Bool, false, not, ◌&&◌, List, [], ◌∷◌, drop, codes, Option, None, Some}
use Rattle.std.specs.Prelude.{if◌then◌else◌}
use Rattle.std.specs.Str.{bytes_eq}
use Rattle.tandem_cli.specs.Options.{Chosen, chosen_of}

-- a word that isn't empty and doesn't begin with `-`
abbrev pub is_name : List ℕ → Bool
is_name [] = false
is_name (first ∷ _) = not (first == 45)

-- the names of an image and of a stream
pub record Names : Type 0 where
  pub image : List ℕ
  pub stream : List ℕ

-- `check IMAGE STREAM` at the front of the words
abbrev pub names_of : List (List ℕ) → Option Names
names_of [] = None
names_of (_ ∷ []) = None
names_of (_ ∷ _ ∷ []) = None
names_of (command ∷ image ∷ stream ∷ _) =
    if bytes_eq command (codes "check") && is_name image && is_name stream
    then Some (record { image = image; stream = stream }) else None

-- what `check` is asked for
pub record Asked : Type 0 where
  pub image : List ℕ
  pub stream : List ℕ
  pub options : Chosen

-- the names and the options, where both are there
abbrev pub asked_from : Option Names → Option Chosen → Option Asked
asked_from None _ = None
asked_from (Some _) None = None
asked_from (Some names) (Some options) = Some (record { image = names.image; stream = names.stream; options = options })

-- `check IMAGE STREAM` and options, or nothing where the words are of another form
abbrev pub asked : List (List ℕ) → Option Asked
asked words = asked_from (names_of words) (chosen_of (drop 3 words))
