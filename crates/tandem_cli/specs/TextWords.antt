-- The words of `text`.
use Rattle.std.specs.Prelude.{ℕ, List, [], ◌∷◌, codes, Option, None, Some, if◌then◌else◌}
use Rattle.std.specs.Str.{bytes_eq}
use Rattle.tandem_cli.specs.Words.{is_name}
use Rattle.tandem_cli.specs.declared.text_words.TextWay.{TextWay}
use Rattle.tandem_cli.specs.declared.text_words.TextWay.TheVariants as way
use Rattle.tandem_cli.specs.declared.text_words.TextWords.{TextWords}

-- what `text` is asked for: a way, and the name of a stream or of a text
pub record TextAsked : Type 0 where
  pub way : TextWay
  pub name : List ℕ

-- the way that a word names
abbrev pub way_of : List ℕ → Option TextWay
way_of word =
    if bytes_eq word (codes "to") then Some way.To
    else if bytes_eq word (codes "from") then Some way.From else None

-- a way and a name, where the name is one
abbrev pub text_asked_from : Option TextWay → List ℕ → Option TextAsked
text_asked_from None name = None
text_asked_from (Some w) name = if is_name name then Some (record { way = w; name = name }) else None

-- `text to STREAM` or `text from FILE`, or nothing where the words are of another form
abbrev pub text_asked : List (List ℕ) → Option TextAsked
text_asked [] = None
text_asked (_ ∷ []) = None
text_asked (_ ∷ _ ∷ []) = None
text_asked (command ∷ word ∷ name ∷ []) =
    if bytes_eq command (codes "text") then text_asked_from (way_of word) name else None
text_asked (_ ∷ _ ∷ _ ∷ _ ∷ _) = None

-- what the words of the code stand for
abbrev pub text_asked_seen : TextWords → TextAsked
text_asked_seen words = record { way = words.way; name = words.name.now }
