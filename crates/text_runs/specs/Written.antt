-- What a sink took of a text.
use Rattle.std.specs.Prelude.{ℕ, ◌≡◌, ◌<◌, ◌⊎◌, List, [], length, take, Option}
use Rattle.std.specs.Io.KnownBytes.{Appends}

-- a sink took some first bytes of the text, and not all
pub record TakesFront (old new : Option (List ℕ)) (text : List ℕ) : Type 0 where
  pub put : ℕ
  pub within : put < length text
  pub took : Appends old new (take put text)

-- of the first bytes of a buffer a sink took none, and they stand there still, or it took all
abbrev pub Pours : Option (List ℕ) → Option (List ℕ) → List ℕ → ℕ → ℕ → Type 0
Pours old new buffer used left =
    ((left ≡ used) × Appends old new []) ⊎ ((left ≡ 0) × Appends old new (take used buffer))
