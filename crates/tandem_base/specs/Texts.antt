-- What the texts of Tandem share.
use Rattle.std.specs.Prelude.{ℕ, List, [], ◌∷◌}

-- the end of a line: one byte, LF
abbrev pub newline : List ℕ
newline = 10 ∷ []
