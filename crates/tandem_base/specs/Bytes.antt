-- Lists of one to eight bytes.
use Rattle.std.specs.Prelude.{ℕ, ◌-◌, List, ◌++◌, length, replicate}

-- the bytes, with zeros behind up to eight
abbrev pub padded : List ℕ → List ℕ
padded bytes = bytes ++ replicate (8 - length bytes) 0
