-- How a text is put into a buffer.
use Rattle.std.specs.Prelude.{◌≡◌, ℕ, ◌+◌, List, ◌++◌, length, take, drop}

-- the text stands in the buffer from offset `at` up to `end` now, and what is before and behind it stays
pub record Puts (at : ℕ) (old : List ℕ) (end : ℕ) (new text : List ℕ) : Type 0 where
  pub ends : end ≡ at + length text
  pub front : take end new ≡ take at old ++ text
  pub back : drop end new ≡ drop end old
