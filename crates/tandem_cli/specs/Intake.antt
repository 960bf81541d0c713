-- An input that is read whole.
use Rattle.std.specs.Prelude.{ℕ, ◌≡◌, ◌+◌, ◌^◌, ◌≤◌, ◌⊎◌, Bool, true, false, List, length, Option}
use Rattle.std.specs.Io.KnownBytes.{Consumes, IsAtEnd}
use Rattle.tandem_cli.specs.declared.intake.Whole.{Whole}
use Rattle.tandem_cli.specs.declared.intake.Whole.TheVariants.{Bytes, Failed, Memory}

-- some bytes were taken, and no more than so many
pub record TakesAtMost (most : ℕ) (left left' : Option (List ℕ)) : Type 0 where
  pub got : List ℕ
  pub took : Consumes left left' got
  pub few : length got ≤ most

-- The bytes that were taken are all that was left, or its first 2 ^ 28 + 1. A read failed with at most 2 ^ 28 bytes
-- taken before it, and memory was refused with no more taken than are read.
abbrev pub WholeIs : Whole → Option (List ℕ) → Option (List ℕ) → Type 0
WholeIs (Bytes bytes) left left' =
    Consumes left left' bytes.items × (length bytes.items ≤ 2 ^ 28 + 1) ×
    (IsAtEnd left' ⊎ (length bytes.items ≡ 2 ^ 28 + 1))
WholeIs Failed left left' = TakesAtMost (2 ^ 28) left left'
WholeIs Memory left left' = TakesAtMost (2 ^ 28 + 1) left left'

-- a read answered that nothing is left, or as many bytes were taken as are read at most; the last read failed
abbrev pub WholeEnds : Whole → Bool → Type 0
WholeEnds (Bytes bytes) ended = (ended ≡ true) ⊎ (length bytes.items ≡ 2 ^ 28 + 1)
WholeEnds Failed ended = ended ≡ false
WholeEnds Memory ended = Unit {0}
