-- What a merge buffer stands for.
use Rattle.std.specs.Prelude.{ℕ, ◌+◌, ◌==◌, List, [], ◌∷◌, Some, if◌then◌else◌}
use Rattle.slab.specs.Slab.{Slab, get}
use Rattle.merge_buffer.specs.declared.merging.Difference.{Difference}
use Rattle.merge_buffer.specs.declared.waiting.Part.{Part}
use Rattle.merge_buffer.specs.declared.waiting.Waiting.{Waiting}
use Rattle.tandem_base.specs.declared.room.Took.{Took}
use Rattle.tandem_base.specs.declared.room.Took.TheVariants.{Yes, Full}
use Rattle.merge_buffer.specs.declared.lines.Drain.{Drain}
use Rattle.merge_buffer.specs.declared.lines.Drain.TheVariants.{Parts, Mismatch}
use Rattle.merge_buffer.specs.Chains.{chain_of}
use Rattle.merge_buffer.specs.Parts.{parts_with}

-- the lines on which Inserts wait, by their numbers, each with its Inserts, the newest first; how many wait; those
-- that the last Write drained, the newest first; and how many may wait
pub record Buffer : Type 0 where
  pub lines : List (ℕ × List Part)
  pub count : ℕ
  pub drained : List Part
  pub capacity : ℕ

-- the list beside the number of a line, empty where there is none
abbrev pub list_at : List (ℕ × List Part) → ℕ → List Part
list_at [] line = []
list_at (e ∷ es) line = if e.0 == line then e.1 else list_at es line

-- the Inserts that wait on a line, the newest first
abbrev pub waiting_on : Buffer → ℕ → List Part
waiting_on buffer line = list_at buffer.lines line

-- the lists that the links lead through, from the newest Insert of each line
abbrev pub lines_of : ℕ → Slab Waiting → List (ℕ × ℕ) → List (ℕ × List Part)
lines_of n waiting [] = []
lines_of n waiting (e ∷ es) = (e.0, chain_of n (get waiting) (Some e.1)) ∷ lines_of n waiting es

-- what waits on a line after the answer to one more Insert
abbrev pub after_insert : Took → Part → ℕ → List Part → List Part
after_insert Yes p line ps = parts_with p line ps
after_insert (Full n) p line ps = ps

-- how many wait after it
abbrev pub count_after : Took → ℕ → ℕ
count_after Yes count = count + 1
count_after (Full n) count = count

-- a fact where the parts were drained
abbrev pub IfParts : Drain → (ℕ → Type 0) → Type 0
IfParts (Parts n) P = P n
IfParts (Mismatch d) P = Unit {0}

-- a fact where the Write isn't what waits
abbrev pub IfMismatch : Drain → (Difference → Type 0) → Type 0
IfMismatch (Parts n) P = Unit {0}
IfMismatch (Mismatch d) P = P d
