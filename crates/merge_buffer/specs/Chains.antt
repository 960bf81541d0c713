-- Lists of Inserts, as they are kept.
use Rattle.std.specs.Prelude.{ℕ, zero, suc, ◌≡◌, ◌≢◌, ◌+◌, ◌<◌, ◌==◌, List}
use Rattle.std.specs.Prelude.{[], ◌∷◌, Option, None, Some, slice_index, if◌then◌else◌}
use Rattle.slab.specs.Slab.{Slab, get}
use Rattle.key_tree.specs.Entries.{KeyedEntries, number_at}
use Rattle.std.specs.Int.{bit_at}
use Rattle.merge_buffer.specs.declared.waiting.Part.{Part}
use Rattle.merge_buffer.specs.declared.waiting.Waiting.{Waiting}
use Rattle.msg_frames.specs.declared.message.LineWrite.{LineWrite}
use Rattle.merge_buffer.specs.declared.merging.Difference.{Difference}
use Rattle.merge_buffer.specs.declared.merging.Merged.{Merged}
use Rattle.msg_frames.specs.Pieces.{byte_written}
use Rattle.merge_buffer.specs.Parts.{Falls, AllOn}

-- from the entry at `head` the links lead through these Inserts, and end
abbrev pub IsChain : (ℕ → Option Waiting) → Option ℕ → List Part → Type 0
IsChain at head [] = head ≡ None
IsChain at head (p ∷ ps) =
    (i : ℕ) × (w : Waiting) × (head ≡ Some i) × (at i ≡ Some w) × (w.part ≡ p) × IsChain at w.before ps

-- there is such a list, of Inserts on this line, and their numbers fall
pub record IsChained (at : ℕ → Option Waiting) (head : Option ℕ) (line : ℕ) : Type 0 where
  pub parts : List Part
  pub chain : IsChain at head parts
  pub falls : Falls parts
  pub on : AllOn line parts

-- the Inserts to which the links lead from the entry at `head`, at most `n` of them
abbrev pub chain_of : ℕ → (ℕ → Option Waiting) → Option ℕ → List Part
chain_of zero at head = []
chain_of (suc n) at None = []
chain_of (suc n) at (Some i) = elim (at i) [ Some w ↦ w.part ∷ chain_of n at w.before | None ↦ [] ]

-- the Inserts that wait on each line are linked from its newest one
pub record AreChained (waiting : Slab Waiting) (newest : KeyedEntries) : Type 0 where
  pub chains : (line : ℕ) → IsChained (get waiting) (number_at newest line) line

-- those that wait on a line, the newest first, at most `n` of them
abbrev pub parts_on : ℕ → Slab Waiting → KeyedEntries → ℕ → List Part
parts_on n waiting newest line = chain_of n (get waiting) (number_at newest line)

-- byte k of a merged line, None where nothing waits
abbrev pub merged_byte : Merged → ℕ → Option ℕ
merged_byte merged k = if bit_at merged.mask k == 1 then Some (slice_index merged.bytes k) else None

-- a Write differs first at this byte
pub record IsFirstDifference (merged : Merged) (write : LineWrite) (d : Difference) : Type 0 where
  pub k : ℕ
  pub inside : k < 64
  pub at : d.at ≡ write.line + k
  pub want : merged_byte merged k ≡ d.want
  pub got : byte_written write (write.line + k) ≡ d.got
  pub differ : d.want ≢ d.got
  pub lowest : (j : ℕ) → j < k → merged_byte merged j ≡ byte_written write (write.line + j)
