-- The doublewords that have marks, each found by its number.
use Rattle.std.specs.Prelude.{ℕ, ◌≡◌, ◌≢◌, ◌+◌, ◌-◌, ◌*◌, ◌/◌, ◌%◌, ◌<◌, ◌==◌, ◌||◌, Bool, Option, None, Some}
use Rattle.std.specs.Prelude.{if◌then◌else◌}
use Rattle.std.specs.Option.{option_and_then}
use Rattle.slab.specs.Slab.{Slab, get}
use Rattle.key_tree.specs.Entries.{KeyedEntries, number_at}
use Rattle.tandem_base.specs.declared.extent.Extent.{Extent}
use Rattle.kept_ops.specs.declared.byte_keys.ByteKeys.{ByteKeys}
use Rattle.kept_ops.specs.declared.doubleword.Doubleword.{Doubleword}
use Rattle.kept_ops.specs.declared.words.Words.{Words}
use Rattle.kept_ops.specs.declared.operation.KeptOp.{KeptOp}
use Rattle.kept_ops.specs.Doublewords.{no_keys, keys_in, HasMark, IsKeptAt}

-- the doubleword of a number, None where it has no mark
abbrev pub doubleword_of : Slab Doubleword → KeyedEntries → ℕ → Option Doubleword
doubleword_of words index number = option_and_then (get words) (number_at index number)

-- byte k of a doubleword, if there is one
abbrev pub keys_of_word : Option Doubleword → ℕ → ByteKeys
keys_of_word None k = no_keys
keys_of_word (Some word) k = keys_in word k

-- the marks of the byte at x
abbrev pub keys_of : Slab Doubleword → KeyedEntries → ℕ → ByteKeys
keys_of words index x = keys_of_word (doubleword_of words index (x / 8)) (x % 8)

-- the same of both together
abbrev pub keys_at : Words → ℕ → ByteKeys
keys_at w x = keys_of w.words w.index x

-- each number leads to the doubleword that has it, and each doubleword is found by its number
pub record AreFound (words : Slab Doubleword) (index : KeyedEntries) : Type 0 where
  pub found : (number i : ℕ) → number_at index number ≡ Some i
      → (word : Doubleword) × (get words i ≡ Some word) × (word.number ≡ number)
  pub known : (i : ℕ) (word : Doubleword) → get words i ≡ Some word → number_at index word.number ≡ Some i

-- each doubleword has a mark
abbrev pub AllMarked : Slab Doubleword → Type 0
AllMarked words = (i : ℕ) (word : Doubleword) → get words i ≡ Some word → HasMark word

-- each but one has
abbrev pub AllMarkedBut : Slab Doubleword → ℕ → Type 0
AllMarkedBut words at = (i : ℕ) (word : Doubleword) → i ≢ at → get words i ≡ Some word → HasMark word

-- the doubleword under one key has other marks: at each byte what `change` makes of the old ones
pub record IsChanged (change : ℕ → ByteKeys → ByteKeys) (old new : Slab Doubleword) (at : ℕ) : Type 0 where
  pub was : Doubleword
  pub is : Doubleword
  pub there : get old at ≡ Some was
  pub now : get new at ≡ Some is
  pub number : is.number ≡ was.number
  pub keys : (k : ℕ) → k < 8 → keys_in is k ≡ change (was.number * 8 + k) (keys_in was k)
  pub others : (i : ℕ) → i ≢ at → get new i ≡ get old i

-- what a change of one doubleword makes of the marks of the byte at x
abbrev pub changed_in : (ℕ → ByteKeys → ByteKeys) → ℕ → ℕ → ByteKeys → ByteKeys
changed_in change number x keys = if x / 8 == number then change x keys else keys

-- the number is that of the doubleword that holds the first byte of the extent, or the last
abbrev pub is_number_of : Extent → ℕ → Bool
is_number_of extent n = (n == extent.addr / 8) || (n == (extent.addr + extent.len - 1) / 8)

-- what a change of the doublewords of an extent makes of the marks of the byte at x
abbrev pub changed_by : (ℕ → ByteKeys → ByteKeys) → Extent → ℕ → ByteKeys → ByteKeys
changed_by change extent x keys = if is_number_of extent (x / 8) then change x keys else keys

-- how the doublewords and the operations that they mark stand together: each doubleword is found by its number and
-- has a mark, and each mark at a byte is of an operation that is kept and has the byte
pub record AreMarked (ops : Slab KeptOp) (w : Words) : Type 0 where
  pub found : AreFound w.words w.index
  pub marked : AllMarked w.words
  pub kept : (x : ℕ) → IsKeptAt (get ops) x (keys_at w x)
