-- What is kept of a byte, told by the stores to it.
use Rattle.std.specs.Prelude.{ℕ, ◌≡◌, ◌⊎◌, ◌==◌, ◌&&◌, not, Bool, true, false, List, Option, None, Some}
use Rattle.std.specs.Option.{option_map}
use Rattle.std.specs.List.{Contains}
use Rattle.tandem_base.specs.declared.names.Position.{Position}
use Rattle.byte_memory.specs.declared.writer.Writer.{Writer}
use Rattle.byte_memory.specs.Memory.{Written}
use Rattle.tandem_base.specs.Places.{comes_before}

-- a store to a byte: who stored, and what
pub record ByteStore : Type 0 where
  pub writer : Writer
  pub value : ℕ

-- it is the latest of the stores that pass a test, None where none passes
abbrev pub IsLatestStore : (Writer → Bool) → List ByteStore → Option ByteStore → Type 0
IsLatestStore passes stores None = (s : ByteStore) → Contains stores s → passes s.writer ≡ false
IsLatestStore passes stores (Some latest) =
    Contains stores latest × (passes latest.writer ≡ true)
    × ((s : ByteStore) → Contains stores s → passes s.writer ≡ true → comes_before latest.writer.place s.writer.place
    ≡ false)

-- a store was performed before a place
abbrev pub is_before : Position → Writer → Bool
is_before place w = comes_before w.place place

-- it was, and by another hart than this one
abbrev pub is_foreign_before : Position → ℕ → Writer → Bool
is_foreign_before place hart w = comes_before w.place place && not (w.hart == hart)

-- it is the writer of the latest of the stores that pass a test, None where none passes
abbrev pub IsLatestWriter : (Writer → Bool) → List ByteStore → Option Writer → Type 0
IsLatestWriter passes stores writer = (latest : Option ByteStore) × (option_map (λ s. s.writer) latest ≡ writer)
    × IsLatestStore passes stores latest

-- what is kept of a byte is what the stores before a place left: the latest of them, and the latest of another hart
-- than its
abbrev pub IsLeft : Position → List ByteStore → Option Written → Type 0
IsLeft place stores None = IsLatestStore (is_before place) stores None
IsLeft place stores (Some was) =
    IsLatestStore (is_before place) stores (Some (record { writer = was.last; value = was.value }))
    × IsLatestWriter (is_foreign_before place was.last.hart) stores was.other

-- the stores have grown by one
pub record Gains (stores : List ByteStore) (new : ByteStore) (grown : List ByteStore) : Type 0 where
  pub there : Contains grown new
  pub stay : (s : ByteStore) → Contains stores s → Contains grown s
  pub only : (s : ByteStore) → Contains grown s → (s ≡ new) ⊎ Contains stores s
