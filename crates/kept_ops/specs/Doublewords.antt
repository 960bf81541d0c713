-- The marks of doublewords, by the keys under which operations are kept.
use Rattle.std.specs.Prelude.{ℕ, ◌≡◌, ◌⊎◌, ◌/◌, ◌<◌, ◌==◌, ◌||◌, Bool, true, List, [], ◌∷◌, map}
use Rattle.std.specs.Prelude.{Option, None, Some, is_some}
use Rattle.std.specs.Prelude.{slice_index_or, if◌then◌else◌}
use Rattle.slab.specs.Slab.{Slab, get}
use Rattle.tandem_base.specs.declared.extent.Extent.{Extent}
use Rattle.tandem_base.specs.Extents.{is_among}
use Rattle.tandem_base.specs.Places.{comes_before}
use Rattle.rvwmo_model.specs.Tests.{same_origin}
use Rattle.kept_ops.specs.declared.byte_keys.ByteKeys.{ByteKeys}
use Rattle.kept_ops.specs.declared.doubleword.Doubleword.{Doubleword}
use Rattle.kept_ops.specs.declared.operation.KeptOp.{KeptOp}
use Rattle.kept_ops.specs.Divisions.{cell_size}
use Rattle.kept_ops.specs.Marks.{ByteMarks}
use Rattle.kept_ops.specs.Operations.{holds_byte, loads_at, stores_at, source_at}

-- a byte without marks
abbrev pub no_keys : ByteKeys
no_keys = record { store = None; load = None; other = None }

-- the operation under a key, if there is a key
abbrev pub op_at : (ℕ → Option KeptOp) → Option ℕ → Option KeptOp
op_at at None = None
op_at at (Some key) = at key

-- the operations that are marked
abbrev pub marks_of : (ℕ → Option KeptOp) → ByteKeys → ByteMarks
marks_of at keys =
    record { store = op_at at keys.store; load = op_at at keys.load; other = op_at at keys.other }

-- there is no operation, or it comes before o
abbrev pub gives_way : Option KeptOp → KeptOp → Bool
gives_way None o = true
gives_way (Some m) o = comes_before m.place o.place

-- the key of the later of the operation that is marked and one more
abbrev pub later_key : (ℕ → Option KeptOp) → Option ℕ → ℕ → KeptOp → Option ℕ
later_key at None key o = Some key
later_key at (Some held) key o = if gives_way (at held) o then Some key else Some held

-- the key of the latest load of byte x with another source than the latest load, which is there or not, after one load
-- more
abbrev pub other_key_beside : (ℕ → Option KeptOp) → ℕ → Option KeptOp → ℕ → Option ℕ → ℕ → KeptOp → Option ℕ
other_key_beside at x None held other key o = other
other_key_beside at x (Some last) held other key o =
    if same_origin (source_at x last) (source_at x o) then other
    else (if comes_before last.place o.place then Some held else later_key at other key o)

-- the same by the key of the latest load
abbrev pub other_key : (ℕ → Option KeptOp) → ℕ → Option ℕ → Option ℕ → ℕ → KeptOp → Option ℕ
other_key at x None other key o = other
other_key at x (Some held) other key o = other_key_beside at x (at held) held other key o

-- the marks of byte x after one operation more, which is kept under the key
unfoldable pub keys_with : (ℕ → Option KeptOp) → ℕ → ℕ → KeptOp → ByteKeys → ByteKeys
keys_with at x key o keys = record {
  store = if stores_at x o then later_key at keys.store key o else keys.store;
  load = if loads_at x o then later_key at keys.load key o else keys.load;
  other = if loads_at x o then other_key at x keys.load keys.other key o else keys.other;
}

-- a mark, unless it is of this key
abbrev pub without_key : ℕ → Option ℕ → Option ℕ
without_key key None = None
without_key key (Some held) = if held == key then None else Some held

-- the marks of a byte, without those of this key
unfoldable pub keys_without : ℕ → ByteKeys → ByteKeys
keys_without key keys = record {
  store = without_key key keys.store;
  load = without_key key keys.load;
  other = without_key key keys.other;
}

-- the marks of byte x once a store to the extent has retired
abbrev pub keys_closed : Extent → ℕ → ByteKeys → ByteKeys
keys_closed extent x keys =
    if is_among extent.addr extent.len x then record { store = keys.store; load = None; other = None } else keys

-- the marks of byte x after one load of it more, which is kept under the key
abbrev pub with_load : (ℕ → Option KeptOp) → ℕ → ℕ → KeptOp → ByteKeys → ByteKeys
with_load at x key o keys = record {
  store = keys.store;
  load = later_key at keys.load key o;
  other = other_key at x keys.load keys.other key o;
}

-- the marks of cell c of a doubleword
abbrev pub cell_keys : Doubleword → ℕ → ByteKeys
cell_keys word c = slice_index_or word.cells c no_keys

-- the marks of byte k of a doubleword
abbrev pub keys_in : Doubleword → ℕ → ByteKeys
keys_in word k = cell_keys word (k / cell_size word.division)

-- the marks of its bytes
abbrev pub keys_of_bytes : Doubleword → List ByteKeys
keys_of_bytes word =
    keys_in word 0 ∷ keys_in word 1 ∷ keys_in word 2 ∷ keys_in word 3 ∷ keys_in word 4 ∷ keys_in word 5 ∷ keys_in word 6
    ∷ keys_in word 7 ∷ []

-- the key is one of the marks
abbrev pub HasKey : ByteKeys → ℕ → Type 0
HasKey keys key = (keys.store ≡ Some key) ⊎ (keys.load ≡ Some key) ⊎ (keys.other ≡ Some key)

-- the operation under the key is kept, and has the byte at x
abbrev pub IsKeptOp : (ℕ → Option KeptOp) → ℕ → ℕ → Type 0
IsKeptOp at x key = (o : KeptOp) × (at key ≡ Some o) × (holds_byte x o ≡ true)

-- so is each that is marked there
abbrev pub IsKeptAt : (ℕ → Option KeptOp) → ℕ → ByteKeys → Type 0
IsKeptAt at x keys = (key : ℕ) → HasKey keys key → IsKeptOp at x key

-- there is a mark
abbrev pub has_a_key : ByteKeys → Bool
has_a_key keys = is_some keys.store || is_some keys.load || is_some keys.other

-- some byte of the doubleword has a mark
abbrev pub HasMark : Doubleword → Type 0
HasMark word = (k : ℕ) × (k < 8) × (has_a_key (keys_in word k) ≡ true)

-- the marks of the bytes of a doubleword, if there is one
abbrev pub bytes_marked_by : (ℕ → Option KeptOp) → Option Doubleword → List ByteMarks
bytes_marked_by at None = []
bytes_marked_by at (Some word) = map (λ keys. marks_of at keys) (keys_of_bytes word)

-- the marks of the doublewords that an index leads to, each by its number
abbrev pub marked_words : (ℕ → Option KeptOp) → Slab Doubleword → List (ℕ × ℕ) → List (ℕ × List ByteMarks)
marked_words at words [] = []
marked_words at words (e ∷ es) = (e.0, bytes_marked_by at (get words e.1)) ∷ marked_words at words es
