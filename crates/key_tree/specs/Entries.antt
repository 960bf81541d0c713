-- Numbers under keys.
use Rattle.std.specs.Prelude.{ℕ, ◌≡◌, ◌==◌, List, [], ◌∷◌, Option, None, Some, if◌then◌else◌}
use Rattle.key_tree.specs.declared.node.Node.{Node}

-- the keys with their numbers, in no order, and how many keys there may be
pub record KeyedEntries : Type 0 where
  pub entries : List (ℕ × ℕ)
  pub capacity : ℕ

-- the number under a key
abbrev pub number_of : List (ℕ × ℕ) → ℕ → Option ℕ
number_of [] key = None
number_of (e ∷ es) key = if e.0 == key then Some e.1 else number_of es key

-- no key is there twice
abbrev pub AreDistinct : List (ℕ × ℕ) → Type 0
AreDistinct [] = Unit {0}
AreDistinct (e ∷ es) = (number_of es e.0 ≡ None) × AreDistinct es

-- the number under a key of the table
abbrev pub number_at : KeyedEntries → ℕ → Option ℕ
number_at table key = number_of table.entries key

-- what is there after a number was put under a key
abbrev pub put : ℕ → ℕ → List (ℕ × ℕ) → ℕ → Option ℕ
put key number entries q = if q == key then Some number else number_of entries q

-- what is there after a key was taken away
abbrev pub with_key_taken : ℕ → List (ℕ × ℕ) → ℕ → Option ℕ
with_key_taken key entries q = if q == key then None else number_of entries q

-- the keys and numbers of the nodes
abbrev pub entries_of : List (Option Node) → List (ℕ × ℕ)
entries_of [] = []
entries_of (None ∷ nodes) = entries_of nodes
entries_of (Some n ∷ nodes) = (n.key, n.number) ∷ entries_of nodes
