-- Nodes, and how they make a tree.
use Rattle.std.specs.Prelude.{ℕ, ◌≡◌, ◌≢◌, ◌⊎◌, ◌+◌, ◌^◌, ◌/◌, ◌%◌, ◌<◌, ◌≤◌, ◌==◌, Bool, Option, None, Some}
use Rattle.std.specs.Prelude.{if◌then◌else◌}
use Rattle.std.specs.Int.{bit_at}
use Rattle.key_tree.specs.declared.node.Node.{Node}

-- the key goes to the right of a node at this depth: its bit of that number is set
abbrev pub side : ℕ → ℕ → Bool
side depth key = bit_at key depth == 1

-- the child on a side
abbrev pub child : Bool → Node → Option ℕ
child right n = if right then n.right else n.left

-- the node with this child on a side
abbrev pub with_child : Bool → Option ℕ → Node → Node
with_child right to n = if right then record n { right = to } else record n { left = to }

-- the keys have the same bits below this depth
abbrev pub Agree : ℕ → ℕ → ℕ → Type 0
Agree depth a b = a % 2 ^ depth ≡ b % 2 ^ depth

-- n hangs from the node at p: one deeper, as its child on the side of n's key, with the same bits above
pub record Hangs (at : ℕ → Option Node) (i : ℕ) (n : Node) (p : ℕ) : Type 0 where
  pub from : Node
  pub there : at p ≡ Some from
  pub deeper : n.depth ≡ from.depth + 1
  pub link : child (side from.depth n.key) from ≡ Some i
  pub bits : Agree from.depth n.key from.key

-- the node at j is the child of n on this side
pub record IsChild (at : ℕ → Option Node) (i : ℕ) (n : Node) (right : Bool) (j : ℕ) : Type 0 where
  pub to : Node
  pub there : at j ≡ Some to
  pub up : to.parent ≡ Some i
  pub bit : side n.depth to.key ≡ right

-- the node at i has depth 0 and no parent
pub record IsRoot (at : ℕ → Option Node) (i : ℕ) : Type 0 where
  pub node : Node
  pub there : at i ≡ Some node
  pub top : node.depth ≡ 0
  pub free : node.parent ≡ None

-- the nodes make a tree in which each key stands on the way that its bits lead
pub record IsTree (at : ℕ → Option Node) (root : Option ℕ) : Type 0 where
  pub begins : (i : ℕ) → root ≡ Some i → IsRoot at i
  pub rooted : (i : ℕ) (n : Node) → at i ≡ Some n → n.parent ≡ None → root ≡ Some i
  pub hangs : (i : ℕ) (n : Node) (p : ℕ) → at i ≡ Some n → n.parent ≡ Some p → Hangs at i n p
  pub leads : (i : ℕ) (n : Node) (right : Bool) (j : ℕ) → at i ≡ Some n → child right n ≡ Some j
      → IsChild at i n right j
  pub fits : (i : ℕ) (n : Node) → at i ≡ Some n → n.key < 2 ^ 64

-- no two nodes have one key
abbrev pub AreApart : (ℕ → Option Node) → Type 0
AreApart at = (i j : ℕ) (n m : Node) → at i ≡ Some n → at j ≡ Some m → n.key ≡ m.key → i ≡ j

-- the node at i is on the way of the key, and no node with that key is above it
pub record Reached (at : ℕ → Option Node) (key i depth : ℕ) : Type 0 where
  pub node : Node
  pub there : at i ≡ Some node
  pub deep : node.depth ≡ depth
  pub bits : Agree depth node.key key
  pub none_above : (j : ℕ) (m : Node) → at j ≡ Some m → m.key ≡ key → depth ≤ m.depth

-- no node has the key, and below the node at i there is room for one that has it
pub record Misses (at : ℕ → Option Node) (key depth : ℕ) (node : Node) : Type 0 where
  pub shallow : depth < 64
  pub free : child (side depth key) node ≡ None
  pub absent : (j : ℕ) (m : Node) → at j ≡ Some m → m.key ≢ key

-- the way of the key ends at i: its node has the key, or no node has it
pub record WayEnds (at : ℕ → Option Node) (key i : ℕ) : Type 0 where
  pub depth : ℕ
  pub way : Reached at key i depth
  pub ends : (way.node.key ≡ key) ⊎ Misses at key depth way.node

-- the nodes are those of a tree without two nodes of one key
pub record AreTree (at : ℕ → Option Node) : Type 0 where
  pub root : Option ℕ
  pub tree : IsTree at root
  pub apart : AreApart at

-- the node at i, from that at `from` down, has no children
pub record IsLeafBelow (at : ℕ → Option Node) (from i : ℕ) : Type 0 where
  pub node : Node
  pub there : at i ≡ Some node
  pub left : node.left ≡ None
  pub right : node.right ≡ None
  pub bits : (n : Node) → at from ≡ Some n → Agree n.depth node.key n.key

-- a child of the node: the left one, else the right one
abbrev pub first_child : Node → Option ℕ
first_child n = elim n.left [ Some i ↦ Some i | None ↦ n.right ]

-- the node with this key and number
abbrev pub node_with_entry : ℕ → ℕ → Node → Node
node_with_entry key number n = record n { key = key; number = number }

-- a node without children, with this key and number, below the node n at i
abbrev pub hung_from : ℕ → Node → ℕ → ℕ → Node
hung_from i n key number = record {
  key = key;
  number = number;
  depth = n.depth + 1;
  parent = Some i;
  left = None;
  right = None;
}

-- the nodes are a tree with this root, and no two have one key
pub record IsSound (at : ℕ → Option Node) (root : Option ℕ) : Type 0 where
  pub tree : IsTree at root
  pub apart : AreApart at

-- the two nodes have the same key and number, at the same depth
pub record SameEntry (n m : Node) : Type 0 where
  pub key : m.key ≡ n.key
  pub number : m.number ≡ n.number
  pub deep : m.depth ≡ n.depth

-- each node but the one that is gone is there as it was, perhaps with other links
pub record AllBut (at new : ℕ → Option Node) (gone : ℕ) : Type 0 where
  pub stay : (k : ℕ) (n : Node) → at k ≡ Some n → k ≢ gone → (m : Node) × (new k ≡ Some m) × SameEntry n m
  pub only : (k : ℕ) (m : Node) → new k ≡ Some m → (n : Node) × (at k ≡ Some n) × SameEntry n m
  pub none : new gone ≡ None

-- a node without children and above all others, with this key and number
abbrev pub planted : ℕ → ℕ → Node
planted key number = record { key = key; number = number; depth = 0; parent = None; left = None; right = None }
