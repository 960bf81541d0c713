-- The operations that are kept, each under a key.
use Rattle.std.specs.Prelude.{ℕ, ◌≡◌, ◌≢◌, ◌+◌, ◌<◌, List, length, All, Option, None, Some, is_some, count_by, true}
use Rattle.std.specs.Prelude.{slice_index_or, if◌then◌else◌}
use Rattle.std.specs.List.{AllPairs}
use Rattle.kept_ops.specs.declared.operation.KeptOp.{KeptOp}
use Rattle.kept_ops.specs.declared.division.Division.{Division}
use Rattle.kept_ops.specs.declared.ops.Node.{Node}
use Rattle.kept_ops.specs.Divisions.{IsEven}

-- the operation of a node, None where it isn't kept any longer
abbrev pub op_in : Node → Option KeptOp
op_in n = if n.live then Some n.op else None

-- a node with an operation that is kept
abbrev pub live_node : KeptOp → Division → Node
live_node o division = record { op = o; division = division; live = true }

-- the keys of the slots that are vacant, each once
pub record AreVacant (slots : List (Option KeptOp)) (keys : List ℕ) : Type 0 where
  pub empty : All (λ k. slice_index_or slots k None ≡ None) keys
  pub below : All (λ k. k < length slots) keys
  pub apart : AllPairs (λ j k. j ≢ k) keys
  pub counted : length keys + count_by is_some slots ≡ length slots

-- each operation does the same at all bytes of a cell of its division
abbrev pub AreEven : List Node → Type 0
AreEven nodes = All (λ n. IsEven n.division n.op) nodes
