-- The list of single bytes that were taken from a source or given to it, where it is told.
use Rattle.std.specs.Prelude.{◌≡◌, ℕ, true, false, List, [], ◌++◌, map, take, ⊤, Option, Some, None, Result}
use Rattle.std.specs.Prelude.{MatchResult}
use Rattle.tandem_io.specs.declared.types.Logged.{Logged}

-- what is told of the bytes that passed, in their order, or None where nothing is
abbrev pub Log : Type 0
Log = Option (List Logged)

-- the entry of a byte that was taken
abbrev pub taken : ℕ → Logged
taken byte = record { given = false; byte = byte }

-- the entry of a byte that was given
abbrev pub given : ℕ → Logged
given byte = record { given = true; byte = byte }

-- known bytes begin with these
abbrev pub BeginsWith : Option (List ℕ) → List ℕ → Type 0
BeginsWith None front = ⊤
BeginsWith (Some bytes) front = (rest : List ℕ) × (bytes ≡ front ++ rest)

-- a told log grew by these entries
abbrev pub Logs : Log → Log → List Logged → Type 0
Logs None new entries = ⊤
Logs (Some before) None entries = ⊥
Logs (Some before) (Some after) entries = after ≡ before ++ entries

-- a read logged the bytes that it took, and a failed one nothing
abbrev pub ReadLogs : {E : Type 0} → Log → Log → Result ℕ E → List ℕ → Type 0
ReadLogs old new r buf = MatchResult r (λ n. Logs old new (map taken (take n buf))) (λ _. Logs old new [])
