-- Where a loaded byte comes from: the load value axiom (14.1).
use Rattle.std.specs.Prelude.{ℕ, ◌≡◌, ◌⊎◌, true, ◌&&◌, ◌||◌, List, [], ◌∷◌, ◌++◌, None, Some, if◌then◌else◌}
use Rattle.std.specs.List.{Contains, filter}
use Rattle.std.specs.declared.option.Option.{Option}
use Rattle.tandem_base.specs.declared.names.Origin.{Origin}
use Rattle.rvwmo_model.specs.declared.operations.Op.{Op}
use Rattle.rvwmo_model.specs.declared.traces.Trace.{Trace}
use Rattle.rvwmo_model.specs.Order.{precedes, writes, put_at}
use Rattle.rvwmo_model.specs.ProgramOrder.{is_older}

-- the stores to byte x that the load i may read: those that precede it in global order or in program order. An
-- operation precedes itself in neither, and the stores of instructions that have not retired are in no program order
abbrev pub writers : Trace → Op → ℕ → List Op
writers t i x =
    filter (λ w. writes x w && (precedes w i || is_older w i)) t.ops
    ++ filter (λ w. writes x w && precedes w i) t.early

-- the same by membership: w is a store to x that the load i may read
abbrev pub IsWriter : Trace → Op → ℕ → Op → Type 0
IsWriter t i x w =
    (Contains t.ops w × (writes x w ≡ true) × ((precedes w i ≡ true) ⊎ (is_older w i ≡ true)))
    ⊎ (Contains t.early w × (writes x w ≡ true) × (precedes w i ≡ true))

-- the later of two, in global order
abbrev pub later : Option Op → Op → Option Op
later None w = Some w
later (Some v) w = if precedes v w then Some w else Some v

-- the latest of a list and of one that there is already
abbrev pub latest_from : Option Op → List Op → Option Op
latest_from best [] = best
latest_from best (w ∷ ws) = latest_from (later best w) ws

-- the source of byte x of the load i: the latest of the stores that it may read in global order, or none where the
-- initial value is read
abbrev pub source : Trace → Op → ℕ → Option Op
source t i x = latest_from None (writers t i x)

-- the byte at x that comes from a source
abbrev pub byte_from : (ℕ → ℕ) → Option Op → ℕ → ℕ
byte_from initial None x = initial x
byte_from initial (Some s) x = put_at s x

-- the hart and tag of an operation
abbrev pub key_of : Op → Origin
key_of o = record { hart = o.name.hart; tag = o.name.tag }

-- the hart and tag of a source; the initial value has none
abbrev pub origin_of : Option Op → Option Origin
origin_of None = None
origin_of (Some s) = Some (key_of s)

-- those of the source of byte x of the load i: by them sources are told apart
abbrev pub origin : Trace → Op → ℕ → Option Origin
origin t i x = origin_of (source t i x)
