-- What the operations of an access are: its bytes, grouped by where each was performed.
use Rattle.std.specs.Prelude.{ℕ, ◌+◌, ◌^◌, ◌<◌, ◌≡◌, ◌≢◌, List, true}
use Rattle.std.specs.List.{Contains, AllPairs}
use Rattle.std.specs.declared.option.Option.{Option}
use Rattle.tandem_base.specs.declared.names.Place.{Place}
use Rattle.rvwmo_model.specs.declared.operations.Op.{Op}
use Rattle.rvwmo_model.specs.Order.{has_byte}
use Rattle.growth_laws.specs.Kinds.{IsNamed}
use Rattle.trace_model.specs.Groups.{Access, parts_of}

-- the operations group the bytes of an access by place, where f says where each was performed
pub record AreGroups (a : Access) (f : ℕ → Option Place) (ops : List Op) : Type 0 where
  -- each has at least one byte, and only bytes of the extent
  pub some : (v : Op) → Contains ops v → 0 < v.mask
  pub within : (v : Op) → Contains ops v → v.mask < 2 ^ a.extent.len
  -- each byte of the extent is one of an operation's
  pub cover : (k : ℕ) → k < a.extent.len → (v : Op) × Contains ops v × (has_byte (a.extent.addr + k) v ≡ true)
  -- and of one alone
  pub disjoint : (v w : Op) (x : ℕ) → Contains ops v → Contains ops w → has_byte x v ≡ true → has_byte x w ≡ true
      → v ≡ w
  -- it was performed where the operation was
  pub placed : (v : Op) (k : ℕ) → Contains ops v → has_byte (a.extent.addr + k) v ≡ true → v.place ≡ f k
  -- each is named by its lowest byte, and no two have one name
  pub named : (v : Op) → Contains ops v → IsNamed v
  pub apart : AllPairs (λ v w. v.name ≢ w.name) ops
  -- no two have one place
  pub places : AllPairs (λ v w. v.place ≢ w.place) ops

-- the operations of every access do
abbrev pub OperationsAreGroups : Type 0
OperationsAreGroups = (a : Access) (f : ℕ → Option Place) → AreGroups a f (parts_of a f)
