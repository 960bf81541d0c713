-- The atomicity axiom (14.1), by bytes and by the reserved block.
use Rattle.std.specs.Prelude.{ℕ, ◌/◌, ◌<◌, ◌≡◌, ◌≢◌, ◌⊎◌, true, false, None, Some}
use Rattle.std.specs.List.{Contains}
use Rattle.std.specs.declared.option.Option.{Option}
use Rattle.rvwmo_model.specs.declared.operations.Op.{Op}
use Rattle.rvwmo_model.specs.declared.traces.Trace.{Trace}
use Rattle.rvwmo_model.specs.Order.{everything, has_byte, reads, writes, precedes}
use Rattle.rvwmo_model.specs.ProgramOrder.{insn_of}
use Rattle.rvwmo_model.specs.Sources.{source}
use Rattle.rvwmo_model.specs.InsnKinds.{has_stored}
use Rattle.rvwmo_model.specs.Rules.{Paired}

-- r and w are operations of an LR and of the successful SC that it is paired with
pub record IsPair (t : Trace) (r w : Op) : Type 0 where
  pub lr_in : Contains t.ops r
  pub sc_in : Contains t.ops w
  pub one_hart : w.name.hart ≡ r.name.hart
  pub in_order : r.name.tag < w.name.tag
  pub paired : Paired t r w
  pub stored : has_stored (insn_of t w) ≡ true

-- each byte of w is one of r
abbrev pub IsCoveredBy : Op → Op → Type 0
IsCoveredBy w r = (x : ℕ) → has_byte x w ≡ true → has_byte x r ≡ true

-- w is of a successful SC that has no pair whose bytes contain its own
pub record Unpaired (t : Trace) (w : Op) : Type 0 where
  pub sc_in : Contains t.ops w
  pub stored : has_stored (insn_of t w) ≡ true
  pub alone : (r : Op) → IsPair t r w → IsCoveredBy w r → ⊥

-- v comes after a source; the initial value comes before everything
abbrev pub IsAfter : Option Op → Op → Type 0
IsAfter None v = Unit {0}
IsAfter (Some s) v = precedes s v ≡ true

-- a source doesn't precede w
abbrev pub IsLate : Option Op → Op → Type 0
IsLate None w = ⊥
IsLate (Some s) w = precedes s w ≡ false

-- v is a store of another hart to byte x, after the source of that byte of r and before w
pub record Intrudes (t : Trace) (r w v : Op) (x : ℕ) : Type 0 where
  pub store_in : Contains (everything t) v
  pub stores : writes x v ≡ true
  pub other : v.name.hart ≢ w.name.hart
  pub after : IsAfter (source t r x) v
  pub before : precedes v w ≡ true

-- the pair r and w isn't atomic at byte x of r
abbrev pub IsTornAt : Trace → Op → Op → ℕ → Type 0
IsTornAt t r w x = (reads x r ≡ true) × (IsLate (source t r x) w ⊎ ((v : Op) × Intrudes t r w v x))

-- byte x lies in the aligned block of the granule that holds r; a granule of 0 is no block
abbrev pub InBlock : Trace → Op → ℕ → Type 0
InBlock t r x = (0 < t.granule) × (x / t.granule ≡ r.extent.addr / t.granule)

-- v stores to byte x of the block of r
abbrev pub WritesBlock : Trace → Op → Op → ℕ → Type 0
WritesBlock t r v x = (writes x v ≡ true) × InBlock t r x

-- v is a store of another hart to the block of r, after r and before w
pub record IntrudesBlock (t : Trace) (r w v : Op) : Type 0 where
  pub store_in : Contains (everything t) v
  pub stores : (x : ℕ) × WritesBlock t r v x
  pub other : v.name.hart ≢ w.name.hart
  pub after : precedes r v ≡ true
  pub before : precedes v w ≡ true

-- the pair r and w isn't atomic, at a byte of r or in its block
pub record Torn (t : Trace) (r w : Op) : Type 0 where
  pub pair : IsPair t r w
  pub torn : ((x : ℕ) × IsTornAt t r w x) ⊎ ((v : Op) × IntrudesBlock t r w v)
