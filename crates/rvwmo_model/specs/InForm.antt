-- Which traces are in form.
use Rattle.std.specs.Prelude.{◌^◌, ◌<◌, ◌≡◌, ◌≢◌, ◌||◌, List, true, None, Some, length}
use Rattle.std.specs.List.{Contains, AllPairs}
use Rattle.tandem_base.specs.declared.names.Place.{Place}
use Rattle.tandem_base.specs.Extents.{IsAligned}
use Rattle.tandem_base.specs.Granules.{IsGranule}
use Rattle.rvwmo_model.specs.declared.instructions.Retired.{Retired}
use Rattle.rvwmo_model.specs.declared.operations.Op.{Op}
use Rattle.rvwmo_model.specs.declared.traces.Trace.{Trace}
use Rattle.rvwmo_model.specs.Order.{everything}
use Rattle.rvwmo_model.specs.ProgramOrder.{insn_of, is_one}
use Rattle.rv_decode.specs.Kinds.{is_lr}
use Rattle.rvwmo_model.specs.InsnKinds.{has_stored}

-- the instructions of each hart rise strictly by tag
abbrev pub AreRising : List Retired → Type 0
AreRising insns = AllPairs (λ w v. v.hart ≡ w.hart → w.tag < v.tag) insns

-- o was performed
abbrev pub IsPlaced : Op → Type 0
IsPlaced o = (p : Place) × (o.place ≡ Some p)

-- o is an operation of the instruction w
abbrev pub IsOf : Retired → Op → Type 0
IsOf w o = (o.name.hart ≡ w.hart) × (o.name.tag ≡ w.tag)

-- an operation is whole
pub record IsWhole (o : Op) : Type 0 where
  -- the mask names at least one byte, and only bytes of the extent
  pub some : 0 < o.mask
  pub within : o.mask < 2 ^ o.extent.len
  -- the lists of bytes are as long as the extent
  pub got : length o.got ≡ o.extent.len
  pub put : length o.put ≡ o.extent.len

-- the instruction w has exactly one operation
abbrev pub HasOne : Trace → Retired → Type 0
HasOne t w =
    (o : Op) × Contains t.ops o × IsOf w o × ((v : Op) → Contains t.ops v → IsOf w v → v ≡ o)

-- a trace is in form
pub record InForm (t : Trace) : Type 0 where
  pub rising : AreRising t.insns
  -- each operation names an instruction of the list
  pub named : (o : Op) → Contains t.ops o → (w : Retired) × (insn_of t o ≡ Some w)
  -- no two operations have one name, none standing twice in the list
  pub apart : AllPairs (λ a b. a.name ≢ b.name) t.ops
  -- at most one operation of an instruction has no place
  pub waiting : (a b : Op) → Contains t.ops a → Contains t.ops b → a.name.hart ≡ b.name.hart
      → a.name.tag ≡ b.name.tag → a.place ≡ None → b.place ≡ None → a ≡ b
  -- each early store has a place
  pub early : (o : Op) → Contains t.early o → IsPlaced o
  -- no two operations have one place
  pub places : (a b : Op) (p : Place) → Contains (everything t) a → Contains (everything t) b
      → a.place ≡ Some p → b.place ≡ Some p → a ≡ b
  -- each is whole
  pub whole : (o : Op) → Contains (everything t) o → IsWhole o
  -- an LR, and an SC that stored, have exactly one operation
  pub single : (w : Retired) → Contains t.insns w → (is_one is_lr (Some w) || has_stored (Some w)) ≡ true → HasOne t w
  pub granule : IsGranule t.granule
  -- where there is a block, the operation of an LR has an aligned extent
  pub aligned : (o : Op) → Contains t.ops o → 0 < t.granule → is_one is_lr (insn_of t o) ≡ true → IsAligned o.extent
