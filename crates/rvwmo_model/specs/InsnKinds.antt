-- Which instructions the memory model speaks of.
use Rattle.std.specs.Prelude.{ℕ, ◌/◌, ◌%◌, ◌==◌, ◌&&◌, ◌||◌, Bool, false, None, Some, if◌then◌else◌}
use Rattle.std.specs.declared.option.Option.{Option}
use Rattle.rv_decode.specs.declared.instruction.Insn.{Insn}
use Rattle.rv_decode.specs.declared.instruction.Insn.TheVariants.{Fence}
use Rattle.rv_decode.specs.Kinds.{is_sc}
use Rattle.rvwmo_model.specs.declared.instructions.Retired.{Retired}
use Rattle.rvwmo_model.specs.declared.operations.OpKind.{OpKind}
use Rattle.rvwmo_model.specs.Order.{kind_loads, kind_stores}

-- an SC that succeeded
abbrev pub has_stored : Option Retired → Bool
has_stored None = false
has_stored (Some w) = is_sc w.insn && w.stored

-- an operation of that kind is in a predecessor or successor set: bit 1 names loads, bit 0 stores (2.7)
abbrev pub in_set : ℕ → OpKind → Bool
in_set set o = (((set / 2) % 2 == 1) && kind_loads o) || ((set % 2 == 1) && kind_stores o)

-- FENCE.TSO has fm 1000 and both sets RW; every other fm is read as 0000 (2.7)
abbrev pub is_tso : ℕ → ℕ → ℕ → Bool
is_tso fm before after = (fm == 8) && (before == 3) && (after == 3)

-- a FENCE orders an operation of the kind a before one of the kind b: by its two sets; FENCE.TSO orders loads before
-- everything, and stores before stores
abbrev pub fence_orders : Insn → OpKind → OpKind → Bool
fence_orders (Fence fm before after rd rs1) a b =
    if is_tso fm before after
    then kind_loads a || (kind_stores a && kind_stores b)
    else in_set before a && in_set after b
fence_orders _ a b = false
