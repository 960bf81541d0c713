-- FENCEs by classes of operations (2.7).
use Rattle.std.specs.Prelude.{ℕ, ◌<◌, ◌≡◌, Bool, true, false, Option, None, Some, if◌then◌else◌}
use Rattle.rv_decode.specs.declared.instruction.Insn.{Insn}
use Rattle.rvwmo_model.specs.declared.operations.Op.{Op}
use Rattle.rvwmo_model.specs.declared.operations.OpKind.{OpKind}
use Rattle.rvwmo_model.specs.declared.operations.OpKind.TheVariants as kind
use Rattle.rvwmo_model.specs.declared.traces.Trace.{Trace}
use Rattle.rvwmo_model.specs.Order.{kind_loads, kind_stores}
use Rattle.rvwmo_model.specs.ProgramOrder.{insn_at, is_one}
use Rattle.rvwmo_model.specs.InsnKinds.{fence_orders}
use Rattle.rule_laws.specs.Above.{later_of}

-- the classes that the sets of a FENCE name: loads, and stores
pub data Class : Type 0 where
  loading : Class
  storing : Class

-- an operation of that kind is of the class; that of an AMO is of both
abbrev pub kind_in : Class → OpKind → Bool
kind_in loading k = kind_loads k
kind_in storing k = kind_stores k

-- the kind that is of this class alone
abbrev pub kind_as : Class → OpKind
kind_as loading = kind.Load
kind_as storing = kind.Store

-- a FENCE orders the class c before the class d
abbrev pub class_orders : Class → Class → Insn → Bool
class_orders c d w = fence_orders w (kind_as c) (kind_as d)

-- hart h has a FENCE of that order after a tag
abbrev pub FenceAfter : Trace → ℕ → Class → Class → ℕ → Type 0
FenceAfter t h c d tag = (k : ℕ) × (tag < k) × (is_one (class_orders c d) (insn_at t.insns h k) ≡ true)

-- v is of class c, and a FENCE that orders that before the class d is after it
abbrev pub FencedOff : Trace → ℕ → Class → Class → Op → Type 0
FencedOff t h c d v = (kind_in c v.kind ≡ true) × FenceAfter t h c d v.name.tag

-- the tag is that of the latest FENCE of the order, or there is none
abbrev pub IsLatestFence : Trace → ℕ → Class → Class → Option ℕ → Type 0
IsLatestFence t h c d None = (n : ℕ) → is_one (class_orders c d) (insn_at t.insns h n) ≡ false
IsLatestFence t h c d (Some f) = (is_one (class_orders c d) (insn_at t.insns h f) ≡ true)
    × ((n : ℕ) → f < n → is_one (class_orders c d) (insn_at t.insns h n) ≡ false)

-- a tag is below another, where there is one
abbrev pub IsUnderTag : ℕ → Option ℕ → Type 0
IsUnderTag tag None = ⊥
IsUnderTag tag (Some f) = tag < f

-- of four marks, one for each class before each, the latest that counts for an operation of that kind: an AMO asks all
-- four
abbrev pub fenced_by : (Class → Class → Option Op) → OpKind → Option Op
fenced_by marks k = later_of
    (if kind_loads k then later_of (marks loading loading) (marks storing loading) else None)
    (if kind_stores k then later_of (marks loading storing) (marks storing storing) else None)
