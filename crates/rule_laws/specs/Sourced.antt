-- What the source of a loaded byte tells of rules 1, 3 and 12.
use Rattle.std.specs.Prelude.{ℕ, ◌<◌, ◌≡◌, ◌⊎◌, ◌&&◌, Option, None, Some, true, if◌then◌else◌}
use Rattle.rvwmo_model.specs.declared.operations.Op.{Op}
use Rattle.rvwmo_model.specs.declared.traces.Trace.{Trace}
use Rattle.rvwmo_model.specs.Order.{standing, precedes, writes}
use Rattle.rvwmo_model.specs.ProgramOrder.{insn_of, is_one}
use Rattle.rvwmo_model.specs.Sources.{source}
use Rattle.rvwmo_model.specs.Flows.{AddressDep, DataDep}
use Rattle.rv_decode.specs.Kinds.{is_amo_or_sc}
use Rattle.rule_laws.specs.Above.{Over}
use Rattle.rule_laws.specs.Own.{IsOwnPerformed}

-- v is a performed store of hart h to byte x
abbrev pub IsOwnStored : Trace → ℕ → ℕ → Op → Type 0
IsOwnStored t h x v = IsOwnPerformed t h v × (writes x v ≡ true)

-- v is of an AMO or SC, comes after b, and is the source of byte x of b
abbrev pub IsAtomicSource : Trace → Op → ℕ → Op → Type 0
IsAtomicSource t b x v =
    (source t b x ≡ Some v) × (is_one is_amo_or_sc (insn_of t v) ≡ true) × (precedes b v ≡ true)

-- a source, where it is of an AMO or SC and comes after b
abbrev pub atomic_over : Trace → Op → Option Op → Option Op
atomic_over t b None = None
atomic_over t b (Some s) = if is_one is_amo_or_sc (insn_of t s) && precedes b s then Some s else None

-- the store of hart h under the tag m depends on the performed operation v by address or data
abbrev pub LeadsTo : Trace → ℕ → ℕ → Op → Type 0
LeadsTo t h m v = IsOwnPerformed t h v × (v.name.tag < m)
    × (AddressDep t.insns h m v.name.tag ⊎ DataDep t.insns h m v.name.tag)

-- the source of byte x of b comes after b, and depends on v, which does too
abbrev pub LeadsToSource : Trace → Trace → Op → ℕ → Op → Type 0
LeadsToSource t t' b x v = (s : Op) × (source t' b x ≡ Some s) × (precedes b s ≡ true)
    × Over (LeadsTo t b.name.hart s.name.tag) (standing b) v

-- what a source depends on, where the source comes after b
abbrev pub lead_over : Op → (Op → Option Op) → Option Op → Option Op
lead_over b lead None = None
lead_over b lead (Some s) = if precedes b s then lead s else None
