-- Which operations an instruction has, and when a trace is well kinded.
use Rattle.std.specs.Prelude.{ℕ, ◌+◌, ◌<◌, ◌≤◌, ◌≡◌, Bool, true, false, None, Some, if◌then◌else◌}
use Rattle.std.specs.declared.option.Option.{Option}
use Rattle.std.specs.List.{Contains}
use Rattle.rv_decode.specs.declared.instruction.Insn.{Insn}
use Rattle.rv_decode.specs.declared.instruction.Insn.TheVariants.{Load, Store, Lr, Sc, Amo}
use Rattle.rv_decode.specs.Kinds.{is_store}
use Rattle.tandem_base.specs.Extents.{Covers}
use Rattle.rvwmo_model.specs.declared.instructions.Retired.{Retired}
use Rattle.rvwmo_model.specs.declared.operations.Op.{Op}
use Rattle.rvwmo_model.specs.declared.operations.OpKind.{OpKind}
use Rattle.rvwmo_model.specs.declared.operations.OpKind.TheVariants as kind
use Rattle.rvwmo_model.specs.declared.operations.Ann.TheVariants as ann
use Rattle.rvwmo_model.specs.declared.traces.Trace.{Trace}
use Rattle.rvwmo_model.specs.Order.{has_byte}
use Rattle.rvwmo_model.specs.ProgramOrder.{insn_of, is_one}
use Rattle.rvwmo_model.specs.Atomicity.{IsPair, IsCoveredBy}
use Rattle.rvwmo_model.specs.InForm.{InForm}
use Rattle.rvwmo_model.specs.Annotations.{is_rcsc}
use Rattle.rvwmo_model.specs.InsnKinds.{has_stored}

-- the kind of the operations of an instruction; a failed SC, and what doesn't access memory, has none
abbrev pub kind_of_insn : Insn → Bool → Option OpKind
kind_of_insn (Load op rd rs1 imm) stored = Some kind.Load
kind_of_insn (Lr wide aq rl rd rs1) stored = Some kind.Load
kind_of_insn (Store op rs1 rs2 imm) stored = Some kind.Store
kind_of_insn (Sc wide aq rl rd rs1 rs2) stored = if stored then Some kind.Store else None
kind_of_insn (Amo op wide aq rl rd rs1 rs2) stored = Some kind.Both
kind_of_insn _ stored = None

-- the kind of the operations of an instruction that retired
abbrev pub kind_of_retired : Retired → Option OpKind
kind_of_retired w = kind_of_insn w.insn w.stored

-- o is an operation of a plain store
abbrev pub IsPlainStore : Trace → Op → Type 0
IsPlainStore t o = is_one is_store (insn_of t o) ≡ true

-- a and b are operations of one instruction
abbrev pub SameInsn : Op → Op → Type 0
SameInsn a b = (a.name.hart ≡ b.name.hart) × (a.name.tag ≡ b.name.tag)

-- the part in the name of an operation is its lowest byte
pub record IsNamed (o : Op) : Type 0 where
  pub here : has_byte (o.extent.addr + o.name.part) o ≡ true
  pub lowest : (x : ℕ) → has_byte x o ≡ true → o.extent.addr + o.name.part ≤ x

-- a plain store has no acquire annotation, and no RCsc annotation as a release
abbrev pub IsPlainAnnotated : Op → Type 0
IsPlainAnnotated o = (o.acquire ≡ ann.None) × (is_rcsc o.release ≡ false)

-- a trace in form whose operations are those that its instructions can have
pub record WellKinded (t : Trace) : Type 0 where
  pub form : InForm t
  -- the kind of an operation fits its instruction; an AMO has one operation
  pub kinds : (o : Op) (w : Retired) → Contains t.ops o → insn_of t o ≡ Some w → kind_of_retired w ≡ Some o.kind
  pub amo : (a b : Op) → Contains t.ops a → Contains t.ops b → SameInsn a b → a.kind ≡ kind.Both → a ≡ b
  -- early stores are stores
  pub early_stores : (o : Op) → Contains t.early o → o.kind ≡ kind.Store
  -- only a plain store has an operation that is not performed
  pub unperformed : (o : Op) → Contains t.ops o → o.place ≡ None → IsPlainStore t o
  -- the operations of one instruction have one extent and no common byte, and each is named by its lowest byte
  pub extents : (a b : Op) → Contains t.ops a → Contains t.ops b → SameInsn a b → a.extent ≡ b.extent
  pub disjoint : (a b : Op) (x : ℕ) → Contains t.ops a → Contains t.ops b → SameInsn a b → has_byte x a ≡ true
      → has_byte x b ≡ true → a ≡ b
  pub parts : (o : Op) → Contains t.ops o → IsNamed o
  -- those of a plain store cover its extent
  pub cover : (o : Op) (x : ℕ) → Contains t.ops o → IsPlainStore t o → Covers o.extent x → (v : Op) × Contains t.ops v
      × SameInsn v o × (has_byte x v ≡ true)
  pub plain : (o : Op) → Contains t.ops o → IsPlainStore t o → IsPlainAnnotated o
  -- early stores of one hart have different tags, above those of all its instructions that retired
  pub early_apart : (a b : Op) → Contains t.early a → Contains t.early b → SameInsn a b → a ≡ b
  pub early_younger : (o : Op) (w : Retired) → Contains t.early o → Contains t.insns w → w.hart ≡ o.name.hart
      → w.tag < o.name.tag
  -- each successful SC has a pair whose bytes contain its own
  pub paired : (w : Op) → Contains t.ops w → has_stored (insn_of t w) ≡ true → (r : Op) × IsPair t r w × IsCoveredBy w r
