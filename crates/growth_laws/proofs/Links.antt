-- What one elementary step of growth does to stores and operations; chains of such steps.
use Rattle.std.proofs.Common.{ℕ, ◌<◌, ◌≡◌, ◌⊎◌, true}
use Rattle.std.specs.List.{Contains}
use Rattle.rvwmo_model.specs.declared.operations.Op.{Op}
use Rattle.rvwmo_model.specs.declared.traces.Trace.{Trace}
use Rattle.rvwmo_model.specs.Order.{has_byte}
use Rattle.rvwmo_model.specs.ProgramOrder.{insn_at}
use Rattle.rvwmo_model.specs.InForm.{IsPlaced}
use Rattle.growth_laws.specs.Kinds.{WellKinded}
use Rattle.growth_laws.specs.Writers.{Becomes, WritersGo}

-- n is of the kind of o, with its annotations
pub record IsLike (n o : Op) : Type 0 where
  pub kind : n.kind ≡ o.kind
  pub acquire : n.acquire ≡ o.acquire
  pub release : n.release ≡ o.release

-- performed operations stay, each byte of another is found in what it becomes, and the instructions up to an
-- operation stay
pub record OpsGo (t t' : Trace) : Type 0 where
  pub stays : (v : Op) → Contains t.ops v → IsPlaced v → Contains t'.ops v
  pub lift : (v : Op) (x : ℕ) → Contains t.ops v → has_byte x v ≡ true → (n : Op) × Contains t'.ops n
      × (has_byte x n ≡ true) × Becomes t v n × IsLike n v
  pub insns : (v : Op) (k : ℕ) → Contains t.ops v → (k < v.name.tag) ⊎ (k ≡ v.name.tag)
      → insn_at t'.insns v.name.hart k ≡ insn_at t.insns v.name.hart k
  pub granule : t'.granule ≡ t.granule

-- one elementary step, with all that it keeps: nothing, an early store, an instruction, or one part of a message that
-- performs stores
pub record Link (t t' : Trace) : Type 0 where
  pub before : WellKinded t
  pub after : WellKinded t'
  pub writers : (x : ℕ) → WritersGo t t' x
  pub operations : OpsGo t t'

pub data Chain : Trace → Trace → Type 0 where
  none : (t : Trace) → Chain t t
  then : (t u v : Trace) → Chain t u → Link u v → Chain t v

pub chain_join : (t u v : Trace) → Chain t u → Chain u v → Chain t v
chain_join t _ _ c (none u) = c
chain_join t _ _ c (then u v w d l) = then t v w (chain_join t u v c d) l
