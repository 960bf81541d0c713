-- What an instruction of a trace depends on.
use Rattle.std.proofs.Common.{ℕ, ◌<◌, ◌≡◌, Bool, true, false, List, Option, Some, None, refl, sym, ap, ◌∙◌, arith}
use Rattle.std.proofs.lemmas.Bool.{false≢true}
use Rattle.rv_decode.specs.declared.instruction.Insn.{Insn}
use Rattle.rv_decode.specs.declared.instruction.Insn.TheVariants.{Store}
use Rattle.rv_decode.specs.declared.registers.Register.{Register}
use Rattle.rv_decode.specs.Kinds.{is_store}
use Rattle.rv_decode.specs.Registers.{sets}
use Rattle.rvwmo_model.specs.declared.instructions.Retired.{Retired}
use Rattle.rvwmo_model.specs.Dependencies.{Flow, Dep, direct, along}
use Rattle.rvwmo_model.specs.Flows.{flow_of, flows, DependsBy}
use Rattle.rvwmo_model.specs.ProgramOrder.{insn_at, is_one}
use Rattle.rvwmo_model.proofs.Reaching.{reach_from_dep}
use Rattle.dep_tracker.proofs.Depending.{below}

-- it sets a register
dep_sets : (code : ℕ → Flow) (j : ℕ) (r : Register) (i : ℕ) (s : Register) → Dep code j r i s
    → (code i).sets s ≡ true
dep_sets code _ _ _ _ (direct j i s l e none) = e
dep_sets code _ _ _ _ (along j r k p q i s l d c e) = dep_sets code k p i s d

-- so it is no plain store
no_store : (i : Insn) (stored : Bool) (s : Register) → sets i stored s ≡ true → is_store i ≡ false
no_store (Store op rs1 rs2 imm) stored s e = absurd (false≢true e)
no_store _ stored s e = refl

pub source_no_store : (test : Insn → Register → Bool) (insns : List Retired) (h j i : ℕ) → DependsBy test insns h j i
    → is_one is_store (insn_at insns h i) ≡ false
source_no_store test insns h j i d = at (insn_at insns h i) refl
  where
    at : (o : Option Retired) → insn_at insns h i ≡ o → is_one is_store o ≡ false
    at None e = refl
    at (Some w) e =
        no_store w.insn w.stored d.2.0
        (sym (ap (λ (o : Option Retired). (flow_of o).sets d.2.0) e)
        ∙ dep_sets (flows insns h) j d.0 i d.2.0 d.2.1)

-- and it is older
pub source_older : (test : Insn → Register → Bool) (insns : List Retired) (h j i : ℕ) → DependsBy test insns h j i
    → i < j
source_older test insns h j i d =
    below (flows insns h) j d.0 i d.2.0 (reach_from_dep (flows insns h) j d.0 i d.2.0 d.2.1)
