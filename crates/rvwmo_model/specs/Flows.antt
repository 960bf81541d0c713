-- How the instructions of a hart depend on each other through registers (14.1).
use Rattle.std.specs.Prelude.{ℕ, ◌≡◌, List, Bool, true, false, None, Some}
use Rattle.std.specs.declared.option.Option.{Option}
use Rattle.rv_decode.specs.declared.instruction.Insn.{Insn}
use Rattle.rv_decode.specs.declared.registers.Register.{Register}
use Rattle.rv_decode.specs.Registers.{sets, carries, is_address, is_data, is_control}
use Rattle.rvwmo_model.specs.declared.instructions.Retired.{Retired}
use Rattle.rvwmo_model.specs.Dependencies.{Flow, Dep}
use Rattle.rvwmo_model.specs.ProgramOrder.{insn_at, is_one}

-- what an instruction does with registers
abbrev pub flow_of : Option Retired → Flow
flow_of None = record { sets = λ q. false; carries = λ p q. false }
flow_of (Some w) = record { sets = sets w.insn w.stored; carries = carries w.insn }

-- what the instruction of hart h under each tag does with registers
abbrev pub flows : List Retired → ℕ → ℕ → Flow
flows insns h k = flow_of (insn_at insns h k)

-- the instruction of hart h under tag j depends by register r on the one under tag i, through some destination of that
abbrev pub Depends : List Retired → ℕ → ℕ → Register → ℕ → Type 0
Depends insns h j r i = (s : Register) × Dep (flows insns h) j r i s

-- it depends on it by a register of the kind that is asked for
abbrev pub DependsBy : (Insn → Register → Bool) → List Retired → ℕ → ℕ → ℕ → Type 0
DependsBy test insns h j i =
    (r : Register) × (is_one (λ w. test w r) (insn_at insns h j) ≡ true) × Depends insns h j r i

-- syntactic address dependency (14.1)
abbrev pub AddressDep : List Retired → ℕ → ℕ → ℕ → Type 0
AddressDep insns h j i = DependsBy is_address insns h j i

-- syntactic data dependency (14.1)
abbrev pub DataDep : List Retired → ℕ → ℕ → ℕ → Type 0
DataDep insns h j i = DependsBy is_data insns h j i

-- where the branch or indirect jump under tag j goes depends on the instruction under tag i
abbrev pub BranchDep : List Retired → ℕ → ℕ → ℕ → Type 0
BranchDep insns h j i = DependsBy is_control insns h j i
