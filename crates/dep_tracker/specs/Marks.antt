-- The latest of the operations on which an instruction depends (14.1).
use Rattle.std.specs.Prelude.{ℕ, ◌≡◌, ◌==◌, Bool, true, false, List, [], ◌∷◌, ◌++◌, length, Option, None, Some}
use Rattle.std.specs.Prelude.{is_some, if◌then◌else◌}
use Rattle.rv_decode.specs.declared.instruction.Insn.{Insn}
use Rattle.rv_decode.specs.declared.registers.Register.{Register}
use Rattle.rv_decode.specs.Registers.{sets, carries}
use Rattle.rvwmo_model.specs.Dependencies.{Flow, Dep}
use Rattle.tandem_base.specs.Places.{comes_before}
use Rattle.tandem_base.specs.declared.mark.Mark.{Mark}

-- an instruction of a hart that retired, with the latest in the global order of its operations on which others may
-- depend: those of a load, LR, AMO or SC that stored
pub record Started : Type 0 where
  pub insn : Insn
  pub start : Option Mark

-- the instruction with that number; the newest stands first in the list, and the oldest has the number 0
abbrev pub numbered : List Started → ℕ → Option Started
numbered [] k = None
numbered (w ∷ ws) k = if k == length ws then Some w else numbered ws k

-- what an instruction does with registers; an SC stored where it has an operation
abbrev pub started_flow : Option Started → Flow
started_flow None = record { sets = λ q. false; carries = λ p q. false }
started_flow (Some w) = record { sets = sets w.insn (is_some w.start); carries = carries w.insn }

-- what the instruction with each number does with registers
abbrev pub flow_by_number : List Started → ℕ → Flow
flow_by_number ws k = started_flow (numbered ws k)

-- the latest operation of an instruction
abbrev pub start_of : Option Started → Option Mark
start_of None = None
start_of (Some w) = w.start

-- the instruction that follows these depends by register r on an instruction whose latest operation is m
abbrev pub DependsOn : List Started → Register → Mark → Type 0
DependsOn ws r m =
    (i : ℕ) × (s : Register) × Dep (flow_by_number ws) (length ws) r i s × (start_of (numbered ws i) ≡ Some m)

-- insn follows these, and carries to register r what depends on an instruction whose latest operation is m
abbrev pub CarriedTo : Insn → List Started → Register → Mark → Type 0
CarriedTo insn ws r m = (q : Register) × (carries insn q r ≡ true) × DependsOn ws q m

-- insn follows these, and depends by a register in that use on an instruction whose latest operation is m
abbrev pub UsedBy : (Insn → Register → Bool) → Insn → List Started → Mark → Type 0
UsedBy test insn ws m = (r : Register) × (test insn r ≡ true) × DependsOn ws r m

-- some instruction of the list depends, by a register in that use, on one whose latest operation is m
abbrev pub UsedIn : (Insn → Register → Bool) → List Started → Mark → Type 0
UsedIn test ws m = (younger : List Started) × (w : Started) × (older : List Started)
    × (ws ≡ younger ++ w ∷ older) × UsedBy test w.insn older m

-- the mark is one of those meant, and none of them is later in the global order; there is no mark exactly where none
-- is meant
abbrev pub IsLatestMark : (Mark → Type 0) → Option Mark → Type 0
IsLatestMark Meant None = (m : Mark) → Meant m → ⊥
IsLatestMark Meant (Some m) = Meant m × ((n : Mark) → Meant n → comes_before m.place n.place ≡ false)
