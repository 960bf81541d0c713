-- The same list of instructions, as a list of retired instructions has it by hart and tag.
use Rattle.std.specs.Prelude.{ℕ, suc, ◌≡◌, ◌<◌, ◌↔◌, List, [], ◌∷◌, Option, None, Some, is_some, Bool, true}
use Rattle.rv_decode.specs.declared.instruction.Insn.{Insn}
use Rattle.rv_decode.specs.declared.registers.Register.{Register}
use Rattle.rv_decode.specs.Kinds.{is_sc}
use Rattle.rvwmo_model.specs.declared.instructions.Retired.{Retired}
use Rattle.rvwmo_model.specs.ProgramOrder.{insn_at}
use Rattle.rvwmo_model.specs.Flows.{DependsBy}
use Rattle.tandem_base.specs.declared.mark.Mark.{Mark}
use Rattle.dep_tracker.specs.Marks.{Started, UsedBy, UsedIn}

-- an SC stored exactly where it has a latest operation
abbrev pub HasStart : Retired → Option Mark → Type 0
HasStart w start = is_sc w.insn ≡ true → w.stored ≡ is_some start

-- the list has the instructions of hart h under the tags below a tag, the newest first, each with its latest operation
pub data Lists (insns : List Retired) (h : ℕ) (starts : ℕ → Option Mark) : ℕ → List Started → Type 0 where
  -- no instruction is below tag 0
  first : Lists insns h starts 0 []
  -- there is none under that tag
  gap : (k : ℕ) (ws : List Started) → insn_at insns h k ≡ None → Lists insns h starts k ws
      → Lists insns h starts (suc k) ws
  -- w is under that tag
  next : (k : ℕ) (w : Retired) (ws : List Started) → insn_at insns h k ≡ Some w → HasStart w (starts k)
      → Lists insns h starts k ws → Lists insns h starts (suc k) (record { insn = w.insn; start = starts k } ∷ ws)

-- the latest operation of the instruction under the tag i is m, and the one under the tag k depends on that instruction
abbrev pub DependsFrom : (Insn → Register → Bool) → List Retired → ℕ → (ℕ → Option Mark) → ℕ → Mark → Type 0
DependsFrom test insns h starts k m = (i : ℕ) × DependsBy test insns h k i × (starts i ≡ Some m)

-- the instruction under a tag depends, by the list, on what it depends on by tags
abbrev pub UsesAgree : Type 0
UsesAgree = (test : Insn → Register → Bool) (insns : List Retired) (h : ℕ) (starts : ℕ → Option Mark) (k : ℕ)
    (w : Retired) (ws : List Started) (m : Mark) → Lists insns h starts k ws → insn_at insns h k ≡ Some w
    → UsedBy test w.insn ws m ↔ DependsFrom test insns h starts k m

-- some instruction of the list depends on what one under a tag below depends on
abbrev pub PastUsesAgree : Type 0
PastUsesAgree = (test : Insn → Register → Bool) (insns : List Retired) (h : ℕ) (starts : ℕ → Option Mark) (k : ℕ)
    (ws : List Started) (m : Mark) → Lists insns h starts k ws
    → UsedIn test ws m ↔ ((n : ℕ) × (n < k) × DependsFrom test insns h starts n m)

-- a list stays the same where instructions are added under other tags
abbrev pub ListsStay : Type 0
ListsStay = (insns after : List Retired) (h : ℕ) (starts later_starts : ℕ → Option Mark) (k : ℕ) (ws : List Started)
    → ((n : ℕ) → n < k → insn_at after h n ≡ insn_at insns h n)
    → ((n : ℕ) → n < k → later_starts n ≡ starts n)
    → Lists insns h starts k ws → Lists after h later_starts k ws
