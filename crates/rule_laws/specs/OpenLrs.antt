-- The open LR of a hart: the one with which its next SC is paired (8.2).
use Rattle.std.specs.Prelude.{ℕ, ◌<◌, ◌≡◌, ◌≢◌, ◌⊎◌, ◌||◌, List, [], ◌∷◌, Option, None, Some, true, false}
use Rattle.rv_decode.specs.Kinds.{is_lr, is_sc}
use Rattle.rvwmo_model.specs.declared.instructions.Retired.{Retired}
use Rattle.rvwmo_model.specs.declared.operations.Op.{Op}
use Rattle.rvwmo_model.specs.declared.traces.Trace.{Trace}
use Rattle.rvwmo_model.specs.ProgramOrder.{insn_of, is_one}
use Rattle.rvwmo_model.specs.Rules.{Reserves}
use Rattle.growth_laws.specs.Kinds.{WellKinded}
use Rattle.growth_laws.specs.Growth.{Same, AddEarly, AddInsn, PerformsPart}
use Rattle.growth_laws.specs.Laws.{nothing_yet}
use Rattle.window_laws.specs.Latest.{IsLatestIfAny}
use Rattle.rule_laws.specs.Own.{IsOwn}

-- v is of an LR, and no LR or SC of hart h, failed ones included, is after it
abbrev pub LeavesOpen : Trace → ℕ → Op → Type 0
LeavesOpen t h v =
    (is_one is_lr (insn_of t v) ≡ true) × ((k : ℕ) → v.name.tag < k → Reserves t h k → ⊥)

-- v is the operation of the open LR of hart h
abbrev pub IsOpen : Trace → ℕ → Op → Type 0
IsOpen t h v = IsOwn t h v × LeavesOpen t h v

-- the open LR through each growth
pub record OpenLrGoesOn : Type 0 where
  pub start : (granule h : ℕ) → IsLatestIfAny (IsOpen (nothing_yet granule) h) None
  pub nothing : (t t' : Trace) (h : ℕ) (m : Option Op) → Same t t' → IsLatestIfAny (IsOpen t h) m
      → IsLatestIfAny (IsOpen t' h) m
  pub early : (t t' : Trace) (e : Op) (h : ℕ) (m : Option Op) → AddEarly t t' e → IsLatestIfAny (IsOpen t h) m
      → IsLatestIfAny (IsOpen t' h) m
  -- an LR: it is open
  pub lr : (t t' : Trace) (r : Retired) (o : Op) → WellKinded t → AddInsn t t' r (o ∷ []) → is_lr r.insn ≡ true
      → IsLatestIfAny (IsOpen t' r.hart) (Some o)
  -- an SC, failed or not: none is open
  pub sc : (t t' : Trace) (r : Retired) (new : List Op) → WellKinded t → AddInsn t t' r new → is_sc r.insn ≡ true
      → IsLatestIfAny (IsOpen t' r.hart) None
  -- another instruction, or one of another hart
  pub other : (t t' : Trace) (r : Retired) (new : List Op) (h : ℕ) (m : Option Op) → WellKinded t
      → AddInsn t t' r new → (r.hart ≢ h) ⊎ ((is_lr r.insn || is_sc r.insn) ≡ false)
      → IsLatestIfAny (IsOpen t h) m → IsLatestIfAny (IsOpen t' h) m
  pub performed : (t t' : Trace) (o n : Op) (rest : Option Op) (h : ℕ) (m : Option Op) → WellKinded t
      → PerformsPart t t' o n rest → IsLatestIfAny (IsOpen t h) m → IsLatestIfAny (IsOpen t' h) m
