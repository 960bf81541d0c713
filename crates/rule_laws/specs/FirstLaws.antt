-- Laws of the first operations of broken pairs, where an instruction retires.
use Rattle.std.specs.Prelude.{ℕ, ◌<◌, ◌≡◌, ◌⊎◌, ◌↔◌, List, Option, None, Some, false}
use Rattle.std.specs.List.{Contains}
use Rattle.rvwmo_model.specs.declared.instructions.Retired.{Retired}
use Rattle.rvwmo_model.specs.declared.operations.Op.{Op}
use Rattle.rvwmo_model.specs.declared.traces.Trace.{Trace}
use Rattle.rvwmo_model.specs.Order.{standing, named_before}
use Rattle.rvwmo_model.specs.declared.preserved.Rule.{Rule}
use Rattle.rvwmo_model.specs.declared.preserved.Rule.TheVariants.{R1, R4, R6}
use Rattle.rvwmo_model.specs.Rules.{Broken}
use Rattle.rvwmo_model.specs.Report.{number, IsReportedPair}
use Rattle.rvwmo_model.specs.InForm.{IsPlaced}
use Rattle.rvwmo_model.specs.Legal.{Legal}
use Rattle.growth_laws.specs.Kinds.{WellKinded}
use Rattle.growth_laws.specs.Growth.{AddInsn}
use Rattle.window_laws.specs.Latest.{IsLatestIfAny}
use Rattle.rule_laws.specs.Above.{Over}
use Rattle.rule_laws.specs.Own.{IsOwnPerformed}
use Rattle.rule_laws.specs.Firsts.{IsFirstBy, IsFirstOver}

-- the instruction r retires, and b is an operation of it that was performed
pub record IsRetiredWith (t t' : Trace) (r : Retired) (b : Op) : Type 0 where
  pub new : List Op
  pub retires : AddInsn t t' r new
  pub here : Contains new b
  pub performed : IsPlaced b

-- a pair of a rule is broken with v first and b second exactly where v is what the rule asks, and stands after b
abbrev pub FirstsAreTold : Type 0
FirstsAreTold = (k : Rule) (t t' : Trace) (r : Retired) (b v : Op) → WellKinded t → IsRetiredWith t t' r b
    → Broken k t' v b ↔ IsFirstOver k t t' b v

-- so the latest that is what the rule asks and stands after b, is the first operation that is reported with b; none is
-- where none is broken
abbrev pub FirstIsLatest : Type 0
FirstIsLatest = (k : Rule) (t t' : Trace) (r : Retired) (b : Op) (m : Option Op) → WellKinded t
    → IsRetiredWith t t' r b → IsLatestIfAny (IsFirstOver k t t' b) m → IsLatestIfAny (λ v. Broken k t' v b) m

-- for each rule but 1, 4 and 6 it is enough to look at what was performed: no store that waits is first by it
abbrev pub FirstIsPerformed : Type 0
FirstIsPerformed = (k : Rule) (t t' : Trace) (r : Retired) (b : Op) (m : Option Op) → WellKinded t
    → IsRetiredWith t t' r b → ((k ≡ R1) ⊎ (k ≡ R4) ⊎ (k ≡ R6) → ⊥)
    → IsLatestIfAny (Over (λ v. IsOwnPerformed t b.name.hart v × IsFirstBy k t t' b v) (standing b)) m
    → IsLatestIfAny (λ v. Broken k t' v b) m

-- first is what each rule answers for each new operation: the latest first operation of a broken pair with it, if any
abbrev pub AreFirsts : Trace → List Op → (Rule → Op → Option Op) → Type 0
AreFirsts t' seconds first =
    (k : Rule) (b : Op) → Contains seconds b → IsLatestIfAny (λ v. Broken k t' v b) (first k b)

-- rule k is the least by which any new operation has an answer, and b the least in name of those that have one by it
pub record IsLeastAnswer (seconds : List Op) (first : Rule → Op → Option Op) (k : Rule) (a b : Op) : Type 0 where
  pub second : Contains seconds b
  pub answer : first k b ≡ Some a
  pub lesser : (j : Rule) (d : Op) → number j < number k → Contains seconds d → first j d ≡ None
  pub least : (d : Op) → Contains seconds d → (first k d ≡ None) ⊎ (named_before d.name b.name ≡ false)

-- where an instruction retires from a legal trace, the pair that is reported is the least answer, and no pair is broken
-- where there is no answer
pub record RetireReports : Type 0 where
  pub reported : (initial : ℕ → ℕ) (t t' : Trace) (r : Retired) (new : List Op) (first : Rule → Op → Option Op)
      (k : Rule) (a b : Op) → WellKinded t → Legal initial t → AddInsn t t' r new → AreFirsts t' new first
      → IsLeastAnswer new first k a b → IsReportedPair t' k a b
  pub unbroken : (initial : ℕ → ℕ) (t t' : Trace) (r : Retired) (new : List Op) (first : Rule → Op → Option Op)
      → WellKinded t → Legal initial t → AddInsn t t' r new → AreFirsts t' new first
      → ((k : Rule) (b : Op) → Contains new b → first k b ≡ None)
      → (k : Rule) (a b : Op) → Broken k t' a b → ⊥
