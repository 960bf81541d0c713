-- Laws of what is reported where a message performs stores: a Write, or a Bypass of a plain store.
use Rattle.std.specs.Prelude.{ℕ, ◌<◌, ◌≡◌, ◌⊎◌, ◌↔◌, List, ◌∷◌, ◌++◌, Bool, Option, None, Some, true, false}
use Rattle.std.specs.List.{Contains}
use Rattle.rvwmo_model.specs.declared.operations.Op.{Op}
use Rattle.rvwmo_model.specs.declared.operations.OpKind.TheVariants as kind
use Rattle.rvwmo_model.specs.declared.preserved.Rule.{Rule}
use Rattle.rvwmo_model.specs.declared.preserved.Rule.TheVariants.{R1, R4, R6}
use Rattle.rvwmo_model.specs.declared.traces.Trace.{Trace}
use Rattle.rvwmo_model.specs.Order.{named_before}
use Rattle.rvwmo_model.specs.ProgramOrder.{insn_at, is_one}
use Rattle.rvwmo_model.specs.Rules.{SomeBetween, Fenced, Orders, Broken}
use Rattle.rvwmo_model.specs.Report.{number, IsReportedPair}
use Rattle.rvwmo_model.specs.Legal.{Legal}
use Rattle.growth_laws.specs.Kinds.{WellKinded}
use Rattle.growth_laws.specs.Growth.{Performs}
use Rattle.window_laws.specs.Latest.{IsLatestIfAny, first_there}
use Rattle.rule_laws.specs.Fences.{storing, class_orders}
use Rattle.rule_laws.specs.Drained.{AreFalling, first_passing}

-- a rule of same address, fence or release: the only ones that performing a store can break
abbrev pub IsStoreRule : Rule → Type 0
IsStoreRule k = (k ≡ R1) ⊎ (k ≡ R4) ⊎ (k ≡ R6)

-- v is a store of hart h before b in program order that waits, and rule k puts it before b
abbrev pub WaitsBefore : Rule → Trace → ℕ → Op → Op → Type 0
WaitsBefore k t h b v =
    (Contains t.ops v × (v.name.hart ≡ h) × (v.name.tag < b.name.tag) × Orders k t v b) × (v.place ≡ None)

-- v is one of these parts, before b in program order, and rule k puts it before b
abbrev pub IsPartBefore : Rule → Trace → List Op → Op → Op → Type 0
IsPartBefore k t parts b v = Contains parts v × ((v.name.tag < b.name.tag) × Orders k t v b)

-- first is what each of the three rules answers for each part
abbrev pub AreStoreFirsts : Trace → List Op → (Rule → Op → Option Op) → Type 0
AreStoreFirsts t' parts first =
    (k : Rule) (b : Op) → IsStoreRule k → Contains parts b → IsLatestIfAny (λ v. Broken k t' v b) (first k b)

-- rule k is the least of the three by which any part has an answer, and b the least in name of those that have one by
-- it
pub record IsLeastStoreAnswer (parts : List Op) (first : Rule → Op → Option Op) (k : Rule) (a b : Op) : Type 0 where
  pub rule : IsStoreRule k
  pub second : Contains parts b
  pub answer : first k b ≡ Some a
  pub lesser : (j : Rule) (d : Op) → number j < number k → IsStoreRule j → Contains parts d → first j d ≡ None
  pub least : (d : Op) → Contains parts d → (first k d ≡ None) ⊎ (named_before d.name b.name ≡ false)

-- where a message performs stores from a legal trace
pub record WriteReports : Type 0 where
  -- the first operation that is reported with a part b is a waiting store, else the latest of the parts that the
  -- message performed after b
  pub first : (initial : ℕ → ℕ) (t t' : Trace) (h : ℕ) (parts : List Op) (k : Rule) (b : Op) (after before : List Op)
      (waiting last : Option Op) → WellKinded t → Legal initial t → Performs h t parts t'
      → parts ≡ after ++ b ∷ before → IsLatestIfAny (WaitsBefore k t' h b) waiting
      → IsLatestIfAny (IsPartBefore k t' after b) last
      → IsLatestIfAny (λ v. Broken k t' v b) (first_there waiting last)
  -- the parts stand in the list from the last to the first, so the first of it that passes is the latest
  pub falling : (h : ℕ) (t t' : Trace) (parts : List Op) → Performs h t parts t' → AreFalling parts
  pub passing : (test : Op → Bool) (parts : List Op) → AreFalling parts
      → IsLatestIfAny (λ v. Contains parts v × (test v ≡ true)) (first_passing test parts)
  -- rule 4 between stores is a FENCE between them that orders stores before stores
  pub fenced : (t : Trace) (a b : Op) → a.kind ≡ kind.Store → b.kind ≡ kind.Store
      → Fenced t a b
      ↔ SomeBetween (λ n. is_one (class_orders storing storing) (insn_at t.insns a.name.hart n) ≡ true) a b
  -- the pair that is reported is the least answer
  pub reported : (initial : ℕ → ℕ) (t t' : Trace) (h : ℕ) (parts : List Op) (first : Rule → Op → Option Op)
      (k : Rule) (a b : Op) → WellKinded t → Legal initial t → Performs h t parts t' → AreStoreFirsts t' parts first
      → IsLeastStoreAnswer parts first k a b → IsReportedPair t' k a b
  -- and no pair is broken where there is no answer
  pub unbroken : (initial : ℕ → ℕ) (t t' : Trace) (h : ℕ) (parts : List Op) (first : Rule → Op → Option Op)
      → WellKinded t → Legal initial t → Performs h t parts t' → AreStoreFirsts t' parts first
      → ((k : Rule) (b : Op) → IsStoreRule k → Contains parts b → first k b ≡ None)
      → (k : Rule) (a b : Op) → Broken k t' a b → ⊥
