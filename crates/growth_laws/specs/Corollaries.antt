-- What follows from the laws for growths that perform no store, and for the second operation of what is reported.
use Rattle.std.specs.Prelude.{ℕ, ◌≡◌, ◌⊎◌, ◌↔◌, List, true}
use Rattle.std.specs.List.{Contains}
use Rattle.rvwmo_model.specs.declared.instructions.Retired.{Retired}
use Rattle.rvwmo_model.specs.declared.operations.Op.{Op}
use Rattle.rvwmo_model.specs.declared.preserved.Rule.{Rule}
use Rattle.rvwmo_model.specs.declared.preserved.Rule.TheVariants.{R1, R4, R6}
use Rattle.rvwmo_model.specs.declared.traces.Trace.{Trace}
use Rattle.rvwmo_model.specs.Order.{reads}
use Rattle.rvwmo_model.specs.Rules.{Broken}
use Rattle.rvwmo_model.specs.Atomicity.{Torn}
use Rattle.rvwmo_model.specs.InForm.{IsOf}
use Rattle.rvwmo_model.specs.Legal.{WrongValue, Legal}
use Rattle.growth_laws.specs.Kinds.{WellKinded}
use Rattle.growth_laws.specs.Growth.{Same, AddEarly, AddsStore, AddsNothing, AddInsn, Growth, grow_same}
use Rattle.growth_laws.specs.Growth.{grow_early, grow_insn, grow_stores, IsGrowing}
use Rattle.growth_laws.specs.Laws.{SourceStays, IsLeastRule, BrokenByStores}

-- a growth that performs no store of an instruction that retired
abbrev pub PerformsNothing : Trace → Trace → Type 0
PerformsNothing t t' = Same t t' ⊎ ((e : Op) × AddEarly t t' e) ⊎ ((r : Retired) × (new : List Op) × AddInsn t t' r new)

-- it moves no source of a load that was there, whatever is broken
abbrev pub SourcesRest : Type 0
SourcesRest = (t t' : Trace) (i : Op) (x : ℕ) → WellKinded t → PerformsNothing t t' → Contains t.ops i
    → reads x i ≡ true → SourceStays t t' i x

-- a plain store that retires, and an instruction without operations, break nothing
pub record RetiresQuietly (initial : ℕ → ℕ) (t t' : Trace) (r : Retired) (new : List Op) : Type 0 where
  pub store : (o : Op) → AddsStore t t' r new o → Legal initial t'
  pub nothing : AddsNothing t t' r new → Legal initial t'

-- they do so from each legal trace
abbrev pub QuietInsns : Type 0
QuietInsns = (initial : ℕ → ℕ) (t t' : Trace) (r : Retired) (new : List Op) → WellKinded t → Legal initial t
    → AddInsn t t' r new → RetiresQuietly initial t t' r new

-- the second operation of each broken pair of the least rule is of the growing hart
abbrev pub SecondOfHart : Type 0
SecondOfHart = (initial : ℕ → ℕ) (t t' : Trace) (h : ℕ) (g : Growth t t') → WellKinded t → Legal initial t
    → IsGrowing g h
    → (k : Rule) (a b : Op) → IsLeastRule t' k → Broken k t' a b → b.name.hart ≡ h

-- nothing of the instruction r is wrong: no pair is broken with its operation second, no byte that it loaded, and its
-- pair is atomic
pub record IsRight (initial : ℕ → ℕ) (t : Trace) (r : Retired) : Type 0 where
  pub ordered : (k : Rule) (a b : Op) → IsOf r b → Broken k t a b → ⊥
  pub valued : (i : Op) (x : ℕ) → IsOf r i → WrongValue initial t i x → ⊥
  pub atomic : (l w : Op) → IsOf r w → Torn t l w → ⊥

-- no pair of same address, fence or release is broken whose second operation the message performed, and whose first is
-- of a plain store and not performed, or performed by the message later
abbrev pub AreInOrder : Trace → List Op → Type 0
AreInOrder t parts = (k : Rule) (a b : Op) → (k ≡ R1) ⊎ (k ≡ R4) ⊎ (k ≡ R6) → BrokenByStores t parts a b
    → Broken k t a b → ⊥

-- what a growth adds is right
abbrev pub GrowsRight : (ℕ → ℕ) → (t t' : Trace) → Growth t t' → Type 0
GrowsRight initial t t' (grow_same s) = Unit {0}
GrowsRight initial t t' (grow_early e s) = Unit {0}
GrowsRight initial t t' (grow_insn r new s) = IsRight initial t' r
GrowsRight initial t t' (grow_stores h parts s) = AreInOrder t' parts

-- from a legal trace a growth gives a legal one exactly where what it adds is right
abbrev pub LegalWhereRight : Type 0
LegalWhereRight = (initial : ℕ → ℕ) (t t' : Trace) (g : Growth t t') → WellKinded t → Legal initial t
    → GrowsRight initial t t' g ↔ Legal initial t'
