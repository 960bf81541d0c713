-- What is answered where an instruction retires.
use Rattle.std.specs.Prelude.{ℕ, ◌≡◌, ◌<◌, List, Option, None, Some, true, false}
use Rattle.std.specs.List.{Contains, AllPairs}
use Rattle.tandem_base.specs.declared.names.OpName.{OpName}
use Rattle.tandem_base.specs.declared.names.Place.{Place}
use Rattle.tandem_base.specs.Places.{earlier}
use Rattle.tandem_base.specs.Extents.{Covers}
use Rattle.rvwmo_model.specs.declared.instructions.Retired.{Retired}
use Rattle.rvwmo_model.specs.declared.operations.Op.{Op}
use Rattle.rvwmo_model.specs.declared.preserved.Rule.{Rule}
use Rattle.rvwmo_model.specs.declared.traces.Trace.{Trace}
use Rattle.rvwmo_model.specs.Order.{op_stores, has_byte, named_before}
use Rattle.rvwmo_model.specs.Rules.{Broken}
use Rattle.rvwmo_model.specs.Report.{number, IsLatest, IsLeast, IsSecond}
use Rattle.rvwmo_model.specs.InForm.{IsPlaced}
use Rattle.rvwmo_model.specs.Legal.{Legal}
use Rattle.growth_laws.specs.Kinds.{WellKinded}
use Rattle.growth_laws.specs.Growth.{AddInsn}
use Rattle.window_laws.specs.Keeping.{IsKeptAs}
use Rattle.window_laws.specs.Tables.{ArePositioned}
use Rattle.rule_laws.specs.Named.{NamesFirst}
use Rattle.overlap_rules.specs.Questions.{AreStoresOf, AreKeptOf, AreSourcesOf}
use Rattle.dependency_rules.specs.Asked.{AreDepsOf}
use Rattle.synchronization_rules.specs.Asked.{AreMarksOf}
use Rattle.drain_rules.specs.declared.drain.BrokenPair.{BrokenPair}
use Rattle.drain_rules.specs.Told.{NamesPair}
use Rattle.ppo_rules.specs.declared.retiring.FreshOp.{FreshOp}
use Rattle.ppo_rules.specs.declared.retiring.Retiring.{Retiring}

-- the tables are those of the hart of the instruction r before it, with what matters after the oldest place
pub record AreTablesOf (t : Trace) (r : Retired) (oldest : Place) (q : Retiring) : Type 0 where
  pub insn : r.insn ≡ q.insn.now
  pub marks : AreMarksOf t r.hart q.marks.now
  pub deps : AreDepsOf t r.hart r.tag q.deps.now
  pub stores : AreStoresOf t r.hart oldest q.stores.now
  pub kept : AreKeptOf t r.hart oldest q.kept.now

-- the instruction r retires from a legal trace with the operations new, and the tables stand for the trace before
pub record IsRetirement (initial : ℕ → ℕ) (t t' : Trace) (r : Retired) (new : List Op) (q : Retiring) : Type 0 where
  pub kinded : WellKinded t
  pub legal : Legal initial t
  pub retires : AddInsn t t' r new
  pub positioned : ArePositioned t'
  pub oldest : Place
  pub tables : AreTablesOf t r oldest q
  -- no new operation was performed before the oldest place that still matters
  pub since : (b : Op) (place : Place) → Contains new b → b.place ≡ Some place → earlier place oldest ≡ false
  -- one that stores has all bytes of its extent
  pub whole : (b : Op) (x : ℕ) → Contains new b → op_stores b ≡ true → Covers b.extent x → has_byte x b ≡ true
  -- all have the annotations of the instruction
  pub acquire : (b : Op) → Contains new b → b.acquire ≡ q.acquire
  pub release : (b : Op) → Contains new b → b.release ≡ q.release

-- the performed operation b is told with the source of each byte that it loads
pub record IsFreshAs (initial : ℕ → ℕ) (t' : Trace) (b : Op) (fresh : FreshOp) : Type 0 where
  pub placed : IsPlaced b
  pub kept : IsKeptAs t' b fresh.op
  pub sources : AreSourcesOf initial t' b fresh.sources

-- those of the new operations that were performed are told, and no other, in rising order of their parts
pub record AreFresh (initial : ℕ → ℕ) (t' : Trace) (new : List Op) (ops : List FreshOp) : Type 0 where
  pub each : (f : FreshOp) → Contains ops f → (b : Op) × Contains new b × IsFreshAs initial t' b f
  pub all : (b : Op) → Contains new b → IsPlaced b → (f : FreshOp) × Contains ops f × IsFreshAs initial t' b f
  pub rising : AllPairs (λ f g. f.op.name.part < g.op.name.part) ops

-- ---- the answers

-- whatever trace the tables stand for, the answer names the first operation of a broken pair of the rule of that
-- number with this operation second
abbrev pub TellsFirst : ℕ → Retiring → FreshOp → Option OpName → Type 0
TellsFirst rule q f answer = (initial : ℕ → ℕ) (t t' : Trace) (r : Retired) (new : List Op) (b : Op) (k : Rule)
    → IsRetirement initial t t' r new q → Contains new b → IsFreshAs initial t' b f → number k ≡ rule
    → NamesFirst k t' b answer

-- by rule k the answer is the pair of the second operation of the least name, with the latest first operation; there
-- is none where no pair of that rule is broken
abbrev pub IsAnswerBy : Rule → Trace → Option BrokenPair → Type 0
IsAnswerBy k t None = (a b : Op) → Broken k t a b → ⊥
IsAnswerBy k t (Some pair) = (a : Op) × (b : Op) × IsLeast (IsSecond k t) b × IsLatest (λ c. Broken k t c b) a
    × (pair.rule ≡ number k) × (pair.first ≡ a.name) × (pair.second ≡ b.name)

-- the same whatever trace the tables stand for, and by the rule of that number
abbrev pub TellsByRule : ℕ → Retiring → List FreshOp → Option BrokenPair → Type 0
TellsByRule rule q ops answer = (initial : ℕ → ℕ) (t t' : Trace) (r : Retired) (new : List Op) (k : Rule)
    → IsRetirement initial t t' r new q → AreFresh initial t' new ops → number k ≡ rule → IsAnswerBy k t' answer

-- whatever trace the tables stand for, the answer names the pair that is reported once the instruction has retired
abbrev pub TellsRetired : Retiring → List FreshOp → Option BrokenPair → Type 0
TellsRetired q ops answer = (initial : ℕ → ℕ) (t t' : Trace) (r : Retired) (new : List Op)
    → IsRetirement initial t t' r new q → AreFresh initial t' new ops → NamesPair t' answer
