-- Laws that show that the definitions mean what they should.
use Rattle.std.specs.Prelude.{ℕ, ◌≡◌, ◌⊎◌, ◌↔◌, List, true, false, MatchOption}
use Rattle.std.specs.List.{Contains}
use Rattle.rv_decode.specs.declared.instruction.Insn.TheVariants.{Fence}
use Rattle.rv_decode.specs.declared.registers.Register.{Register}
use Rattle.rvwmo_model.specs.declared.operations.Op.{Op}
use Rattle.rvwmo_model.specs.declared.operations.OpKind.{OpKind}
use Rattle.rvwmo_model.specs.declared.operations.OpKind.TheVariants.{Load, Store, Both}
use Rattle.rvwmo_model.specs.declared.traces.Trace.{Trace}
use Rattle.rvwmo_model.specs.Order.{everything, kind_loads, kind_stores, precedes}
use Rattle.rvwmo_model.specs.Sources.{source, IsWriter}
use Rattle.rvwmo_model.specs.Dependencies.{Flow, Dep, Reach}
use Rattle.rvwmo_model.specs.Rules.{Rule, Orders, Broken}
use Rattle.rvwmo_model.specs.InsnKinds.{in_set, fence_orders}
use Rattle.rvwmo_model.specs.InForm.{InForm}
use Rattle.rvwmo_model.specs.declared.answers.Judged.{Judged}
use Rattle.rvwmo_model.specs.declared.answers.Last.{Last}
use Rattle.rvwmo_model.specs.Last.{IsLast}
use Rattle.rvwmo_model.specs.LastAnswer.{newest_answer}
use Rattle.std.specs.declared.option.Option.{Option}
use Rattle.rvwmo_model.specs.Report.{IsReportedPair, IsAnswer}

-- a strict total order on the members of a list
pub record IsTotalOn (os : List Op) : Type 0 where
  pub irreflexive : (a : Op) → precedes a a ≡ false
  pub transitive : (a b c : Op) → precedes a b ≡ true → precedes b c ≡ true → precedes a c ≡ true
  pub total : (a b : Op) → Contains os a → Contains os b → (a ≡ b) ⊎ (precedes a b ≡ true) ⊎ (precedes b a ≡ true)

-- the global order is a strict total order on all operations of a trace in form
abbrev pub GlobalOrder : Type 0
GlobalOrder = (t : Trace) → InForm t → IsTotalOn (everything t)

-- a source is one of the stores that may be read, and none of these comes after it; where there is no source none may
-- be read
abbrev pub SourceIsLatest : Type 0
SourceIsLatest = (t : Trace) (i : Op) (x : ℕ)
    → MatchOption (source t i x) ((w : Op) → IsWriter t i x w → ⊥)
    (λ s. IsWriter t i x s × ((w : Op) → IsWriter t i x w → precedes s w ≡ false))

-- dependencies are what going back by the latest writers of registers finds
abbrev pub DependencyIsWalk : Type 0
DependencyIsWalk =
    (code : ℕ → Flow) (j : ℕ) (r : Register) (i : ℕ) (s : Register) → Dep code j r i s ↔ Reach code j r i s

-- FENCE.TSO orders exactly loads before everything, and stores before stores
abbrev pub FenceTso : Type 0
FenceTso = (rd rs1 : ℕ) (a b : OpKind)
    → (fence_orders (Fence 8 3 3 rd rs1) a b ≡ true)
    ↔ ((kind_loads a ≡ true) ⊎ ((kind_stores a ≡ true) × (kind_stores b ≡ true)))

-- every other FENCE orders by its two sets
abbrev pub FenceBySets : Type 0
FenceBySets = (fm before after rd rs1 : ℕ) (a b : OpKind) → (fm ≡ 8 → before ≡ 3 → after ≡ 3 → ⊥)
    → (fence_orders (Fence fm before after rd rs1) a b ≡ true)
    ↔ ((in_set before a ≡ true) × (in_set after b ≡ true))

-- o, were it of that kind
abbrev pub as_kind : OpKind → Op → Op
as_kind kind o = record o { kind = kind }

-- in every rule an AMO stands as the load and as the store that it is
pub record IsLoadAndStore (k : Rule) (t : Trace) (a b : Op) : Type 0 where
  pub first : a.kind ≡ Both → Orders k t a b ↔ (Orders k t (as_kind Load a) b ⊎ Orders k t (as_kind Store a) b)
  pub second : b.kind ≡ Both → Orders k t a b ↔ (Orders k t a (as_kind Load b) ⊎ Orders k t a (as_kind Store b))

-- it does so in each rule
abbrev pub AmoIsLoadAndStore : Type 0
AmoIsLoadAndStore = (k : Rule) (t : Trace) (a b : Op) → IsLoadAndStore k t a b

-- at most one pair is reported
abbrev pub ReportIsOne : Type 0
ReportIsOne =
    (t : Trace) → InForm t → (j k : Rule) (a b c d : Op) → IsReportedPair t j a b → IsReportedPair t k c d
    → (j ≡ k) × (a ≡ c) × (b ≡ d)

-- a pair is reported exactly where one is broken
abbrev pub ReportIsWhereBroken : Type 0
ReportIsWhereBroken = (t : Trace) → InForm t
    → ((k : Rule) × (a : Op) × (b : Op) × IsReportedPair t k a b)
    ↔ ((k : Rule) × (a : Op) × (b : Op) × Broken k t a b)

-- a trace has at most one answer
abbrev pub AnswerIsOne : Type 0
AnswerIsOne =
    (initial : ℕ → ℕ) (t : Trace) → InForm t → (p q : Judged) → IsAnswer initial t p → IsAnswer initial t q → p ≡ q

-- the same instructions, and the same operations and early stores, in whatever order
pub record IsReordered (t t' : Trace) : Type 0 where
  pub insns : t'.insns ≡ t.insns
  pub ops : (o : Op) → Contains t.ops o ↔ Contains t'.ops o
  pub early : (o : Op) → Contains t.early o ↔ Contains t'.early o
  pub granule : t'.granule ≡ t.granule

-- the order of the lists of operations and of early stores changes no answer
abbrev pub AnswerOfMembers : Type 0
AnswerOfMembers =
    (initial : ℕ → ℕ) (t t' : Trace) (j : Judged) → InForm t → InForm t' → IsReordered t t'
    → IsAnswer initial t j ↔ IsAnswer initial t' j

-- what the plain program answers at the newest step of a trace is an answer
abbrev pub LastIsComputed : Type 0
LastIsComputed = (initial : ℕ → ℕ) (t : Trace) (hart : ℕ) (tag : Option ℕ) → InForm t
    → IsLast initial t hart tag (newest_answer initial t hart tag)

-- there is at most one
abbrev pub LastIsOne : Type 0
LastIsOne =
    (initial : ℕ → ℕ) (t : Trace) (hart : ℕ) (tag : Option ℕ) → InForm t → (p q : Last) → IsLast initial t hart tag p
    → IsLast initial t hart tag q → p ≡ q

-- the order of the lists of operations and of early stores doesn't change it
abbrev pub LastOfMembers : Type 0
LastOfMembers =
    (initial : ℕ → ℕ) (t t' : Trace) (hart : ℕ) (tag : Option ℕ) (l : Last) → InForm t → InForm t' → IsReordered t t'
    → IsLast initial t hart tag l ↔ IsLast initial t' hart tag l
