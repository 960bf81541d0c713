-- What is answered to a trace at its newest step: a hart retires an instruction, whose tag is given, or only performs
-- stores, and then there is no tag. Of the values and of the pairs of LR and SC the retiring instruction's alone are
-- asked; of preserved program order the whole trace.
use Rattle.std.specs.Prelude.{ℕ, ◌≡◌, Some}
use Rattle.std.specs.declared.option.Option.{Option}
use Rattle.tandem_base.specs.declared.names.OpName.{OpName}
use Rattle.tandem_base.specs.declared.names.Origin.{Origin}
use Rattle.rvwmo_model.specs.declared.answers.Last.{Last}
use Rattle.rvwmo_model.specs.declared.answers.Last.TheVariants as last
use Rattle.rvwmo_model.specs.declared.operations.Op.{Op}
use Rattle.rvwmo_model.specs.declared.traces.Trace.{Trace}
use Rattle.rvwmo_model.specs.Order.{got_at}
use Rattle.rvwmo_model.specs.Sources.{source, byte_from, key_of}
use Rattle.rvwmo_model.specs.Rules.{Rule}
use Rattle.rvwmo_model.specs.Atomicity.{Torn}
use Rattle.rvwmo_model.specs.Legal.{WrongValue}
use Rattle.rvwmo_model.specs.Report.{number, IsLeast, IsLowest, IsReportedPair, TornBy, AllOrdered}

-- o is an operation of the instruction that retires: of that hart, under that tag
abbrev pub IsRetiring : ℕ → Option ℕ → Op → Type 0
IsRetiring hart tag o = (o.name.hart ≡ hart) × (tag ≡ Some o.name.tag)

-- byte x of the retiring load i isn't its source's
abbrev pub RetiresWrong : (ℕ → ℕ) → Trace → ℕ → Option ℕ → ℕ → Op → Type 0
RetiresWrong initial t hart tag x i = IsRetiring hart tag i × WrongValue initial t i x

-- the retiring SC w and the LR r aren't atomic
abbrev pub RetiresTorn : Trace → ℕ → Option ℕ → Op → Op → Type 0
RetiresTorn t hart tag r w = IsRetiring hart tag w × Torn t r w

-- each byte that the retiring instruction loaded is its source's
abbrev pub RetiresRight : (ℕ → ℕ) → Trace → ℕ → Option ℕ → Type 0
RetiresRight initial t hart tag = (x : ℕ) (i : Op) → RetiresWrong initial t hart tag x i → ⊥

-- the retiring SC, where there is one, is atomic with its LR
abbrev pub RetiresAtomic : Trace → ℕ → Option ℕ → Type 0
RetiresAtomic t hart tag = (r w : Op) → RetiresTorn t hart tag r w → ⊥

-- nothing stands that is asked
pub record IsFine (initial : ℕ → ℕ) (t : Trace) (hart : ℕ) (tag : Option ℕ) : Type 0 where
  pub right : RetiresRight initial t hart tag
  pub ordered : AllOrdered t
  pub atomic : RetiresAtomic t hart tag

-- the answer Value: x is the lowest wrong byte of all loads of the retiring instruction; of its operations that load x
-- wrongly none has a lesser name than this one; its source gives `want` there, and it loaded `got`
pub record IsLastValue (initial : ℕ → ℕ) (t : Trace) (hart : ℕ) (tag : Option ℕ) (x want got : ℕ) : Type 0 where
  pub lowest : IsLowest (λ y. (i : Op) × RetiresWrong initial t hart tag y i) x
  pub load : Op
  pub least : IsLeast (RetiresWrong initial t hart tag x) load
  pub wanted : want ≡ byte_from initial (source t load x) x
  pub loaded : got ≡ got_at load x

-- the answer Order: the values are right; the pair of these names is the one reported in the whole trace, by the rule
-- of this number
pub record IsLastOrder (initial : ℕ → ℕ) (t : Trace) (hart : ℕ) (tag : Option ℕ) (rule : ℕ) (first second : OpName)
    : Type 0 where
  pub right : RetiresRight initial t hart tag
  pub broken : Rule
  pub before : Op
  pub after : Op
  pub numbered : rule ≡ number broken
  pub first_named : before.name ≡ first
  pub second_named : after.name ≡ second
  pub reported : IsReportedPair t broken before after

-- the answer Atomicity: the values are right, and no pair is broken; the retiring SC is torn from its LR at byte x by
-- the store
pub record IsLastAtomicity (initial : ℕ → ℕ) (t : Trace) (hart : ℕ) (tag : Option ℕ) (x : ℕ) (store : Origin)
    : Type 0 where
  pub right : RetiresRight initial t hart tag
  pub ordered : AllOrdered t
  pub sc : Op
  pub lr : Op
  pub blamed : Op
  pub torn : RetiresTorn t hart tag lr sc
  pub shown : TornBy t lr sc x blamed
  pub keyed : key_of blamed ≡ store

-- the answer: the first of value, order and atomicity that stands, else Fine
abbrev pub IsLast : (ℕ → ℕ) → Trace → ℕ → Option ℕ → Last → Type 0
IsLast initial t hart tag last.Fine = IsFine initial t hart tag
IsLast initial t hart tag (last.Value x want got) = IsLastValue initial t hart tag x want got
IsLast initial t hart tag (last.Order rule first second) = IsLastOrder initial t hart tag rule first second
IsLast initial t hart tag (last.Atomicity x store) = IsLastAtomicity initial t hart tag x store
