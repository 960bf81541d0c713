-- Which offence of a trace is answered.
use Rattle.std.specs.Prelude.{ℕ, ◌<◌, ◌≤◌, ◌≡◌, ◌≢◌, true, false, Some}
use Rattle.std.specs.List.{Contains}
use Rattle.tandem_base.specs.declared.names.OpName.{OpName}
use Rattle.tandem_base.specs.declared.names.Origin.{Origin}
use Rattle.rvwmo_model.specs.declared.answers.Judged.{Judged}
use Rattle.rvwmo_model.specs.declared.answers.Judged.TheVariants as judged
use Rattle.rvwmo_model.specs.declared.operations.Op.{Op}
use Rattle.rvwmo_model.specs.declared.traces.Trace.{Trace}
use Rattle.rvwmo_model.specs.Order.{everything, precedes, named_before, writes, got_at}
use Rattle.rvwmo_model.specs.Sources.{source, byte_from, key_of}
use Rattle.rvwmo_model.specs.Rules.{Rule, R1, R2, R3, R4, R5, R6, R7, R8, R9, R10, R11, R12, R13, Broken}
use Rattle.rvwmo_model.specs.Atomicity.{Unpaired, IsLate, IsTornAt, WritesBlock, IntrudesBlock, Torn}
use Rattle.rvwmo_model.specs.Legal.{WrongValue, Legal}

-- the manual's number of a rule
abbrev pub number : Rule → ℕ
number R1 = 1
number R2 = 2
number R3 = 3
number R4 = 4
number R5 = 5
number R6 = 6
number R7 = 7
number R8 = 8
number R9 = 9
number R10 = 10
number R11 = 11
number R12 = 12
number R13 = 13

-- o offends, and none that offends is of a lower hart, or of that and earlier in program order, or of that and of a
-- lesser part
pub record IsLeast (Offends : Op → Type 0) (o : Op) : Type 0 where
  pub offends : Offends o
  pub least : (v : Op) → Offends v → named_before v.name o.name ≡ false

-- x has the property, and no lower number has it
pub record IsLowest (P : ℕ → Type 0) (x : ℕ) : Type 0 where
  pub here : P x
  pub lowest : (y : ℕ) → P y → x ≤ y

-- v has the property, and none that has it comes after v in global order
pub record IsLatest (P : Op → Type 0) (v : Op) : Type 0 where
  pub here : P v
  pub latest : (u : Op) → P u → precedes v u ≡ false

-- a pair of rule k is broken whose second operation is b
abbrev pub IsSecond : Rule → Trace → Op → Type 0
IsSecond k t b = (a : Op) × Broken k t a b

-- the broken pair that is reported: of the least rule that is broken, with the second operation of the least name, and
-- with the latest first operation
pub record IsReportedPair (t : Trace) (k : Rule) (a b : Op) : Type 0 where
  pub rule : (j : Rule) → number j < number k → (c d : Op) → Broken j t c d → ⊥
  pub second : IsLeast (IsSecond k t) b
  pub first : IsLatest (λ c. Broken k t c b) a

-- a byte of the load i is wrong
abbrev pub HasWrong : (ℕ → ℕ) → Trace → Op → Type 0
HasWrong initial t i = (x : ℕ) × WrongValue initial t i x

-- the pair of w isn't atomic
abbrev pub IsTorn : Trace → Op → Type 0
IsTorn t w = (r : Op) × Torn t r w

-- v is a store to byte x by another hart than that of w, before w
pub record IsForeign (t : Trace) (w : Op) (x : ℕ) (v : Op) : Type 0 where
  pub store_in : Contains (everything t) v
  pub stores : writes x v ≡ true
  pub other : v.name.hart ≢ w.name.hart
  pub before : precedes v w ≡ true

-- the store that is named at a byte: its source where that is too late, else the last store of another hart to it
-- before w
pub data Blamed (t : Trace) (r w : Op) (x : ℕ) : Op → Type 0 where
  -- its source
  late : (s : Op) → source t r x ≡ Some s → precedes s w ≡ false → Blamed t r w x s
  -- the last store of another hart
  foreign : (s : Op) → (IsLate (source t r x) w → ⊥) → IsLatest (IsForeign t w x) s → Blamed t r w x s

-- the byte and the store that are named for the pair r and w: by the lowest byte of r that shows it, else by the last
-- store to the block, at its lowest address there
pub data TornBy (t : Trace) (r w : Op) : ℕ → Op → Type 0 where
  -- a byte of r shows it
  byte : (x : ℕ) (s : Op) → IsLowest (IsTornAt t r w) x → Blamed t r w x s → TornBy t r w x s
  -- its block does
  block : (x : ℕ) (s : Op) → ((y : ℕ) → IsTornAt t r w y → ⊥) → IsLatest (IntrudesBlock t r w) s
      → IsLowest (WritesBlock t r s) x → TornBy t r w x s

-- each successful SC has its pair
abbrev pub AllPaired : Trace → Type 0
AllPaired t = (w : Op) → Unpaired t w → ⊥

-- each byte loaded is its source's
abbrev pub AllRight : (ℕ → ℕ) → Trace → Type 0
AllRight initial t = (i : Op) (x : ℕ) → WrongValue initial t i x → ⊥

-- no pair is broken
abbrev pub AllOrdered : Trace → Type 0
AllOrdered t = (k : Rule) (a b : Op) → Broken k t a b → ⊥

-- the answer Pair: no successful SC without a pair has a lesser name than this one
pub record IsPairAnswer (t : Trace) (name : OpName) : Type 0 where
  pub sc : Op
  pub named : sc.name ≡ name
  pub least : IsLeast (Unpaired t) sc

-- the answer Value: each SC has its pair; no load with a wrong byte has a lesser name than this one, and x is its
-- lowest wrong byte, of which its source gives `want`, and it loaded `got`
pub record IsValueAnswer (initial : ℕ → ℕ) (t : Trace) (name : OpName) (x want got : ℕ) : Type 0 where
  pub paired : AllPaired t
  pub load : Op
  pub named : load.name ≡ name
  pub least : IsLeast (HasWrong initial t) load
  pub lowest : IsLowest (WrongValue initial t load) x
  pub wanted : want ≡ byte_from initial (source t load x) x
  pub loaded : got ≡ got_at load x

-- the answer Order: each SC has its pair, and each loaded byte is right; the pair of these names is the one reported,
-- by the rule of this number
pub record IsOrderAnswer (initial : ℕ → ℕ) (t : Trace) (rule : ℕ) (first second : OpName) : Type 0 where
  pub paired : AllPaired t
  pub right : AllRight initial t
  pub broken : Rule
  pub before : Op
  pub after : Op
  pub numbered : rule ≡ number broken
  pub first_named : before.name ≡ first
  pub second_named : after.name ≡ second
  pub reported : IsReportedPair t broken before after

-- the answer Atomicity: each SC has its pair, each loaded byte is right, and no pair is broken; no SC in a pair that
-- isn't atomic has a lesser name than this one, and it is torn from its LR at byte x by the store
pub record IsAtomicityAnswer (initial : ℕ → ℕ) (t : Trace) (name : OpName) (x : ℕ) (store : Origin) : Type 0 where
  pub paired : AllPaired t
  pub right : AllRight initial t
  pub ordered : AllOrdered t
  pub sc : Op
  pub lr : Op
  pub blamed : Op
  pub named : sc.name ≡ name
  pub least : IsLeast (IsTorn t) sc
  pub torn : Torn t lr sc
  pub shown : TornBy t lr sc x blamed
  pub keyed : key_of blamed ≡ store

-- the answer to a trace: the first offence of pair, value, order and atomicity, or that it is legal
abbrev pub IsAnswer : (ℕ → ℕ) → Trace → Judged → Type 0
IsAnswer initial t judged.Legal = Legal initial t
IsAnswer initial t (judged.Pair name) = IsPairAnswer t name
IsAnswer initial t (judged.Value name x want got) = IsValueAnswer initial t name x want got
IsAnswer initial t (judged.Order rule first second) = IsOrderAnswer initial t rule first second
IsAnswer initial t (judged.Atomicity name x store) = IsAtomicityAnswer initial t name x store
