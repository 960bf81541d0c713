-- The laws of growth over one trace.
use Rattle.std.specs.Prelude.{ℕ, ◌<◌, ◌≡◌, ◌⊎◌, ◌↔◌, List, [], true, false, None, Some}
use Rattle.std.specs.declared.option.Option.{Option}
use Rattle.std.specs.List.{Contains}
use Rattle.tandem_base.specs.declared.names.Place.{Place}
use Rattle.rvwmo_model.specs.declared.instructions.Retired.{Retired}
use Rattle.rvwmo_model.specs.declared.operations.Op.{Op}
use Rattle.rvwmo_model.specs.declared.traces.Trace.{Trace}
use Rattle.rvwmo_model.specs.Order.{precedes, reads, writes}
use Rattle.rvwmo_model.specs.Sources.{source, byte_from, origin}
use Rattle.rvwmo_model.specs.declared.preserved.Rule.{Rule}
use Rattle.rvwmo_model.specs.declared.preserved.Rule.TheVariants.{R1, R4, R6, R9, R10}
use Rattle.rvwmo_model.specs.Rules.{Orders, Broken}
use Rattle.rvwmo_model.specs.Atomicity.{Torn}
use Rattle.rvwmo_model.specs.InForm.{IsPlaced, IsOf}
use Rattle.tandem_base.specs.Granules.{IsGranule}
use Rattle.rvwmo_model.specs.Legal.{WrongValue, Legal}
use Rattle.rvwmo_model.specs.Report.{number, IsLeast, IsLatest, IsReportedPair}
use Rattle.growth_laws.specs.Kinds.{WellKinded, IsPlainStore}
use Rattle.growth_laws.specs.Growth.{Same, AddEarly, AddInsn, Performs, Growth, IsGrowing, Grows, IsYounger}
use Rattle.growth_laws.specs.Writers.{WritersGo}

-- before any growth: no instruction and no operation
abbrev pub nothing_yet : ℕ → Trace
nothing_yet granule = record { insns = []; ops = []; early = []; granule = granule }

-- a trace to begin with
pub record IsStart (initial : ℕ → ℕ) (t : Trace) : Type 0 where
  pub kinded : WellKinded t
  pub legal : Legal initial t

-- nothing is a trace to begin with, under each granule
abbrev pub StartsWell : Type 0
StartsWell = (initial : ℕ → ℕ) (granule : ℕ) → IsGranule granule → IsStart initial (nothing_yet granule)

-- each growth keeps a trace well kinded
abbrev pub KeepsWellKinded : Type 0
KeepsWellKinded = (t t' : Trace) → WellKinded t → Growth t t' → WellKinded t'

-- the stores to a byte go on through each growth, and new ones come last
abbrev pub KeepsWriters : Type 0
KeepsWriters = (t t' : Trace) (x : ℕ) → WellKinded t → Growth t t' → WritersGo t t' x

-- a pair of rule k is broken
abbrev pub HasBrokenBy : Rule → Trace → Type 0
HasBrokenBy k t = (a : Op) × (b : Op) × Broken k t a b

-- some pair is broken
abbrev pub HasBroken : Trace → Type 0
HasBroken t = (k : Rule) × (a : Op) × (b : Op) × Broken k t a b

-- a pair of rule 1 is broken
abbrev pub HasOverlap : Trace → Type 0
HasOverlap t = HasBrokenBy R1 t

-- stable sources: after any growths the source of a loaded byte is the same, or a pair of rule 1 is broken
abbrev pub StableSources : Type 0
StableSources = (t t' : Trace) (i : Op) (x : ℕ) → WellKinded t → Grows t t' → Contains t.ops i → reads x i ≡ true
    → (origin t' i x ≡ origin t i x) ⊎ HasOverlap t'

-- a source is settled: it is the initial value, or a store that is performed
abbrev pub IsSettled : Option Op → Type 0
IsSettled None = Unit {0}
IsSettled (Some s) = IsPlaced s

-- the place of a source
abbrev pub source_place : Option Op → Option Place
source_place None = None
source_place (Some s) = s.place

-- the source of byte x of i is the same store at the same place, with the same byte, or the initial value in both
pub record SourceStays (t t' : Trace) (i : Op) (x : ℕ) : Type 0 where
  pub store : origin t' i x ≡ origin t i x
  pub place : source_place (source t' i x) ≡ source_place (source t i x)
  pub byte : (initial : ℕ → ℕ) → byte_from initial (source t' i x) x ≡ byte_from initial (source t i x) x

-- settled sources: under all growths a settled source stays, whatever is broken
abbrev pub SettledSources : Type 0
SettledSources = (t t' : Trace) (i : Op) (x : ℕ) → WellKinded t → Grows t t' → Contains t.ops i → reads x i ≡ true
    → IsSettled (source t i x) → SourceStays t t' i x

-- what is wrong in t is wrong in t', or a pair of rule 1 is broken there
pub record StaysWrong (initial : ℕ → ℕ) (t t' : Trace) : Type 0 where
  pub pairs : (k : Rule) → HasBrokenBy k t → HasBrokenBy k t' ⊎ HasOverlap t'
  pub overlaps : HasOverlap t → HasOverlap t'
  pub values : (i : Op) (x : ℕ) → WrongValue initial t i x → WrongValue initial t' i x ⊎ HasOverlap t'
  pub atomicity : (r w : Op) → Torn t r w → Torn t' r w ⊎ HasOverlap t'
  pub legal : Legal initial t' → Legal initial t

-- no mending: what is not legal stays so under all growths
abbrev pub NoMending : Type 0
NoMending = (initial : ℕ → ℕ) (t t' : Trace) → WellKinded t → Grows t t' → StaysWrong initial t t'

-- nothing, and an early store more, break nothing
abbrev pub EarlyBreaksNothing : Type 0
EarlyBreaksNothing = (initial : ℕ → ℕ) (t t' : Trace) → WellKinded t → Legal initial t
    → Same t t' ⊎ ((e : Op) × AddEarly t t' e) → Legal initial t'

-- all that is wrong is of the instruction r
pub record WrongOnlyBy (initial : ℕ → ℕ) (t : Trace) (r : Retired) : Type 0 where
  pub pairs : (k : Rule) (a b : Op) → Broken k t a b → IsOf r b
  pub values : (i : Op) (x : ℕ) → WrongValue initial t i x → IsOf r i
  pub atomicity : (l w : Op) → Torn t l w → IsOf r w

-- one instruction more breaks only pairs with its own operation second, and the values and atomicity of it alone
abbrev pub InsnBreaksItsOwn : Type 0
InsnBreaksItsOwn = (initial : ℕ → ℕ) (t t' : Trace) (r : Retired) (new : List Op) → WellKinded t → Legal initial t
    → AddInsn t t' r new → WrongOnlyBy initial t' r

-- no pair of a lesser rule is broken
abbrev pub IsLeastRule : Trace → Rule → Type 0
IsLeastRule t k = (j : Rule) → number j < number k → (a b : Op) → Broken j t a b → ⊥

-- b is performed by the message; a is of a plain store, and not performed, or performed by the message after b
pub record BrokenByStores (t : Trace) (parts : List Op) (a b : Op) : Type 0 where
  pub second : Contains parts b
  pub plain : IsPlainStore t a
  pub first : (a.place ≡ None) ⊎ (Contains parts a × (precedes b a ≡ true))

-- what a message that performs stores breaks: where no pair is broken, nothing; else the least rule is of same
-- address, fence or release
pub record WrongByStores (initial : ℕ → ℕ) (t : Trace) (parts : List Op) : Type 0 where
  pub only_pairs : (HasBroken t → ⊥) → Legal initial t
  pub rule : (k : Rule) (a b : Op) → IsLeastRule t k → Broken k t a b → (k ≡ R1) ⊎ (k ≡ R4) ⊎ (k ≡ R6)
  pub pair : (k : Rule) (a b : Op) → IsLeastRule t k → Broken k t a b → BrokenByStores t parts a b

-- stores performed by one message break no more than that
abbrev pub StoresBreakPairs : Type 0
StoresBreakPairs = (initial : ℕ → ℕ) (t t' : Trace) (h : ℕ) (parts : List Op) → WellKinded t → Legal initial t
    → Performs h t parts t' → WrongByStores initial t' parts

-- place of the fault: what one growth of a legal trace can break
pub record PlaceOfFault : Type 0 where
  pub early : EarlyBreaksNothing
  pub insn : InsnBreaksItsOwn
  pub stores : StoresBreakPairs

-- a precedes b in preserved program order by rule k
pub record IsPreserved (k : Rule) (t : Trace) (a b : Op) : Type 0 where
  pub first_in : Contains t.ops a
  pub second_in : Contains t.ops b
  pub one_hart : b.name.hart ≡ a.name.hart
  pub in_order : a.name.tag < b.name.tag
  pub rule : Orders k t a b

-- b is an operation of t' of the hart of a, of an instruction that retires after t
pub record IsLater (t t' : Trace) (a b : Op) : Type 0 where
  pub in_ops : Contains t'.ops b
  pub one_hart : b.name.hart ≡ a.name.hart
  pub younger : IsYounger t b

-- a is performed, and its place isn't after that of any operation that comes later
pub record IsBelow (t t' : Trace) (a : Op) : Type 0 where
  pub in_ops : Contains t.ops a
  pub placed : IsPlaced a
  pub below : (b : Op) → IsLater t t' a b → IsPlaced b → precedes b a ≡ false

-- a precedes all that comes later, and so does what it forces before it
pub record PrecedesLater (t t' : Trace) (a b : Op) : Type 0 where
  pub before : precedes a b ≡ true
  pub unbroken : (k : Rule) → Broken k t' a b → ⊥
  -- what rules 1, 9 and 10 put before a precedes a, and so b
  pub forced : (k : Rule) (c : Op) → (k ≡ R1) ⊎ (k ≡ R9) ⊎ (k ≡ R10) → IsPreserved k t' c a
      → (precedes c a ≡ true) × (precedes c b ≡ true)
  -- so where a stores to a byte, older loads of it precede b
  pub loads : (c : Op) (x : ℕ) → Contains t'.ops c → a.name.hart ≡ c.name.hart → c.name.tag < a.name.tag
      → reads x c ≡ true → writes x a ≡ true → precedes c b ≡ true
  -- and where a depends on c by address or data, no rule is broken by c and b, not rule 12 either
  pub dependent : (k j : Rule) (c : Op) → (k ≡ R9) ⊎ (k ≡ R10) → IsPreserved k t' c a → Broken j t' c b → ⊥

-- windows: a performed operation below all places that are still to come precedes all that comes
abbrev pub Windows : Type 0
Windows = (initial : ℕ → ℕ) (t t' : Trace) (a b : Op) → WellKinded t → Legal initial t → Grows t t' → IsBelow t t' a
    → IsLater t t' a b → PrecedesLater t t' a b

-- a broken pair of hart h
abbrev pub BrokenOn : ℕ → Rule → Trace → Op → Op → Type 0
BrokenOn h k t a b = Broken k t a b × (b.name.hart ≡ h)

-- the pair that is reported where only the pairs of hart h are looked at
pub record IsReportedOn (h : ℕ) (t : Trace) (k : Rule) (a b : Op) : Type 0 where
  pub rule : (j : Rule) → number j < number k → (c d : Op) → BrokenOn h j t c d → ⊥
  pub second : IsLeast (λ d. (c : Op) × BrokenOn h k t c d) b
  pub first : IsLatest (λ c. BrokenOn h k t c b) a

-- after one growth of a legal trace the pair that is reported is chosen among those of the growing hart
abbrev pub ReportOfHart : Type 0
ReportOfHart = (initial : ℕ → ℕ) (t t' : Trace) (h : ℕ) (g : Growth t t') → WellKinded t → Legal initial t
    → IsGrowing g h
    → (k : Rule) (a b : Op) → IsReportedPair t' k a b ↔ IsReportedOn h t' k a b
