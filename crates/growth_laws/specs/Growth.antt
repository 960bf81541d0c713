-- How a trace grows. Lists of operations are compared by their members, instructions by hart and tag.
use Rattle.std.specs.Prelude.{ℕ, ◌<◌, ◌≡◌, ◌≢◌, ◌⊎◌, ◌==◌, ◌&&◌, List, [], ◌∷◌, true, None, Some, if◌then◌else◌}
use Rattle.std.specs.declared.option.Option.{Option}
use Rattle.std.specs.List.{Contains, AllPairs}
use Rattle.tandem_base.specs.declared.names.Place.{Place}
use Rattle.tandem_base.specs.Extents.{IsAligned}
use Rattle.rvwmo_model.specs.declared.instructions.Retired.{Retired}
use Rattle.rvwmo_model.specs.declared.operations.Op.{Op}
use Rattle.rvwmo_model.specs.declared.operations.OpKind.TheVariants as kind
use Rattle.rvwmo_model.specs.declared.traces.Trace.{Trace}
use Rattle.tandem_base.specs.Extents.{Covers}
use Rattle.rvwmo_model.specs.Order.{has_byte, precedes, put_at, everything}
use Rattle.rvwmo_model.specs.ProgramOrder.{insn_at}
use Rattle.rvwmo_model.specs.Atomicity.{IsPair, IsCoveredBy}
use Rattle.rvwmo_model.specs.InForm.{AreRising, IsPlaced, IsOf, IsWhole}
use Rattle.rv_decode.specs.Kinds.{is_store, is_lr, is_sc, is_amo_or_sc}
use Rattle.growth_laws.specs.Kinds.{kind_of_retired, SameInsn, IsNamed, IsPlainAnnotated}

-- two lists have the same members
pub record SameMembers (xs ys : List Op) : Type 0 where
  pub on : (v : Op) → Contains xs v → Contains ys v
  pub back : (v : Op) → Contains ys v → Contains xs v

-- all that is performed precedes n
abbrev pub IsAbove : Trace → Op → Type 0
IsAbove t n = (v : Op) → Contains (everything t) v → IsPlaced v → precedes v n ≡ true

-- n is later in program order than all instructions of its hart that retired
abbrev pub IsYounger : Trace → Op → Type 0
IsYounger t n = (w : Retired) → Contains t.insns w → w.hart ≡ n.name.hart → w.tag < n.name.tag

-- the instructions are those of t, and r where there is one more
abbrev pub with_insn : Trace → Option Retired → ℕ → ℕ → Option Retired
with_insn t None h k = insn_at t.insns h k
with_insn t (Some r) h k = if (r.hart == h) && (r.tag == k) then Some r else insn_at t.insns h k

-- what is not of memory: the instructions, in program order, and the granule
pub record Keeps (t t' : Trace) (more : Option Retired) : Type 0 where
  pub insns : (h k : ℕ) → insn_at t'.insns h k ≡ with_insn t more h k
  pub rising : AreRising t'.insns
  -- no operation stands twice in the list
  pub once : AllPairs (λ a b. a ≢ b) t'.ops
  pub granule : t'.granule ≡ t.granule

-- ---- nothing

-- nothing changes but the order of the lists
pub record Same (t t' : Trace) : Type 0 where
  pub keeps : Keeps t t' None
  pub ops : SameMembers t.ops t'.ops
  pub early : SameMembers t.early t'.early

-- ---- an early store more

-- the store e is performed before its instruction retires
pub record AddEarly (t t' : Trace) (e : Op) : Type 0 where
  pub keeps : Keeps t t' None
  pub ops : SameMembers t.ops t'.ops
  pub early_on : (v : Op) → Contains t.early v → Contains t'.early v
  pub early_back : (v : Op) → Contains t'.early v → (v ≡ e) ⊎ Contains t.early v
  pub added : Contains t'.early e
  pub kind : e.kind ≡ kind.Store
  pub whole : IsWhole e
  -- at a place above all that there are
  pub placed : IsPlaced e
  pub above : IsAbove t e
  -- its instruction is younger than all that retired, and has no early store yet
  pub younger : IsYounger t e
  pub fresh : (v : Op) → Contains t.early v → SameInsn v e → ⊥

-- ---- an instruction more, with its operations

-- they are of r, of its kind and of one extent, have no common byte, and are named by their lowest bytes
pub record AreOf (r : Retired) (new : List Op) : Type 0 where
  pub own : (v : Op) → Contains new v → IsOf r v
  pub kinds : (v : Op) → Contains new v → kind_of_retired r ≡ Some v.kind
  pub whole : (v : Op) → Contains new v → IsWhole v
  pub parts : (v : Op) → Contains new v → IsNamed v
  pub extents : (a b : Op) → Contains new a → Contains new b → a.extent ≡ b.extent
  pub disjoint : (a b : Op) (x : ℕ) → Contains new a → Contains new b → has_byte x a ≡ true → has_byte x b ≡ true
      → a ≡ b

-- a load or LR: each operation has a place that no other has; an LR has one operation, aligned where a reservation is
-- of a block
pub record AddsLoads (t t' : Trace) (r : Retired) (new : List Op) : Type 0 where
  pub loads : kind_of_retired r ≡ Some kind.Load
  pub early : SameMembers t.early t'.early
  pub placed : (v : Op) → Contains new v → IsPlaced v
  pub places : (a b : Op) (p : Place) → Contains new a → Contains (everything t') b → a.place ≡ Some p
      → b.place ≡ Some p → a ≡ b
  pub reserves : is_lr r.insn ≡ true → (o : Op) × (new ≡ o ∷ []) × (0 < t.granule → IsAligned o.extent)

-- a plain store: one operation with all bytes of its extent, not performed
pub record AddsStore (t t' : Trace) (r : Retired) (new : List Op) (o : Op) : Type 0 where
  pub stores : is_store r.insn ≡ true
  pub early : SameMembers t.early t'.early
  pub one : new ≡ o ∷ []
  pub unperformed : o.place ≡ None
  pub all : (x : ℕ) → Covers o.extent x → has_byte x o ≡ true
  pub plain : IsPlainAnnotated o

-- an AMO or a successful SC: one operation, that of the early store e, which is early no more; an SC has a pair whose
-- bytes contain its own
pub record AddsAtomic (t t' : Trace) (r : Retired) (new : List Op) (e o : Op) : Type 0 where
  pub atomic : is_amo_or_sc r.insn ≡ true
  pub was : Contains t.early e
  pub early_on : (v : Op) → Contains t.early v → (v ≡ e) ⊎ Contains t'.early v
  pub early_back : (v : Op) → Contains t'.early v → Contains t.early v
  pub gone : Contains t'.early e → ⊥
  pub one : new ≡ o ∷ []
  pub same : SameInsn o e
  pub place : o.place ≡ e.place
  pub extent : o.extent ≡ e.extent
  pub mask : o.mask ≡ e.mask
  pub put : (x : ℕ) → has_byte x o ≡ true → put_at o x ≡ put_at e x
  pub pair : is_sc r.insn ≡ true → (l : Op) × IsPair t' l o × IsCoveredBy o l

-- every other instruction, and a failed SC: no operation
pub record AddsNothing (t t' : Trace) (r : Retired) (new : List Op) : Type 0 where
  pub nothing : kind_of_retired r ≡ None
  pub early : SameMembers t.early t'.early
  pub none : new ≡ []

-- the operations new are what the instruction r adds
pub data Adds (t t' : Trace) (r : Retired) (new : List Op) : Type 0 where
  adds_loads : AddsLoads t t' r new → Adds t t' r new
  adds_store : (o : Op) → AddsStore t t' r new o → Adds t t' r new
  adds_atomic : (e o : Op) → AddsAtomic t t' r new e o → Adds t t' r new
  adds_nothing : AddsNothing t t' r new → Adds t t' r new

-- the instruction r retires, with the operations new
pub record AddInsn (t t' : Trace) (r : Retired) (new : List Op) : Type 0 where
  pub keeps : Keeps t t' (Some r)
  -- it is younger than all of its hart that retired, and older than the early stores that are left
  pub younger : (w : Retired) → Contains t.insns w → w.hart ≡ r.hart → w.tag < r.tag
  pub older : (v : Op) → Contains t'.early v → v.name.hart ≡ r.hart → r.tag < v.name.tag
  pub ops_on : (v : Op) → Contains t.ops v → Contains t'.ops v
  pub ops_back : (v : Op) → Contains t'.ops v → Contains new v ⊎ Contains t.ops v
  pub added : (v : Op) → Contains new v → Contains t'.ops v
  pub are_of : AreOf r new
  pub adds : Adds t t' r new

-- ---- stores performed by one message

-- n has some bytes of the store o, and is else like it
pub record IsPartOf (n o : Op) : Type 0 where
  pub same : SameInsn n o
  pub kind : n.kind ≡ o.kind
  pub extent : n.extent ≡ o.extent
  pub acquire : n.acquire ≡ o.acquire
  pub release : n.release ≡ o.release
  pub bytes : (x : ℕ) → has_byte x n ≡ true → (has_byte x o ≡ true) × (put_at n x ≡ put_at o x)
  pub whole : IsWhole n
  pub named : IsNamed n

-- bytes of the store o that were not performed are performed, as n; rest has the others, where some are left
pub record PerformsPart (t t' : Trace) (o n : Op) (rest : Option Op) : Type 0 where
  pub keeps : Keeps t t' None
  pub early : SameMembers t.early t'.early
  pub was : Contains t.ops o
  pub unperformed : o.place ≡ None
  pub ops_on : (v : Op) → Contains t.ops v → (v ≡ o) ⊎ Contains t'.ops v
  pub ops_back : (v : Op) → Contains t'.ops v → (v ≡ n) ⊎ (rest ≡ Some v) ⊎ Contains t.ops v
  pub gone : Contains t'.ops o → ⊥
  -- n stands at a place above all that there are
  pub added : Contains t'.ops n
  pub placed : IsPlaced n
  pub above : IsAbove t n
  pub part : IsPartOf n o
  -- what is left is not performed
  pub left : (m : Op) → rest ≡ Some m → Contains t'.ops m × (m.place ≡ None) × IsPartOf m o
  pub all : (x : ℕ) → has_byte x o ≡ true → (has_byte x n ≡ true) ⊎ ((m : Op) × (rest ≡ Some m) × (has_byte x m ≡ true))
  pub disjoint : (m : Op) (x : ℕ) → rest ≡ Some m → has_byte x n ≡ true → has_byte x m ≡ true → ⊥

-- one message of hart h performs these operations, one after the other; the last stands first in the list
pub data Performs (h : ℕ) (t : Trace) : List Op → Trace → Type 0 where
  no_parts : Performs h t [] t
  more_parts : (parts : List Op) (u v : Trace) (o n : Op) (rest : Option Op) → Performs h t parts u → n.name.hart ≡ h
      → PerformsPart u v o n rest → Performs h t (n ∷ parts) v

-- ---- growth

-- t grows to t'
pub data Growth (t t' : Trace) : Type 0 where
  grow_same : Same t t' → Growth t t'
  grow_early : (e : Op) → AddEarly t t' e → Growth t t'
  grow_insn : (r : Retired) (new : List Op) → AddInsn t t' r new → Growth t t'
  grow_stores : (h : ℕ) (parts : List Op) → Performs h t parts t' → Growth t t'

-- h is the hart whose operations the growth adds or performs
abbrev pub IsGrowing : {t t' : Trace} → Growth t t' → ℕ → Type 0
IsGrowing (grow_same s) h = Unit {0}
IsGrowing (grow_early e s) h = e.name.hart ≡ h
IsGrowing (grow_insn r new s) h = r.hart ≡ h
IsGrowing (grow_stores g parts s) h = g ≡ h

-- any number of growths
pub data Grows : Trace → Trace → Type 0 where
  no_growth : (t : Trace) → Grows t t
  more_growth : (t u v : Trace) → Grows t u → Growth u v → Grows t v
