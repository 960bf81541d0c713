-- Laws of the two marks of a byte while a trace grows.
use Rattle.std.specs.Prelude.{ℕ, ◌≡◌, List, Option, None, Some, true, false}
use Rattle.std.specs.List.{Contains}
use Rattle.rvwmo_model.specs.declared.instructions.Retired.{Retired}
use Rattle.rvwmo_model.specs.declared.operations.Op.{Op}
use Rattle.rvwmo_model.specs.declared.traces.Trace.{Trace}
use Rattle.rvwmo_model.specs.Order.{Standing, stands_before, op_loads, reads, writes}
use Rattle.rvwmo_model.specs.Sources.{later, origin}
use Rattle.rvwmo_model.specs.Legal.{Legal}
use Rattle.growth_laws.specs.Kinds.{WellKinded}
use Rattle.growth_laws.specs.Growth.{Same, AddEarly, AddInsn, Performs}
use Rattle.growth_laws.specs.Laws.{nothing_yet}
use Rattle.rule_laws.specs.TwoMarks.{second_mark, AreTwoMarks}

-- no operation of the list is a store of hart h to byte x
abbrev pub NoneStores : List Op → ℕ → ℕ → Type 0
NoneStores new h x = (o : Op) → Contains new o → o.name.hart ≡ h → writes x o ≡ false

-- v is of the list, and loads byte x for hart h
abbrev pub IsLoadIn : List Op → ℕ → ℕ → Op → Type 0
IsLoadIn new h x v = Contains new v × (v.name.hart ≡ h) × (reads x v ≡ true)

-- the two marks of byte x of hart h through each growth
pub record TwoMarksGoOn : Type 0 where
  -- in the trace of nothing there are none
  pub start : (granule h x : ℕ) (q : Standing) → AreTwoMarks (nothing_yet granule) h x q None None
  -- a later standing is asked
  pub narrows : (t : Trace) (h x : ℕ) (p q : Standing) (one two : Option Op) → stands_before q p ≡ false
      → AreTwoMarks t h x p one two → AreTwoMarks t h x q one two
  pub nothing : (t t' : Trace) (h x : ℕ) (q : Standing) (one two : Option Op) → WellKinded t → Same t t'
      → AreTwoMarks t h x q one two → AreTwoMarks t' h x q one two
  pub early : (t t' : Trace) (e : Op) (h x : ℕ) (q : Standing) (one two : Option Op) → WellKinded t → AddEarly t t' e
      → AreTwoMarks t h x q one two → AreTwoMarks t' h x q one two
  -- an instruction that doesn't touch the byte
  pub rests : (t t' : Trace) (r : Retired) (new : List Op) (h x : ℕ) (q : Standing) (one two : Option Op)
      → WellKinded t → AddInsn t t' r new → NoneStores new h x → ((v : Op) → IsLoadIn new h x v → ⊥)
      → AreTwoMarks t h x q one two → AreTwoMarks t' h x q one two
  -- one that loads it, by c
  pub noted : (t t' : Trace) (r : Retired) (new : List Op) (h x : ℕ) (q : Standing) (one two : Option Op) (c : Op)
      → WellKinded t → AddInsn t t' r new → NoneStores new h x → IsLoadIn new h x c
      → AreTwoMarks t h x q one two
      → AreTwoMarks t' h x q (later one c) (second_mark (λ v. origin t' v x) one two c)
  -- one that stores to it, by c, performed or not, and loads nothing
  pub cleared : (t t' : Trace) (r : Retired) (new : List Op) (h x : ℕ) (q : Standing) (c : Op) → WellKinded t
      → AddInsn t t' r new → Contains new c → c.name.hart ≡ h → writes x c ≡ true → op_loads c ≡ false
      → AreTwoMarks t' h x q None None
  -- one that loads it and stores to it, by c
  pub atomic : (t t' : Trace) (r : Retired) (new : List Op) (h x : ℕ) (q : Standing) (c : Op) → WellKinded t
      → AddInsn t t' r new → IsLoadIn new h x c → writes x c ≡ true → AreTwoMarks t' h x q (Some c) None
  -- a message that performs stores, where no pair is broken in the end
  pub stores : (initial : ℕ → ℕ) (t t' : Trace) (g : ℕ) (parts : List Op) (h x : ℕ) (q : Standing)
      (one two : Option Op) → WellKinded t → Performs g t parts t' → Legal initial t'
      → AreTwoMarks t h x q one two → AreTwoMarks t' h x q one two
