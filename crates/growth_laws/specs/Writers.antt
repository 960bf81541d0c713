-- The stores to one byte, and what two traces have in common there.
use Rattle.std.specs.Prelude.{ℕ, ◌<◌, ◌≡◌, ◌⊎◌, true, None, Some}
use Rattle.std.specs.declared.option.Option.{Option}
use Rattle.std.specs.List.{Contains}
use Rattle.rvwmo_model.specs.declared.operations.Op.{Op}
use Rattle.rvwmo_model.specs.declared.traces.Trace.{Trace}
use Rattle.rvwmo_model.specs.Order.{writes, precedes, put_at, everything}
use Rattle.rvwmo_model.specs.InForm.{IsPlaced}
use Rattle.growth_laws.specs.Kinds.{SameInsn}
use Rattle.growth_laws.specs.Growth.{IsAbove, IsYounger}

-- n is of the instruction of o, and stands where o stood, or, where o wasn't performed, above all that was
pub record Becomes (t : Trace) (o n : Op) : Type 0 where
  pub same : SameInsn n o
  pub place : (n.place ≡ o.place) ⊎ ((o.place ≡ None) × IsPlaced n × IsAbove t n)

-- w, a store to byte x of t, is n in t': with the same byte, and of an instruction that retired if it was
pub record GoesOn (t t' : Trace) (x : ℕ) (w n : Op) : Type 0 where
  pub was : Contains (everything t) w
  pub is : Contains (everything t') n
  pub stored : writes x w ≡ true
  pub stores : writes x n ≡ true
  pub retired : Contains t.ops w → Contains t'.ops n
  pub becomes : Becomes t w n
  pub byte : put_at n x ≡ put_at w x

-- the stores to byte x go on, and a new one stands above all and is younger than all that retired of its hart
pub record WritersGo (t t' : Trace) (x : ℕ) : Type 0 where
  pub on : (w : Op) → Contains (everything t) w → writes x w ≡ true → (n : Op) × GoesOn t t' x w n
  pub back : (n : Op) → Contains (everything t') n → writes x n ≡ true → ((w : Op) × GoesOn t t' x w n)
      ⊎ (IsAbove t n × IsYounger t n)

-- a source is the same: the same store, or the initial value
abbrev pub SameSource : Trace → Trace → ℕ → Option Op → Option Op → Type 0
SameSource t t' x None None = Unit {0}
SameSource t t' x (Some s) (Some n) = GoesOn t t' x s n
SameSource t t' x None (Some n) = ⊥
SameSource t t' x (Some s) None = ⊥

-- two stores of one hart to byte x stand against program order
pub record Crossed (t : Trace) (x : ℕ) : Type 0 where
  pub first : Op
  pub second : Op
  pub first_in : Contains t.ops first
  pub second_in : Contains t.ops second
  pub first_writes : writes x first ≡ true
  pub second_writes : writes x second ≡ true
  pub one_hart : second.name.hart ≡ first.name.hart
  pub in_order : first.name.tag < second.name.tag
  pub against : precedes second first ≡ true

-- and the second of them was performed by the growth, above all that was
pub record Overtaken (t t' : Trace) (x : ℕ) : Type 0 where
  pub crossed : Crossed t' x
  pub old : Op
  pub goes : GoesOn t t' x old crossed.second
  pub unperformed : old.place ≡ None
  pub placed : IsPlaced crossed.second
  pub above : IsAbove t crossed.second
