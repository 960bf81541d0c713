-- Laws of the running marks of a hart while a trace grows.
use Rattle.std.specs.Prelude.{ℕ, ◌≡◌, ◌≢◌, ◌⊎◌, ◌↔◌, List, [], Bool, Option, None, true, false}
use Rattle.std.specs.List.{Contains, filter}
use Rattle.rvwmo_model.specs.declared.instructions.Retired.{Retired}
use Rattle.rvwmo_model.specs.declared.operations.Op.{Op}
use Rattle.rvwmo_model.specs.declared.traces.Trace.{Trace}
use Rattle.rvwmo_model.specs.Sources.{later, latest_from}
use Rattle.rvwmo_model.specs.InForm.{IsPlaced}
use Rattle.growth_laws.specs.Kinds.{WellKinded}
use Rattle.growth_laws.specs.Growth.{Same, AddEarly, AddInsn, PerformsPart}
use Rattle.growth_laws.specs.Laws.{nothing_yet}
use Rattle.window_laws.specs.Latest.{IsLatestIfAny}
use Rattle.rule_laws.specs.Fences.{Class, kind_in, class_orders, FenceAfter, IsLatestFence, IsUnderTag}
use Rattle.rule_laws.specs.MarkedOps.{IsMarked, IsFenced}

-- in the trace of nothing there is no mark
pub record MarksStart : Type 0 where
  pub running : (granule h : ℕ) (test : Op → Bool) → IsLatestIfAny (IsMarked (nothing_yet granule) h test) None
  pub fenced : (granule h : ℕ) (c d : Class) → IsLatestIfAny (IsFenced (nothing_yet granule) h c d) None

-- the latest performed operation that passes a test, through each growth
pub record RunningMarks : Type 0 where
  pub nothing : (t t' : Trace) (h : ℕ) (test : Op → Bool) (m : Option Op) → Same t t'
      → IsLatestIfAny (IsMarked t h test) m → IsLatestIfAny (IsMarked t' h test) m
  pub early : (t t' : Trace) (e : Op) (h : ℕ) (test : Op → Bool) (m : Option Op) → AddEarly t t' e
      → IsLatestIfAny (IsMarked t h test) m → IsLatestIfAny (IsMarked t' h test) m
  -- an instruction of the hart whose operations were performed: those that pass are taken in
  pub retired : (t t' : Trace) (r : Retired) (new : List Op) (test : Op → Bool) (m : Option Op) → WellKinded t
      → AddInsn t t' r new → ((v : Op) → Contains new v → IsPlaced v)
      → IsLatestIfAny (IsMarked t r.hart test) m → IsLatestIfAny (IsMarked t' r.hart test)
      (latest_from m (filter test new))
  -- another
  pub other : (t t' : Trace) (r : Retired) (new : List Op) (h : ℕ) (test : Op → Bool) (m : Option Op) → WellKinded t
      → AddInsn t t' r new → (r.hart ≢ h) ⊎ ((v : Op) → Contains new v → v.place ≡ None)
      → IsLatestIfAny (IsMarked t h test) m → IsLatestIfAny (IsMarked t' h test) m
  -- a part of a store of the hart that passes is performed
  pub performed : (t t' : Trace) (o n : Op) (rest : Option Op) (test : Op → Bool) (m : Option Op)
      → PerformsPart t t' o n rest → test n ≡ true
      → IsLatestIfAny (IsMarked t n.name.hart test) m → IsLatestIfAny (IsMarked t' n.name.hart test) (later m n)
  -- a part of another hart, or one that doesn't pass
  pub passed : (t t' : Trace) (o n : Op) (rest : Option Op) (h : ℕ) (test : Op → Bool) (m : Option Op)
      → PerformsPart t t' o n rest → (n.name.hart ≢ h) ⊎ (test n ≡ false)
      → IsLatestIfAny (IsMarked t h test) m → IsLatestIfAny (IsMarked t' h test) m

-- the latest performed operation that a FENCE of an order is after, through each growth
pub record FencedMarks : Type 0 where
  pub nothing : (t t' : Trace) (h : ℕ) (c d : Class) (m : Option Op) → Same t t'
      → IsLatestIfAny (IsFenced t h c d) m → IsLatestIfAny (IsFenced t' h c d) m
  pub early : (t t' : Trace) (e : Op) (h : ℕ) (c d : Class) (m : Option Op) → AddEarly t t' e
      → IsLatestIfAny (IsFenced t h c d) m → IsLatestIfAny (IsFenced t' h c d) m
  -- a FENCE of the order: the mark is what that of its class has come to
  pub fence : (t t' : Trace) (r : Retired) (new : List Op) (c d : Class) (run : Option Op) → WellKinded t
      → AddInsn t t' r new → class_orders c d r.insn ≡ true → new ≡ []
      → IsLatestIfAny (IsMarked t r.hart (λ v. kind_in c v.kind)) run → IsLatestIfAny (IsFenced t' r.hart c d) run
  -- any other instruction
  pub other : (t t' : Trace) (r : Retired) (new : List Op) (h : ℕ) (c d : Class) (m : Option Op) → WellKinded t
      → AddInsn t t' r new → (r.hart ≢ h) ⊎ (class_orders c d r.insn ≡ false)
      → IsLatestIfAny (IsFenced t h c d) m → IsLatestIfAny (IsFenced t' h c d) m
  -- a part of a store of the hart that such a FENCE is after, is performed
  pub performed : (t t' : Trace) (o n : Op) (rest : Option Op) (c d : Class) (m : Option Op)
      → PerformsPart t t' o n rest → kind_in c n.kind ≡ true → FenceAfter t n.name.hart c d n.name.tag
      → IsLatestIfAny (IsFenced t n.name.hart c d) m → IsLatestIfAny (IsFenced t' n.name.hart c d) (later m n)
  -- a part of another hart, or one that no such FENCE is after
  pub passed : (t t' : Trace) (o n : Op) (rest : Option Op) (h : ℕ) (c d : Class) (m : Option Op)
      → PerformsPart t t' o n rest
      → (n.name.hart ≢ h) ⊎ (kind_in c n.kind ≡ false) ⊎ (FenceAfter t h c d n.name.tag → ⊥)
      → IsLatestIfAny (IsFenced t h c d) m → IsLatestIfAny (IsFenced t' h c d) m

-- a FENCE of an order is after a tag exactly where the tag is below that of the latest such FENCE
abbrev pub FencesByTag : Type 0
FencesByTag = (t : Trace) (h : ℕ) (c d : Class) (fence : Option ℕ) (tag : ℕ) → IsLatestFence t h c d fence
    → FenceAfter t h c d tag ↔ IsUnderTag tag fence
