-- Laws of what marks answer for an instruction that retires, rule by rule.
use Rattle.std.specs.Prelude.{ℕ, ◌≤◌, ◌≡◌, Bool, List, Option, None, true, false, if◌then◌else◌}
use Rattle.std.specs.List.{Contains}
use Rattle.rvwmo_model.specs.declared.instructions.Retired.{Retired}
use Rattle.rvwmo_model.specs.declared.operations.Op.{Op}
use Rattle.rvwmo_model.specs.declared.preserved.Rule.TheVariants.{R1, R2, R3, R4, R5, R6, R7, R12}
use Rattle.rvwmo_model.specs.declared.traces.Trace.{Trace}
use Rattle.rvwmo_model.specs.Order.{Standing, stands_before, standing, precedes, has_byte, reads, writes}
use Rattle.rvwmo_model.specs.Sources.{source, origin}
use Rattle.rvwmo_model.specs.Annotations.{is_annotated, has_rcsc}
use Rattle.rvwmo_model.specs.Rules.{Broken}
use Rattle.rvwmo_model.specs.Report.{IsLatest}
use Rattle.rvwmo_model.specs.Legal.{Legal}
use Rattle.growth_laws.specs.Kinds.{WellKinded}
use Rattle.window_laws.specs.Latest.{IsLatestIfAny, first_there}
use Rattle.rule_laws.specs.Above.{Over, if_over, later_of, latest_of_bytes}
use Rattle.rule_laws.specs.Own.{IsOwn, IsOwnPerformed, IsOwnWaiting}
use Rattle.rule_laws.specs.Fences.{Class, storing, kind_in, FenceAfter, fenced_by}
use Rattle.rule_laws.specs.TwoMarks.{LoadsLast, TwoMarks, other_mark}
use Rattle.rule_laws.specs.Sourced.{IsOwnStored, atomic_over, LeadsTo, lead_over}
use Rattle.rule_laws.specs.MarkedOps.{IsMarked, IsFenced}
use Rattle.rule_laws.specs.FirstLaws.{IsRetiredWith}

-- the list has the bytes that pass, and no other
pub record ListsBytes (test : ℕ → Bool) (xs : List ℕ) : Type 0 where
  pub all : (x : ℕ) → test x ≡ true → Contains xs x
  pub only : (x : ℕ) → Contains xs x → test x ≡ true

-- v waits, and has one of the bytes
abbrev pub WaitsAt : Trace → ℕ → List ℕ → Op → Type 0
WaitsAt t h xs v = IsOwnWaiting t h v × ((x : ℕ) × Contains xs x × (has_byte x v ≡ true))

-- v waits, and a FENCE after it orders stores before a class of b
abbrev pub WaitsFenced : Trace → Op → Op → Type 0
WaitsFenced t b v = IsOwnWaiting t b.name.hart v
    × ((d : Class) × (kind_in d b.kind ≡ true) × FenceAfter t b.name.hart storing d v.name.tag)

-- rules 1, 2, 3 and 12, by the marks and the source of each byte of b. Rules 1 and 12 ask that the trace before is
-- legal
pub record ByteAnswers : Type 0 where
  -- 1: a waiting operation that shares a byte, else for some byte the later of the last store and the last load
  pub rule1 : (initial : ℕ → ℕ) (t t' : Trace) (r : Retired) (b : Op) (xs : List ℕ) (waiting : Option Op)
      (stores loads : ℕ → Option Op) → WellKinded t → Legal initial t → IsRetiredWith t t' r b
      → ListsBytes (λ x. writes x b) xs → IsLatestIfAny (WaitsAt t b.name.hart xs) waiting
      → ((x : ℕ) → Contains xs x → IsLatestIfAny (Over (IsOwnStored t b.name.hart x) (standing b)) (stores x))
      → ((x : ℕ) → Contains xs x → IsLatestIfAny (Over (LoadsLast t b.name.hart x) (standing b)) (loads x))
      → IsLatestIfAny (λ v. Broken R1 t' v b)
      (first_there waiting (latest_of_bytes (λ x. later_of (stores x) (loads x)) xs))
  -- 2: for some byte the one of its two marks whose source isn't that of b. The marks are known after the standing q,
  -- which isn't after b
  pub rule2 : (t t' : Trace) (r : Retired) (b : Op) (q : Standing) (xs : List ℕ) (one two : ℕ → Option Op)
      → WellKinded t → IsRetiredWith t t' r b → stands_before (standing b) q ≡ false
      → ListsBytes (λ x. reads x b) xs
      → ((x : ℕ) → Contains xs x
      → TwoMarks (Over (LoadsLast t b.name.hart x) q) (λ v. origin t v x) (one x) (two x))
      → IsLatestIfAny (λ v. Broken R2 t' v b) (if_over (standing b)
      (latest_of_bytes (λ x. other_mark (λ v. origin t v x) (origin t' b x) (one x) (two x)) xs))
  -- 3: for some byte the source, where it is of an AMO or SC, and after b
  pub rule3 : (t t' : Trace) (r : Retired) (b : Op) (xs : List ℕ) → WellKinded t → IsRetiredWith t t' r b
      → ListsBytes (λ x. reads x b) xs
      → IsLatestIfAny (λ v. Broken R3 t' v b) (latest_of_bytes (λ x. atomic_over t' b (source t' b x)) xs)
  -- 12: for some byte what its source depends on, where the source is after b
  pub rule12 : (initial : ℕ → ℕ) (t t' : Trace) (r : Retired) (b : Op) (lead : Op → Option Op) (xs : List ℕ)
      → WellKinded t → Legal initial t → IsRetiredWith t t' r b → ListsBytes (λ x. reads x b) xs
      → ((v : Op) → IsOwn t b.name.hart v → precedes b v ≡ true
      → IsLatestIfAny (Over (LeadsTo t b.name.hart v.name.tag) (standing b)) (lead v))
      → IsLatestIfAny (λ v. Broken R12 t' v b) (latest_of_bytes (λ x. lead_over b lead (source t' b x)) xs)

-- rules 4 to 7, by the running marks of the hart
pub record RunningAnswers : Type 0 where
  -- 4: a waiting store that a FENCE orders, else the latest of the four marks of FENCEs that count for b
  pub rule4 : (t t' : Trace) (r : Retired) (b : Op) (waiting : Option Op) (marks : Class → Class → Option Op)
      → WellKinded t → IsRetiredWith t t' r b → IsLatestIfAny (WaitsFenced t b) waiting
      → ((c d : Class) → IsLatestIfAny (Over (IsFenced t b.name.hart c d) (standing b)) (marks c d))
      → IsLatestIfAny (λ v. Broken R4 t' v b) (first_there waiting (fenced_by marks b.kind))
  -- 5: the latest with an acquire annotation
  pub rule5 : (t t' : Trace) (r : Retired) (b : Op) (m : Option Op) → WellKinded t → IsRetiredWith t t' r b
      → IsLatestIfAny (Over (IsMarked t b.name.hart (λ v. is_annotated v.acquire)) (standing b)) m
      → IsLatestIfAny (λ v. Broken R5 t' v b) m
  -- 6: where b has a release annotation, a waiting store, else the latest that was performed
  pub rule6 : (t t' : Trace) (r : Retired) (b : Op) (waiting m : Option Op) → WellKinded t → IsRetiredWith t t' r b
      → IsLatestIfAny (IsOwnWaiting t b.name.hart) waiting
      → IsLatestIfAny (Over (IsOwnPerformed t b.name.hart) (standing b)) m
      → IsLatestIfAny (λ v. Broken R6 t' v b) (if is_annotated b.release then first_there waiting m else None)
  -- 7: where b has an RCsc annotation, the latest with one
  pub rule7 : (t t' : Trace) (r : Retired) (b : Op) (m : Option Op) → WellKinded t → IsRetiredWith t t' r b
      → IsLatestIfAny (Over (IsMarked t b.name.hart has_rcsc) (standing b)) m
      → IsLatestIfAny (λ v. Broken R7 t' v b) (if has_rcsc b then m else None)

-- a mark that is known after the oldest place that matters, or after any standing p, answers what is asked after each
-- standing q that p isn't after
pub record MarksReach : Type 0 where
  pub running : (t : Trace) (h : ℕ) (test : Op → Bool) (p q : Standing) (m : Option Op) → stands_before q p ≡ false
      → IsLatestIfAny (Over (IsMarked t h test) p) (if_over p m)
      → IsLatestIfAny (Over (IsMarked t h test) q) (if_over q m)
  pub fenced : (t : Trace) (h : ℕ) (c d : Class) (p q : Standing) (m : Option Op) → stands_before q p ≡ false
      → IsLatestIfAny (Over (IsFenced t h c d) p) (if_over p m)
      → IsLatestIfAny (Over (IsFenced t h c d) q) (if_over q m)
  pub loads : (t : Trace) (h x : ℕ) (p q : Standing) (m : Option Op) → stands_before q p ≡ false
      → IsLatestIfAny (Over (LoadsLast t h x) p) (if_over p m)
      → IsLatestIfAny (Over (LoadsLast t h x) q) (if_over q m)
  pub two : (t : Trace) (h x : ℕ) (q : Standing) (one two : Option Op)
      → TwoMarks (LoadsLast t h x) (λ v. origin t v x) one two
      → TwoMarks (Over (LoadsLast t h x) q) (λ v. origin t v x) (if_over q one) (if_over q two)

-- of what waits of a hart, in each of three ways, the latest is the one of the greatest tag
pub record WaitingByTag : Type 0 where
  pub any : (t : Trace) (h : ℕ) (w : Op) → IsOwnWaiting t h w
      → ((u : Op) → IsOwnWaiting t h u → u.name.tag ≤ w.name.tag) → IsLatest (IsOwnWaiting t h) w
  pub at : (t : Trace) (h : ℕ) (xs : List ℕ) (w : Op) → WaitsAt t h xs w
      → ((u : Op) → WaitsAt t h xs u → u.name.tag ≤ w.name.tag) → IsLatest (WaitsAt t h xs) w
  pub fenced : (t : Trace) (b w : Op) → WaitsFenced t b w
      → ((u : Op) → WaitsFenced t b u → u.name.tag ≤ w.name.tag) → IsLatest (WaitsFenced t b) w
