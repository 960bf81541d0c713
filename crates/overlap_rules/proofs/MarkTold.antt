-- How marks tell of operations of a trace.
use Rattle.std.proofs.Common.{ℕ, zero, suc, ◌<◌, ◌≡◌, ◌≢◌, ◌⊎◌, inl, inr, Bool, true, false, cond, Option, Some, None}
use Rattle.std.proofs.Common.{option_map, refl, sym, ap, subst, ◌∙◌, arith}
use Rattle.std.specs.List.{Contains}
use Rattle.std.proofs.lemmas.List.Elements.{Contains-append_left}
use Rattle.tandem_base.specs.declared.mark.Mark.{Mark}
use Rattle.tandem_base.specs.declared.names.Place.{Place}
use Rattle.tandem_base.specs.declared.names.Position.{Position}
use Rattle.tandem_base.specs.Places.{comes_before}
use Rattle.rvwmo_model.specs.declared.operations.Op.{Op}
use Rattle.rvwmo_model.specs.declared.traces.Trace.{Trace}
use Rattle.rvwmo_model.specs.Order.{Standing, stands_before, standing, precedes}
use Rattle.growth_laws.proofs.Places.{place_cases}
use Rattle.window_laws.specs.Latest.{IsLatestIfAny}
use Rattle.window_laws.specs.Tables.{untimed, ArePositioned}
use Rattle.window_laws.proofs.Latests.{latest_same}
use Rattle.window_laws.proofs.Placed.{by_place}
use Rattle.rule_laws.specs.Above.{Over, if_over, later_of}
use Rattle.rule_laws.proofs.LatestOver.{mark_either, mark_kept}
use Rattle.overlap_rules.specs.Found.{IsMarkOf, TellsOp, MarksLatest, MarksLatestOver, later_found, found_over}
use Rattle.overlap_rules.specs.Found.{latest_found}

-- the place of an operation, as its mark has it
pub marked_place : (t : Trace) (v : Op) (m : Mark) → IsMarkOf t v m
    → (p : Place) × (v.place ≡ Some p) × (m.place ≡ untimed p)
marked_place t v m h = elim (place_cases v) [
  | inl p ↦ (p.0, p.1, (let e : Some m.place ≡ Some (untimed p.0) = h.place ∙ ap (option_map untimed) p.1 in cc))
  | inr e ↦ absurd (let c : Some m.place ≡ None = h.place ∙ ap (option_map untimed) e in cc)
]

-- what a longer trace has is told in it
pub marked_on : (t t' : Trace) (v : Op) (m : Mark) → ((o : Op) → Contains t.ops o → Contains t'.ops o) → IsMarkOf t v m
    → IsMarkOf t' v m
marked_on t t' v m on h = record { here = on v h.here; name = h.name; place = h.place }

-- marks compare as their operations
pub same_order : (t : Trace) (v w : Op) (m n : Mark) → ArePositioned t → IsMarkOf t v m → IsMarkOf t w n
    → precedes v w ≡ comes_before m.place n.place
same_order t v w m n order a b =
    let p = marked_place t v m a in
    let q = marked_place t w n b in
    by_place v w p.0 q.0 p.1 q.1
    ∙ order v w p.0 q.0 (Contains-append_left t.ops t.early v a.here)
    (Contains-append_left t.ops t.early w b.here) p.1 q.1
    ∙ ap (λ (x : Position). comes_before x (untimed q.0)) (sym p.2)
    ∙ ap (comes_before m.place) (sym q.2)

-- ---- the latest

pub told_same : (t : Trace) (P Q : Op → Type 0) (m : Option Mark) → ((v : Op) → P v → Q v) → ((v : Op) → Q v → P v)
    → MarksLatest t P m → MarksLatest t Q m
told_same t P Q m on back h = record { op = h.op; latest = latest_same P Q h.op on back h.latest; told = h.told }

pub none_told : (t : Trace) (P : Op → Type 0) → ((v : Op) → P v → ⊥) → MarksLatest t P None
none_told t P none = record { op = None; latest = none; told = tt }

split_below : (k n : ℕ) → k < suc n → (k ≡ n) ⊎ (k < n)
split_below k n l = elim (apart k n) [ inl e ↦ inl e | inr d ↦ inr (omega (arith, l, d)) ]
  where
    apart : (a b : ℕ) → (a ≡ b) ⊎ (a ≢ b)
    apart a b = grind arith

-- the traces before an instruction and with it, in which places compare as tables compare them
module _ (t t' : Trace) (on : (o : Op) → Contains t.ops o → Contains t'.ops o) (order : ArePositioned t') where
  pub later_told : (v w : Option Op) (m n : Option Mark) → TellsOp t v m → TellsOp t w n
      → TellsOp t (later_of v w) (later_found m n)
  later_told None None None None a b = tt
  later_told None None None (Some n) a b = absurd b
  later_told None None (Some m) n a b = absurd a
  later_told None (Some w) None None a b = absurd b
  later_told None (Some w) None (Some n) a b = b
  later_told None (Some w) (Some m) n a b = absurd a
  later_told (Some v) None None n a b = absurd a
  later_told (Some v) None (Some m) None a b = a
  later_told (Some v) None (Some m) (Some n) a b = absurd b
  later_told (Some v) (Some w) None n a b = absurd a
  later_told (Some v) (Some w) (Some m) None a b = absurd b
  later_told (Some v) (Some w) (Some m) (Some n) a b =
      subst (λ (z : Bool). TellsOp t (cond (precedes v w) (Some w) (Some v)) (cond z (Some n) (Some m)))
      (same_order t' v w m n order (marked_on t t' v m on a) (marked_on t t' w n on b)) (at (precedes v w))
    where
      at : (z : Bool) → TellsOp t (cond z (Some w) (Some v)) (cond z (Some n) (Some m))
      at true = b
      at false = a

  pub either_told : (P Q : Op → Type 0) (m n : Option Mark) → MarksLatest t P m → MarksLatest t Q n
      → MarksLatest t (λ v. P v ⊎ Q v) (later_found m n)
  either_told P Q m n a b = record {
    op = later_of a.op b.op;
    latest = mark_either P Q a.op b.op a.latest b.latest;
    told = later_told a.op b.op m n a.told b.told;
  }

  pub bytes_told : (P : ℕ → Op → Type 0) (answer : ℕ → Option Mark) (n : ℕ)
      → ((k : ℕ) → k < n → MarksLatest t (P k) (answer k))
      → MarksLatest t (λ v. (k : ℕ) × (k < n) × P k v) (latest_found answer n)
  bytes_told P answer zero h = none_told t (λ v. (k : ℕ) × (k < zero) × P k v)
      (λ v p. let l : p.0 < 0 = p.1 in absurd (omega (arith, l)))
  bytes_told P answer (suc n) h =
      told_same t (λ v. ((k : ℕ) × (k < n) × P k v) ⊎ P n v) (λ v. (k : ℕ) × (k < suc n) × P k v)
      (later_found (latest_found answer n) (answer n))
      (λ v d. elim d [
        | inl p ↦ (p.0, (let l : p.0 < n = p.1 in omega (arith, l)), p.2)
        | inr q ↦ (n, omega arith, q)
      ])
      (λ v d. elim (split_below d.0 n d.1) [
        | inl e ↦ inr (subst (λ (j : ℕ). P j v) e d.2)
        | inr l ↦ inl (d.0, l, d.2)
      ])
      (either_told (λ v. (k : ℕ) × (k < n) × P k v) (P n) (latest_found answer n) (answer n)
      (bytes_told P answer n (λ k l. h k (omega (arith, l)))) (h n (omega arith)))

  -- where b was performed at the place
  module _ (b : Op) (mark : Mark) (is : IsMarkOf t' b mark) where
    over_op : (v : Option Op) (m : Option Mark) → TellsOp t v m
        → TellsOp t (if_over (standing b) v) (found_over mark.place m)
    over_op None None a = tt
    over_op None (Some m) a = absurd a
    over_op (Some v) None a = absurd a
    over_op (Some v) (Some m) a =
        subst (λ (z : Bool). TellsOp t (cond (precedes b v) (Some v) None) (cond z (Some m) None))
        (same_order t' b v mark m order is (marked_on t t' v m on a)) (at (precedes b v))
      where
        at : (z : Bool) → TellsOp t (cond z (Some v) None) (cond z (Some m) None)
        at true = a
        at false = tt

    -- a mark that is right after q is right after b, which isn't before it
    pub over_told : (P : Op → Type 0) (q : Standing) (m : Option Mark) → stands_before (standing b) q ≡ false
        → MarksLatestOver t P q m → MarksLatest t (Over P (standing b)) (found_over mark.place m)
    over_told P q m below h = record {
      op = if_over (standing b) h.op;
      latest = mark_kept P h.op q (standing b) below h.latest;
      told = over_op h.op m h.told;
    }

-- ---- the name

names_op : (t : Trace) (v : Option Op) (m : Option Mark) → TellsOp t v m
    → option_map (λ x. x.name) m ≡ option_map (λ o. o.name) v
names_op t None None a = refl
names_op t None (Some m) a = absurd a
names_op t (Some v) None a = absurd a
names_op t (Some v) (Some m) a = let e : m.name ≡ v.name = a.name in cc

-- the name of the latest
pub named_latest : (t : Trace) (P : Op → Type 0) (m : Option Mark) → MarksLatest t P m
    → (first : Option Op) × IsLatestIfAny P first × (option_map (λ x. x.name) m ≡ option_map (λ o. o.name) first)
named_latest t P m h = (h.op, h.latest, names_op t h.op m h.told)
