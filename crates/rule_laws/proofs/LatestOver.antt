-- How the latest of some operations answers, and how it changes.
use Rattle.std.proofs.Common.{ℕ, ◌≡◌, ◌⊎◌, inl, inr, Bool, true, false, List, [], ◌∷◌, cond, Option, Some, None}
use Rattle.std.proofs.Common.{refl, sym, ap, subst, ◌∙◌}
use Rattle.std.specs.List.{Contains, filter}
use Rattle.std.proofs.lemmas.Bool.{false≢true, both_ways, cases_Bool}
use Rattle.rvwmo_model.specs.declared.operations.Op.{Op}
use Rattle.rvwmo_model.specs.Order.{Standing, stands_before, standing, precedes}
use Rattle.rvwmo_model.specs.Sources.{later, latest_from}
use Rattle.rvwmo_model.specs.InForm.{IsPlaced}
use Rattle.rvwmo_model.proofs.Membership.{nothing_in, first_in, tail_in, in_cases}
use Rattle.rvwmo_model.proofs.Orders.{before_self, not_before_trans, before_asym, before_trans}
use Rattle.growth_laws.proofs.Places.{place_cases, unplaced_after}
use Rattle.window_laws.specs.Latest.{IsLatestIfAny, first_there}
use Rattle.window_laws.proofs.Latests.{latest_same, latest_beyond}
use Rattle.rule_laws.specs.Above.{Over, if_over, later_of, latest_of_bytes}

-- the mark answers for all: where it doesn't come after a standing, none of them does
pub mark_over : (P : Op → Type 0) (m : Option Op) (q : Standing) → IsLatestIfAny P m → IsLatestIfAny (Over P q)
    (if_over q m)
mark_over P None q h = λ v p. h v p.0
mark_over P (Some m) q h = at (stands_before q (standing m)) refl
  where
    at : (c : Bool) → stands_before q (standing m) ≡ c → IsLatestIfAny (Over P q) (cond c (Some m) None)
    at true e = record { here = (h.here, e); latest = λ u p. h.latest u p.0 }
    at false e = λ v p. both_ways _ (not_before_trans q (standing m) (standing v) e (h.latest v p.0)) p.1

-- one more
pub mark_more : (P Q : Op → Type 0) (m : Option Op) (n : Op) → ((v : Op) → P v → Q v) → Q n
    → ((v : Op) → Q v → (v ≡ n) ⊎ P v) → IsLatestIfAny P m → IsLatestIfAny Q (later m n)
mark_more P Q None n on new back h = record {
  here = new;
  latest = λ u q. elim (back u q) [
    | inl e ↦ subst (λ (z : Op). precedes n z ≡ false) (sym e)
        (before_self (standing n))
    | inr p ↦ absurd (h u p)
  ];
}
mark_more P Q (Some m) n on new back h = at (precedes m n) refl
  where
    at : (c : Bool) → precedes m n ≡ c → IsLatestIfAny Q (cond c (Some n) (Some m))
    at true e = record {
      here = new;
      latest = λ u q. elim (back u q) [
        | inl d ↦ subst (λ (z : Op). precedes n z ≡ false) (sym d) (before_self (standing n))
        | inr p ↦ not_before_trans (standing n) (standing m) (standing u) (before_asym (standing m) (standing n) e)
            (h.latest u p)
      ];
    }
    at false e = record {
      here = on m h.here;
      latest = λ u q. elim (back u q) [
        | inl d ↦ subst (λ (z : Op). precedes m z ≡ false)
            (sym d) e
        | inr p ↦ h.latest u p
      ];
    }

-- two properties
pub mark_either : (P Q : Op → Type 0) (m n : Option Op) → IsLatestIfAny P m → IsLatestIfAny Q n → IsLatestIfAny
    (λ v. P v ⊎ Q v) (later_of m n)
mark_either P Q m None h k = latest_same P (λ v. P v ⊎ Q v) m (λ v p. inl p)
    (λ v e. elim e [ inl p ↦ p | inr q ↦ absurd (k v q) ]) h
mark_either P Q None (Some n) h k = record {
  here = inr k.here;
  latest = λ u e.
      elim e [ inl p ↦ absurd (h u p) | inr q ↦ k.latest u q ];
}
mark_either P Q (Some m) (Some n) h k = at (precedes m n) refl
  where
    at : (c : Bool) → precedes m n ≡ c → IsLatestIfAny (λ v. P v ⊎ Q v) (cond c (Some n) (Some m))
    at true e = record {
      here = inr k.here;
      latest = λ u d. elim d [
        | inl p ↦ not_before_trans (standing n) (standing m) (standing u)
            (before_asym (standing m) (standing n) e) (h.latest u p)
        | inr q ↦ k.latest u q
      ];
    }
    at false e = record {
      here = inl h.here;
      latest = λ u d. elim d [
        | inl p ↦ h.latest u p
        | inr q ↦ not_before_trans (standing m) (standing n) (standing u) e
            (k.latest u q)
      ];
    }

-- what is not performed comes after all that is
pub mark_first : (P : Op → Type 0) (w g : Option Op) → IsLatestIfAny (λ v. P v × (v.place ≡ None)) w
    → (w ≡ None → IsLatestIfAny (λ v. P v × IsPlaced v) g) → IsLatestIfAny P (first_there w g)
mark_first P w g h k = latest_beyond P (λ v. P v × (v.place ≡ None)) (λ v. P v × IsPlaced v) w g (λ v p. p.0)
    (λ v p. p.0)
    (λ v p. elim (place_cases v) [ inl q ↦ inr (p, q) | inr e ↦ inl (p, e) ])
    (λ u v p q. unplaced_after u v p.1 q.1) h k

-- the members of a list that pass a test, one after the other
pub mark_list : (P : Op → Type 0) (q : Op → Bool) (xs : List Op) (m : Option Op) → IsLatestIfAny P m → IsLatestIfAny
    (λ v. P v ⊎ (Contains xs v × (q v ≡ true))) (latest_from m (filter q xs))
mark_list P q [] m h = latest_same P (λ v. P v ⊎ (Contains [] v × (q v ≡ true))) m (λ v p. inl p)
    (λ v e. elim e [ inl p ↦ p | inr i ↦ absurd (nothing_in v i.0) ]) h
mark_list P q (x ∷ xs) m h = at (q x) refl (λ R n. mark_list R q xs n)
  where
    at : (c : Bool) → q x ≡ c → ((R : Op → Type 0) (n : Option Op) → IsLatestIfAny R n → IsLatestIfAny
        (λ v. R v ⊎ (Contains xs v × (q v ≡ true))) (latest_from n (filter q xs)))
        → IsLatestIfAny (λ v. P v ⊎ (Contains (x ∷ xs) v × (q v ≡ true)))
        (latest_from m (cond c (x ∷ filter q xs) (filter q xs)))
    at true e rec = latest_same (λ v. (P v ⊎ (v ≡ x)) ⊎ (Contains xs v × (q v ≡ true)))
        (λ v. P v ⊎ (Contains (x ∷ xs) v × (q v ≡ true))) (latest_from (later m x) (filter q xs))
        (λ v d. elim d [
          | inl c ↦ elim c [ inl p ↦ inl p | inr s ↦ inr (first_in x xs v s, ap q s ∙ e) ]
          | inr i ↦ inr
              (tail_in x xs v i.0, i.1)
        ])
        (λ v d. elim d [
          | inl p ↦ inl (inl p)
          | inr i ↦ elim
              (in_cases x xs v i.0) [ inl s ↦ inl (inr s) | inr j ↦ inr (j, i.1) ]
        ])
        (rec (λ v. P v ⊎ (v ≡ x)) (later m x) (mark_more P (λ v. P v ⊎ (v ≡ x)) m x (λ v p. inl p) (inr refl)
        (λ v d. elim d [ inl p ↦ inr p | inr s ↦ inl s ]) h))
    at false e rec = latest_same (λ v. P v ⊎ (Contains xs v × (q v ≡ true)))
        (λ v. P v ⊎ (Contains (x ∷ xs) v × (q v ≡ true))) (latest_from m (filter q xs))
        (λ v d. elim d [ inl p ↦ inl p | inr i ↦ inr (tail_in x xs v i.0, i.1) ])
        (λ v d. elim d [
          | inl p ↦ inl p
          | inr i ↦ elim (in_cases x xs v i.0)
              [ inl s ↦ absurd (both_ways _ e (sym (ap q s) ∙ i.1)) | inr j ↦ inr (j, i.1) ]
        ])
        (rec P m h)

-- a condition that doesn't speak of the operations
pub mark_if : (P : Op → Type 0) (z : Bool) (m : Option Op) → IsLatestIfAny P m → IsLatestIfAny (λ v. (z ≡ true) × P v)
    (cond z m None)
mark_if P true m h = latest_same P (λ v. (true ≡ true) × P v) m (λ v p. (refl, p)) (λ v p. p.1) h
mark_if P false m h = λ v p. false≢true p.0

-- ---- marks that are kept as far as they come after a standing p, that of the oldest place

-- what comes after a standing q that isn't before p comes after p
pub over_both : (p q r : Standing) → stands_before q p ≡ false → stands_before q r ≡ true → stands_before p r ≡ true
over_both p q r below e = elim (cases_Bool (stands_before p r))
    [ inl z ↦ z | inr z ↦ absurd (both_ways _ (not_before_trans q p r below z) e) ]

pub over_twice : (p q : Standing) (m : Option Op) → stands_before q p ≡ false → if_over q (if_over p m) ≡ if_over q m
over_twice p q None below = refl
over_twice p q (Some m) below = at (stands_before q (standing m)) refl (stands_before p (standing m)) refl
  where
    at : (b : Bool) → stands_before q (standing m) ≡ b → (c : Bool) → stands_before p (standing m) ≡ c → if_over q
        (cond c (Some m) None) ≡ cond b (Some m) None
    at b e true f = rw e refl
    at false e false f = refl
    at true e false f = absurd (both_ways _ f (over_both p q (standing m) below e))

-- a mark that is known after p answers all that asks after a later standing
pub mark_kept : (P : Op → Type 0) (m : Option Op) (p q : Standing) → stands_before q p ≡ false → IsLatestIfAny
    (Over P p) (if_over p m) → IsLatestIfAny (Over P q) (if_over q m)
mark_kept P m p q below h = subst (λ (o : Option Op). IsLatestIfAny (Over P q) o) (over_twice p q m below)
    (latest_same (Over (Over P p) q) (Over P q) (if_over q (if_over p m)) (λ v d. (d.0.0, d.1))
    (λ v d. ((d.0, over_both p q (standing v) below d.1), d.1)) (mark_over (Over P p) (if_over p m) q h))

-- one more: a stale mark, and a stale newcomer, do no harm
pub over_later : (q : Standing) (m : Option Op) (c : Op) → if_over q (later m c) ≡ cond (stands_before q (standing c))
    (later (if_over q m) c) (if_over q m)
over_later q None c = refl
over_later q (Some m) c = at (precedes m c) refl (stands_before q (standing m)) refl (stands_before q (standing c)) refl
  where
    at : (x : Bool) → precedes m c ≡ x → (y : Bool) → stands_before q (standing m) ≡ y → (z : Bool) → stands_before q
        (standing c) ≡ z → if_over q (cond x (Some c) (Some m)) ≡ cond z (later (cond y (Some m) None) c)
        (cond y (Some m) None)
    at true e true f true g = rw (g, e) refl
    at true e true f false g = absurd (both_ways _ g (before_trans q (standing m) (standing c) f e))
    at true e false f true g = rw g refl
    at true e false f false g = rw g refl
    at false e true f true g = rw (f, e) refl
    at false e true f false g = rw f refl
    at false e false f true g = absurd (both_ways _ (not_before_trans q (standing m) (standing c) f e) g)
    at false e false f false g = rw f refl

-- ---- several bytes

pub mark_over_bytes : (P : ℕ → Op → Type 0) (f : ℕ → Option Op) (xs : List ℕ)
    → ((x : ℕ) → Contains xs x → IsLatestIfAny (P x) (f x)) → IsLatestIfAny (λ v. (x : ℕ) × Contains xs x × P x v)
    (latest_of_bytes f xs)
mark_over_bytes P f [] h = λ v p. absurd (nothing_in p.0 p.1)
mark_over_bytes P f (x ∷ xs) h = latest_same (λ v. P x v ⊎ ((y : ℕ) × Contains xs y × P y v))
    (λ v. (y : ℕ) × Contains (x ∷ xs) y × P y v) (later_of (f x) (latest_of_bytes f xs))
    (λ v d. elim d [ inl p ↦ (x, first_in x xs x refl, p) | inr q ↦ (q.0, tail_in x xs q.0 q.1, q.2) ])
    (λ v d. elim (in_cases x xs d.0 d.1) [ inl e ↦ inl (subst (λ (y : ℕ). P y v) e d.2) | inr i ↦ inr (d.0, i, d.2) ])
    (mark_either (P x) (λ v. (y : ℕ) × Contains xs y × P y v) (f x) (latest_of_bytes f xs) (h x (first_in x xs x refl))
    (mark_over_bytes P f xs (λ y i. h y (tail_in x xs y i))))
