-- What it means that a test finds no fault.
use Rattle.std.proofs.Common.{ℕ, zero, suc, ◌+◌, ◌<◌, ◌≤◌, ◌≡◌, ◌↔◌, Bool, true, false, cond, not, ltb, leb, eqb}
use Rattle.std.proofs.Common.{nat_eq}
use Rattle.std.proofs.Common.{Option, Some, None, refl, sym, ap, subst, inl, inr, arith}
use Rattle.std.proofs.lemmas.Bool.{false≢true, cases_Bool, ltb-true, lt-ltb, ltb-false, leb-true}
use Rattle.std.proofs.lemmas.Bool.{leb-false, eqb-true, eq-eqb, not-false, both_ways}
use Rattle.std.specs.Option.{option_or, option_eq}
use Rattle.tandem_base.specs.FirstFault.{◌or_else◌}
use Rattle.matching.specs.Searches.{first_below}
use Rattle.matching.specs.Pieces.{first_other}

-- ---- tests

pub passes : {X : Type 0} (b : Bool) (x : X) → (cond b None (Some x) ≡ None) ↔ (b ≡ true)
passes true x = ((λ e. refl), λ e. refl)
passes false x = ((λ e. absurd (cc)), λ e. absurd (false≢true e))

pub fails : {X : Type 0} (b : Bool) (x : X) → (cond b (Some x) None ≡ None) ↔ (b ≡ false)
fails true x = ((λ e. absurd (cc)), λ e. absurd (false≢true (sym e)))
fails false x = ((λ e. refl), λ e. refl)

pub both : {X : Type 0} (a b : Option X) (P Q : Type 0) → (a ≡ None) ↔ P → (b ≡ None) ↔ Q
    → ((a or_else b) ≡ None) ↔ (P × Q)
both None b P Q p q = ((λ e. (p.0 refl, q.0 e)), λ h. q.1 h.1)
both (Some x) b P Q p q = ((λ e. absurd (cc)), λ h. absurd (let e = p.1 h.0 in cc))

pub then : (A B C : Type 0) → A ↔ B → B ↔ C → A ↔ C
then A B C p q = ((λ a. q.0 (p.0 a)), λ c. p.1 (q.1 c))

-- ---- numbers

pub not_below : (a b : ℕ) → (ltb a b ≡ false) ↔ (b ≤ a)
not_below a b = ((λ e. ltb-false a b e), λ l. at (ltb a b) refl l)
  where
    at : (c : Bool) → ltb a b ≡ c → b ≤ a → c ≡ false
    at true q l = absurd (let m = ltb-true a b q in omega arith)
    at false q l = refl

pub is_below : (a b : ℕ) → (ltb a b ≡ true) ↔ (a < b)
is_below a b = ((λ e. ltb-true a b e), λ l. lt-ltb a b l)

pub above : (a b : ℕ) → (leb a b ≡ false) ↔ (ltb b a ≡ true)
above a b = ((λ e. lt-ltb b a (leb-false a b e)), λ e. at (leb a b) refl e)
  where
    at : (c : Bool) → leb a b ≡ c → ltb b a ≡ true → c ≡ false
    at true q e = absurd (let m = leb-true a b q in let n = ltb-true b a e in omega arith)
    at false q e = refl

pub same_number : (a b : ℕ) → (eqb a b ≡ true) ↔ (a ≡ b)
same_number a b = ((λ e. eqb-true a b e), λ e. eq-eqb a b e)

pub same_option : (a b : Option ℕ) → (option_eq nat_eq a b ≡ true) ↔ (a ≡ b)
same_option None None = ((λ e. refl), λ e. refl)
same_option None (Some b) = ((λ e. absurd (false≢true e)), λ e. absurd (cc))
same_option (Some a) None = ((λ e. absurd (false≢true e)), λ e. absurd (cc))
same_option (Some a) (Some b) = (
  (λ e. ap (λ (n : ℕ). Some n) (eqb-true a b e)),
  λ e. let s : a ≡ b = cc in eq-eqb a b s,
)

-- ---- searches

pub none_below : (p : ℕ → Bool) (n : ℕ) → (first_below p n ≡ None) ↔ ((k : ℕ) → k < n → p k ≡ false)
none_below p zero = ((λ e k l. absurd (omega (arith, l))), λ h. refl)
none_below p (suc n) = (on (first_below p n) refl (p n) refl (none_below p n), back (none_below p n))
  where
    on : (o : Option ℕ) → first_below p n ≡ o → (b : Bool) → p n ≡ b
        → (first_below p n ≡ None) ↔ ((k : ℕ) → k < n → p k ≡ false) → option_or o (cond b (Some n) None) ≡ None
        → (k : ℕ) → k < suc n → p k ≡ false
    on (Some m) d b f rec e = absurd (cc)
    on None d true f rec e = absurd (cc)
    on None d false f rec e = λ k l. elim (cases_Bool (eqb k n)) [
      | inl q ↦ subst (λ (z : ℕ). p z ≡ false) (sym (eqb-true k n q)) f
      | inr q ↦ rec.0 d k (other k l q)
    ]
      where
        other : (k : ℕ) → k < suc n → eqb k n ≡ false → k < n
        other k l q = elim (cases_Bool (ltb k n)) [
          | inl j ↦ ltb-true k n j
          | inr j ↦ let m = ltb-false k n j in
              absurd (both_ways (eqb k n) q (eq-eqb k n (let s : k ≡ n = omega (arith, m, l) in s)))
        ]

    back : (first_below p n ≡ None) ↔ ((k : ℕ) → k < n → p k ≡ false) → ((k : ℕ) → k < suc n → p k ≡ false)
        → option_or (first_below p n) (cond (p n) (Some n) None) ≡ None
    back rec h = rw (rec.1 (λ k l. h k (omega arith)), h n (omega arith)) refl

-- two lists of bytes don't differ
pub none_other : (want got : ℕ → Option ℕ) (base n : ℕ) → (first_other want got base n ≡ None)
    ↔ ((k : ℕ) → k < n → want (base + k) ≡ got (base + k))
none_other want got base n = (
  (λ e k l. (same_option (want (base + k)) (got (base + k))).0
      (not-false (option_eq nat_eq (want (base + k)) (got (base + k)))
      ((none_below (λ j. not (option_eq nat_eq (want (base + j)) (got (base + j)))) n).0 e k l))),
  λ h. (none_below (λ j. not (option_eq nat_eq (want (base + j)) (got (base + j)))) n).1
      (λ k l. ap not ((same_option (want (base + k)) (got (base + k))).1 (h k l))),
)
