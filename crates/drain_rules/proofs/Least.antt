-- Of answers the one that comes first.
use Rattle.std.proofs.Common.{ℕ, ◌<◌, ◌≡◌, ◌⊎◌, inl, inr, Bool, true, false, ◌&&◌, ◌||◌, eqb, ltb, cond, Option, Some}
use Rattle.std.proofs.Common.{None, refl, sym, ap, ◌∙◌, arith}
use Rattle.std.proofs.lemmas.Bool.{both_ways, false≢true}
use Rattle.std.proofs.lemmas.Bool.Decides.{nat_tests}
use Rattle.rvwmo_model.specs.Order.{named_before}
use Rattle.rvwmo_model.proofs.Orders.{name_self, name_asym, not_name_trans}
use Rattle.drain_rules.specs.declared.worst.Worst.{Worst}
use Rattle.drain_rules.specs.Answers.{drain_number, is_lesser, lesser_of, IsLeastOf}

abbrev key : ℕ → ℕ → Bool → Bool
key a b x = ltb a b || (eqb a b && x)

key_self : (a : ℕ) → key a a false ≡ false
key_self a = grind (arith, nat_tests)

key_trans : (a b c : ℕ) (x y z : Bool) → (x ≡ false → y ≡ false → z ≡ false) → key a b x ≡ false
    → key b c y ≡ false → key a c z ≡ false
key_trans a b c x y false h p q = grind (arith, nat_tests)
key_trans a b c true y true h p q = grind (arith, nat_tests)
key_trans a b c false true true h p q = grind (arith, nat_tests)
key_trans a b c false false true h p q = absurd (false≢true (sym (h refl refl)))

key_asym : (a b : ℕ) (x y : Bool) → (x ≡ true → y ≡ false) → key a b x ≡ true → key b a y ≡ false
key_asym a b x false h p = grind (arith, nat_tests)
key_asym a b false true h p = grind (arith, nat_tests)
key_asym a b true true h p = absurd (false≢true (sym (h refl)))

-- answers of one rule and one second operation
pub lesser_same : (v w : Worst) → v.rule ≡ w.rule → v.second ≡ w.second → is_lesser v w ≡ false
lesser_same v w e f =
    ap (λ (n : _). key (drain_number v.rule) (drain_number w.rule) (named_before v.second n)) (sym f)
    ∙ ap (λ (k : _). key (drain_number v.rule) (drain_number k) (named_before v.second v.second)) (sym e)
    ∙ ap (λ (x : Bool). key (drain_number v.rule) (drain_number v.rule) x) (name_self v.second)
    ∙ key_self (drain_number v.rule)

not_lesser_trans : (u v w : Worst) → is_lesser u v ≡ false → is_lesser v w ≡ false → is_lesser u w ≡ false
not_lesser_trans u v w p q =
    key_trans (drain_number u.rule) (drain_number v.rule) (drain_number w.rule) (named_before u.second v.second)
    (named_before v.second w.second) (named_before u.second w.second)
    (λ a b. not_name_trans u.second v.second w.second a b) p q

lesser_asym : (v w : Worst) → is_lesser v w ≡ true → is_lesser w v ≡ false
lesser_asym v w p =
    key_asym (drain_number v.rule) (drain_number w.rule) (named_before v.second w.second)
    (named_before w.second v.second) (λ a. name_asym v.second w.second a) p

-- the same answers
pub least_same : (P Q : Worst → Type 0) (o : Option Worst) → ((w : Worst) → P w → Q w) → ((w : Worst) → Q w → P w)
    → IsLeastOf P o → IsLeastOf Q o
least_same P Q None on back h = λ w q. h w (back w q)
least_same P Q (Some w) on back h = (on w h.0, λ v q. h.1 v (back v q))

-- those of both
pub least_both : (P Q : Worst → Type 0) (a b : Option Worst) → IsLeastOf P a → IsLeastOf Q b
    → IsLeastOf (λ w. P w ⊎ Q w) (lesser_of a b)
least_both P Q None b h k =
    least_same Q (λ w. P w ⊎ Q w) b (λ w q. inr q) (λ w o. elim o [ inl p ↦ absurd (h w p) | inr q ↦ q ]) k
least_both P Q (Some v) None h k =
    (inl h.0, λ u o. elim o [ inl p ↦ h.1 u p | inr q ↦ absurd (k u q) ])
least_both P Q (Some v) (Some w) h k = at (is_lesser w v) refl
  where
    at : (c : Bool) → is_lesser w v ≡ c → IsLeastOf (λ u. P u ⊎ Q u) (cond c (Some w) (Some v))
    at true e = (
      inr k.0,
      λ u o. elim o [
        | inl p ↦ not_lesser_trans u v w (h.1 u p) (lesser_asym w v e)
        | inr q ↦ k.1 u q
      ],
    )
    at false e = (
      inl h.0,
      λ u o. elim o [ inl p ↦ h.1 u p | inr q ↦ not_lesser_trans u w v (k.1 u q) e ],
    )
