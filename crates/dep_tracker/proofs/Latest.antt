-- The latest of what is meant.
use Rattle.std.proofs.Common.{◌≡◌, ◌⊎◌, inl, inr, Bool, true, false, Option, Some, None, refl, subst, arith, cond}
use Rattle.std.proofs.lemmas.Bool.Decides.{nat_tests}
use Rattle.tandem_base.specs.declared.mark.Mark.{Mark}
use Rattle.tandem_base.specs.declared.names.Position.{Position}
use Rattle.tandem_base.specs.Places.{comes_before}
use Rattle.dep_tracker.specs.Marks.{IsLatestMark}
use Rattle.dep_tracker.specs.Tables.{later_mark}

not_itself : (a : Position) → comes_before a a ≡ false
not_itself a = grind (arith, nat_tests)

not_after : (a b c : Position) → comes_before a b ≡ true → comes_before a c ≡ false → comes_before b c ≡ false
not_after a b c e f = grind (arith, nat_tests)

not_up : (a b c : Position) → comes_before a b ≡ false → comes_before b c ≡ false → comes_before a c ≡ false
not_up a b c e f = grind (arith, nat_tests)

-- the same marks are meant
pub same : (P Q : Mark → Type 0) → ((m : Mark) → P m → Q m) → ((m : Mark) → Q m → P m) → (o : Option Mark)
    → IsLatestMark P o → IsLatestMark Q o
same P Q to from None h = λ m q. h m (from m q)
same P Q to from (Some n) h = (to n h.0, λ m q. h.1 m (from m q))

-- one mark or none
pub one : (o : Option Mark) → IsLatestMark (λ m. o ≡ Some m) o
one None = λ m e. cc
one (Some n) = (
  refl,
  λ m e. (let f : n ≡ m = cc in
      subst (λ (z : Mark). comes_before n.place z.place ≡ false) f (not_itself n.place)),
)

-- the later of two is that of both
pub both : (P Q : Mark → Type 0) (a b : Option Mark) → IsLatestMark P a → IsLatestMark Q b
    → IsLatestMark (λ m. P m ⊎ Q m) (later_mark a b)
both P Q None None h k = λ m o. elim o [ inl p ↦ h m p | inr q ↦ k m q ]
both P Q None (Some n) h k = (inr k.0, λ m o. elim o [ inl p ↦ absurd (h m p) | inr q ↦ k.1 m q ])
both P Q (Some m) None h k = (inl h.0, λ n o. elim o [ inl p ↦ h.1 n p | inr q ↦ absurd (k n q) ])
both P Q (Some m) (Some n) h k = at (comes_before m.place n.place) refl
  where
    at : (b : Bool) → comes_before m.place n.place ≡ b
        → IsLatestMark (λ (z : Mark). P z ⊎ Q z) (cond b (Some n) (Some m))
    at true e = (
      inr k.0,
      λ z o. elim o [
        | inl p ↦ not_after m.place n.place z.place e (h.1 z p)
        | inr q ↦ k.1 z q
      ],
    )
    at false e = (
      inl h.0,
      λ z o. elim o [
        | inl p ↦ h.1 z p
        | inr q ↦ not_up m.place n.place z.place e (k.1 z q)
      ],
    )
