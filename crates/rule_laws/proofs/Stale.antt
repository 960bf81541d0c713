-- The two marks of a byte where stale ones are left in place.
use Rattle.std.proofs.Common.{◌≡◌, ◌⊎◌, inl, inr, Bool, true, false, cond, Option, Some, None, refl, sym, ap, subst}
use Rattle.std.proofs.Common.{◌∙◌}
use Rattle.std.proofs.lemmas.Bool.{both_ways, cases_Bool}
use Rattle.tandem_base.specs.declared.names.Origin.{Origin}
use Rattle.rvwmo_model.specs.declared.operations.Op.{Op}
use Rattle.rvwmo_model.specs.Order.{Standing, stands_before, standing, precedes}
use Rattle.rvwmo_model.specs.Sources.{later}
use Rattle.rvwmo_model.specs.Tests.{same_origin}
use Rattle.rvwmo_model.proofs.Orders.{not_before_trans, before_trans}
use Rattle.rule_laws.specs.Above.{Over, if_over}
use Rattle.rule_laws.specs.TwoMarks.{TwoMarks, second_mark}
use Rattle.rule_laws.proofs.LatestOver.{over_later}
use Rattle.rule_laws.proofs.TwoMarkLaws.{two_same, two_grow}

module _ (q : Standing) (key : Op → Option Origin) where
  -- a newcomer that is stale changes nothing
  more_stale : (one two : Option Op) (c : Op) → (if_over q one ≡ None → if_over q two ≡ None) → stands_before q
      (standing c) ≡ false → if_over q (second_mark key one two c) ≡ if_over q two
  more_stale None two c n e = sym (n refl)
  more_stale (Some a) two c n e = at (precedes a c) refl (same_origin (key a) (key c))
    where
      gone : precedes a c ≡ true → if_over q (Some a) ≡ None
      gone f = let d : stands_before q (standing a) ≡ false = elim
          (cases_Bool (stands_before q (standing a))) [
            | inr z ↦ z
            | inl z ↦ absurd
                (both_ways _ e (before_trans q (standing a) (standing c) z f))
          ] in rw d refl

      at : (z : Bool) → precedes a c ≡ z → (y : Bool) → if_over q
          (cond y two (cond z (Some a) (later two c))) ≡ if_over q two
      at true f true = refl
      at true f false = gone f ∙ sym (n (gone f))
      at false f true = refl
      at false f false = over_later q two c ∙ rw e refl

  -- and one that isn't is taken as if stale marks weren't there
  more_fresh : (one two : Option Op) (c : Op) → (if_over q one ≡ None → if_over q two ≡ None) → stands_before q
      (standing c) ≡ true → if_over q (second_mark key one two c) ≡ second_mark key (if_over q one) (if_over q two) c
  more_fresh None two c n e = refl
  more_fresh (Some a) two c n e = elim (cases_Bool (stands_before q (standing a))) [ inl d ↦ alive d | inr d ↦ dead d ]
    where
      alive : stands_before q (standing a) ≡ true → if_over q (second_mark key (Some a) two c) ≡ second_mark key
          (if_over q (Some a)) (if_over q two) c
      alive d = at (precedes a c) (same_origin (key a) (key c)) ∙ sym
          (ap (λ (o : Option Op). second_mark key o (if_over q two) c) is)
        where
          is : if_over q (Some a) ≡ Some a
          is = rw d refl

          at : (z y : Bool) → if_over q (cond y two (cond z (Some a) (later two c))) ≡ cond y (if_over q two)
              (cond z (Some a) (later (if_over q two) c))
          at true true = refl
          at true false = is
          at false true = refl
          at false false = over_later q two c ∙ rw e refl

      dead : stands_before q (standing a) ≡ false → if_over q (second_mark key (Some a) two c) ≡ second_mark key
          (if_over q (Some a)) (if_over q two) c
      dead d = at (precedes a c) refl (same_origin (key a) (key c)) ∙ sym
          (ap (λ (o : Option Op). second_mark key o (if_over q two) c) is)
        where
          is : if_over q (Some a) ≡ None
          is = rw d refl

          at : (z : Bool) → precedes a c ≡ z → (y : Bool) → if_over q
              (cond y two (cond z (Some a) (later two c))) ≡ None
          at true f true = n is
          at true f false = is
          at false f y = absurd (both_ways _ (not_before_trans q (standing a) (standing c) d f) e)

-- the table's two marks, known as far as they come after q, take one more
pub two_noted_over : (P Q : Op → Type 0) (key : Op → Option Origin) (q : Standing) (one two : Option Op) (c : Op)
    → ((v : Op) → P v → Q v) → Q c → ((v : Op) → Q v → (v ≡ c) ⊎ P v)
    → TwoMarks (Over P q) key (if_over q one) (if_over q two) → TwoMarks (Over Q q) key (if_over q (later one c))
    (if_over q (second_mark key one two c))
two_noted_over P Q key q one two c on new back h = at (stands_before q (standing c)) refl
  where
    put : (o w o' w' : Option Op) → o' ≡ o → w' ≡ w → TwoMarks (Over Q q) key o w → TwoMarks (Over Q q) key o' w'
    put o w o' w' e f = subst (λ (x : Option Op). TwoMarks (Over Q q) key o w → TwoMarks (Over Q q) key x w') (sym e)
        (subst (λ (x : Option Op). TwoMarks (Over Q q) key o w → TwoMarks (Over Q q) key o x) (sym f) (λ m. m))

    at : (z : Bool) → stands_before q (standing c) ≡ z → TwoMarks (Over Q q) key (if_over q (later one c))
        (if_over q (second_mark key one two c))
    at false e = put (if_over q one) (if_over q two) _ _ (over_later q one c ∙ rw e refl)
        (more_stale q key one two c h.neither e)
        (two_same (Over P q) (Over Q q) key key (if_over q one) (if_over q two) (λ v p. (on v p.0, p.1))
        (λ v p. (
          elim (back v p.0) [
            | inr y ↦ y
            | inl y ↦ absurd
                (both_ways _ e (subst (λ (z : Op). stands_before q (standing z) ≡ true) y p.1))
          ],
          p.1,
        )) (λ v p. refl) h)
    at true e = put (later (if_over q one) c) (second_mark key (if_over q one) (if_over q two) c) _ _
        (over_later q one c ∙ rw e refl) (more_fresh q key one two c h.neither e)
        (two_grow (Over P q) key (Over Q q) (if_over q one) (if_over q two) c (λ v p. (on v p.0, p.1)) (new, e)
        (λ v p. elim (back v p.0) [ inl y ↦ inl y | inr y ↦ inr (y, p.1) ]) h)
