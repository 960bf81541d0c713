-- The two marks of a byte: how they answer, and how they change.
use Rattle.std.proofs.Common.{◌≡◌, ◌⊎◌, inl, inr, Bool, true, false, cond, Option, Some, None, refl, sym, ap, subst}
use Rattle.std.proofs.Common.{◌∙◌}
use Rattle.std.specs.Prelude.{◌≢◌}
use Rattle.std.proofs.lemmas.Bool.{both_ways}
use Rattle.tandem_base.specs.declared.names.Origin.{Origin}
use Rattle.rvwmo_model.specs.declared.operations.Op.{Op}
use Rattle.rvwmo_model.specs.Order.{Standing, stands_before, standing, precedes}
use Rattle.rvwmo_model.specs.Sources.{later}
use Rattle.rvwmo_model.specs.Tests.{same_origin}
use Rattle.rvwmo_model.proofs.Orders.{not_before_trans}
use Rattle.rvwmo_model.proofs.Tested.{same_origin_is}
use Rattle.window_laws.specs.Latest.{IsLatestIfAny}
use Rattle.window_laws.proofs.Latests.{latest_same}
use Rattle.rule_laws.specs.Above.{Over, if_over}
use Rattle.rule_laws.specs.TwoMarks.{TwoMarks, other_mark, second_mark}
use Rattle.rule_laws.proofs.LatestOver.{mark_more, mark_over}

same_yes : (m n : Option Origin) → same_origin m n ≡ true → m ≡ n
same_yes m n e = (same_origin_is m n).0 e

same_no : (m n : Option Origin) → same_origin m n ≡ false → m ≢ n
same_no m n e q = both_ways _ e ((same_origin_is m n).1 q)

module _ (P : Op → Type 0) (key : Op → Option Origin) where
  abbrev Other : Option Origin → Op → Type 0
  Other s v = P v × (key v ≢ s)

  -- the latest whose source isn't s
  pub two_answer : (one two : Option Op) (s : Option Origin) → TwoMarks P key one two → IsLatestIfAny
      (λ v. P v × (key v ≢ s)) (other_mark key s one two)
  two_answer None two s h = λ v p. h.first v p.0
  two_answer (Some a) two s h = at (same_origin (key a) s) refl
    where
      at : (z : Bool) → same_origin (key a) s ≡ z → IsLatestIfAny (Other s) (cond z two (Some a))
      at true e = let q = same_yes (key a) s e in subst (λ (o : Option Origin). IsLatestIfAny (Other o) two) q
          (h.second a refl)
      at false e = record { here = (h.first.here, same_no (key a) s e); latest = λ u p. h.first.latest u p.0 }

  -- one more
  pub two_grow : (Q : Op → Type 0) (one two : Option Op) (c : Op) → ((v : Op) → P v → Q v) → Q c
      → ((v : Op) → Q v → (v ≡ c) ⊎ P v) → TwoMarks P key one two → TwoMarks Q key (later one c)
      (second_mark key one two c)
  two_grow Q one two c on new back h = record {
    first = mark_more P Q one c on new back h.first;
    second = λ a e. second one two h a e;
    neither = λ e. absurd (some one e);
  }
    where
      some : (m : Option Op) → later m c ≡ None → ⊥
      some None e = cc
      some (Some m) e = at (precedes m c) e
        where
          at : (z : Bool) → cond z (Some c) (Some m) ≡ None → ⊥
          at true f = cc
          at false f = cc

      -- all with another source than c were there
      without : (s : Option Origin) → key c ≡ s → (m : Option Op) → IsLatestIfAny (λ v. P v × (key v ≢ s)) m
          → IsLatestIfAny (λ v. Q v × (key v ≢ s)) m
      without s e m = latest_same (λ v. P v × (key v ≢ s)) (λ v. Q v × (key v ≢ s)) m (λ v p. (on v p.0, p.1))
          (λ v p. elim (back v p.0) [ inl q ↦ absurd (p.1 (ap key q ∙ e)) | inr q ↦ (q, p.1) ])

      -- c is one of them
      within : (s : Option Origin) → key c ≢ s → (m : Option Op) → IsLatestIfAny (λ v. P v × (key v ≢ s)) m
          → IsLatestIfAny (λ v. Q v × (key v ≢ s)) (later m c)
      within s d m = mark_more (λ v. P v × (key v ≢ s)) (λ v. Q v × (key v ≢ s)) m c (λ v p. (on v p.0, p.1)) (new, d)
          (λ v p. elim (back v p.0) [ inl q ↦ inl q | inr q ↦ inr (q, p.1) ])

      second : (o w : Option Op) → TwoMarks P key o w → (a : Op) → later o c ≡ Some a → IsLatestIfAny
          (λ v. Q v × (key v ≢ key a)) (second_mark key o w c)
      second None w k a e =
          let same : c ≡ a = cc in
          λ v p. elim (back v p.0) [ inl q ↦ p.1 (ap key (q ∙ same)) | inr q ↦ k.first v q ]
      second (Some m) w k a e = at (precedes m c) refl e (same_origin (key m) (key c)) refl
        where
          at : (z : Bool) → precedes m c ≡ z → cond z (Some c) (Some m) ≡ Some a → (y : Bool) → same_origin (key m)
              (key c) ≡ y
              → IsLatestIfAny (λ v. Q v × (key v ≢ key a)) (cond y w (cond z (Some m) (later w c)))
          at true f g true d =
              let same : c ≡ a = cc in
              without (key a) (ap key same) w (subst (λ (s : Option Origin). IsLatestIfAny (λ v. P v × (key v ≢ s)) w)
              (same_yes (key m) (key c) d ∙ ap key same) (k.second m refl))
          at true f g false d =
              let same : c ≡ a = cc in
              without (key a) (ap key same) (Some m) (record {
                here =
                    (k.first.here, λ q. same_no (key m) (key c) d (q ∙ sym (ap key same)));
                latest = λ u p.
                    k.first.latest u p.0;
              })
          at false f g true d =
              let same : m ≡ a = cc in
              without (key a) (sym (same_yes (key m) (key c) d) ∙ ap key same) w
              (subst (λ (s : Option Origin). IsLatestIfAny (λ v. P v × (key v ≢ s)) w) (ap key same)
              (k.second m refl))
          at false f g false d =
              let same : m ≡ a = cc in
              within (key a) (λ q. same_no (key m) (key c) d (ap key same ∙ sym q)) w
              (subst (λ (s : Option Origin). IsLatestIfAny (λ v. P v × (key v ≢ s)) w) (ap key same)
              (k.second m refl))

-- nothing
pub two_none : (P : Op → Type 0) (key : Op → Option Origin) → ((v : Op) → P v → ⊥) → TwoMarks P key None None
two_none P key f = record { first = f; second = λ a e. absurd (cc); neither = λ e. refl }

-- the same property and the same sources
pub two_same : (P Q : Op → Type 0) (key key' : Op → Option Origin) (one two : Option Op) → ((v : Op) → P v → Q v)
    → ((v : Op) → Q v → P v) → ((v : Op) → P v → key' v ≡ key v) → TwoMarks P key one two → TwoMarks Q key' one two
two_same P Q key key' one two on back same h = record {
  first = latest_same P Q one on back h.first;
  second = λ a e. at one h a e;
  neither = h.neither;
}
  where
    at : (o : Option Op) → TwoMarks P key o two → (a : Op) → o ≡ Some a → IsLatestIfAny
        (λ v. Q v × (key' v ≢ key' a)) two
    at o k a e =
        let pa : P a = (subst (λ (z : Option Op). IsLatestIfAny P z) e k.first).here in
        latest_same (λ v. P v × (key v ≢ key a)) (λ v. Q v × (key' v ≢ key' a)) two
        (λ v p. (on v p.0, λ q. p.1 (sym (same v p.0) ∙ q ∙ same a pa)))
        (λ v p. (back v p.0, λ q. p.1 (same v (back v p.0) ∙ q ∙ sym (same a pa))))
        (k.second a e)

-- ---- marks that are kept as far as they come after a standing

pub two_over : (P : Op → Type 0) (key : Op → Option Origin) (one two : Option Op) (q : Standing)
    → TwoMarks P key one two → TwoMarks (Over P q) key (if_over q one) (if_over q two)
two_over P key None two q h = two_none' (if_over q two) (λ v p. h.first v p.0) (ap (if_over q) (h.neither refl))
  where
    two_none' : (w : Option Op) → ((v : Op) → Over P q v → ⊥) → w ≡ None → TwoMarks (Over P q) key None w
    two_none' w f e = record { first = f; second = λ a d. absurd (cc); neither = λ d. e }
two_over P key (Some m) two q h = at (stands_before q (standing m)) refl
  where
    stale : stands_before q (standing m) ≡ false → (w : Option Op) → IsLatestIfAny (λ v. P v × (key v ≢ key m)) w
        → if_over q w ≡ None
    stale e None k = refl
    stale e (Some w) k = rw (not_before_trans q (standing m) (standing w) e (h.first.latest w k.here.0)) refl

    at : (z : Bool) → stands_before q (standing m) ≡ z → TwoMarks (Over P q) key (cond z (Some m) None) (if_over q two)
    at false e = record {
      first = λ v p. both_ways _ (not_before_trans q (standing m) (standing v) e
          (h.first.latest v p.0)) p.1;
      second = λ a d. absurd (cc);
      neither = λ d. stale e two (h.second m refl);
    }
    at true e = record {
      first = record { here = (h.first.here, e); latest = λ u p. h.first.latest u p.0 };
      second = λ a d.
          let same : m ≡ a = cc in
          latest_same (Over (λ v. P v × (key v ≢ key a)) q) (λ v. Over P q v × (key v ≢ key a)) (if_over q two)
          (λ v p. ((p.0.0, p.1), p.0.1)) (λ v p. ((p.0.0, p.1), p.0.1))
          (mark_over (λ v. P v × (key v ≢ key a)) two q (subst
          (λ (s : Option Origin). IsLatestIfAny (λ v. P v × (key v ≢ s)) two) (ap key same) (h.second m refl)));
      neither = λ d. absurd (cc);
    }
