-- What the latest of some operations is, and what a source is.
use Rattle.std.proofs.Common.{ℕ, ◌≡◌, ◌⊎◌, inl, inr, Bool, true, false, List, [], ◌∷◌, ◌++◌, ◌&&◌, ◌||◌, cond, Option}
use Rattle.std.proofs.Common.{Some, None, refl, sym, subst}
use Rattle.std.specs.List.{Contains, filter}
use Rattle.std.proofs.lemmas.Bool.{cases_Bool, and_parts, and_from, or_cases, or_left, or_right}
use Rattle.std.proofs.lemmas.List.Elements.{Contains-append_cases, Contains-append_left, Contains-append_right}
use Rattle.rvwmo_model.specs.declared.operations.Op.{Op}
use Rattle.rvwmo_model.specs.declared.traces.Trace.{Trace}
use Rattle.rvwmo_model.specs.Order.{standing, precedes, writes}
use Rattle.rvwmo_model.specs.ProgramOrder.{is_older}
use Rattle.rvwmo_model.specs.Sources.{writers, later, latest_from, source, IsWriter}
use Rattle.rvwmo_model.proofs.Membership.{nothing_in, tail_in, first_in, in_cases, in_filter, from_filter}
use Rattle.rvwmo_model.proofs.Orders.{before_self, not_before_trans, before_asym}

pub latest_join : (best : Option Op) (xs ys : List Op) → latest_from best (xs ++ ys) ≡ latest_from
    (latest_from best xs) ys
latest_join best [] ys = refl
latest_join best (x ∷ xs) ys = latest_join (later best x) xs ys

-- the latest of the operations, and then of the early stores
pub source_joined : (t : Trace) (i : Op) (x : ℕ)
    → latest_from (latest_from None (filter (λ w. writes x w && (precedes w i || is_older w i)) t.ops))
    (filter (λ w. writes x w && precedes w i) t.early) ≡ source t i x
source_joined t i x =
    sym (latest_join None (filter (λ w. writes x w && (precedes w i || is_older w i)) t.ops)
    (filter (λ w. writes x w && precedes w i) t.early))

-- nothing of the list comes after s
abbrev pub IsLast : Op → List Op → Type 0
IsLast s ws = (w : Op) → Contains ws w → precedes s w ≡ false

abbrev AtMost : Op → Option Op → Type 0
AtMost s None = Unit {0}
AtMost s (Some v) = precedes s v ≡ false

latest_some : (best : Option Op) (ws : List Op) (s : Op) → latest_from best ws ≡ Some s → AtMost s best × IsLast s ws
    × ((best ≡ Some s) ⊎ Contains ws s)
latest_some None [] s e = (tt, λ w h. absurd (nothing_in w h), inl e)
latest_some (Some v) [] s e =
    (subst (AtMost s) (sym e) (before_self (standing s)), λ w h. absurd (nothing_in w h), inl e)
latest_some None (w ∷ ws) s e =
    let h = latest_some (Some w) ws s e in (
      tt,
      λ v i. elim (in_cases w ws v i) [
        | inl q ↦ subst (λ (u : Op). precedes s u ≡ false) (sym q) h.0
        | inr j ↦ h.1
            v j
      ],
      elim h.2 [ inl q ↦ inr (first_in w ws s (cc)) | inr j ↦ inr (tail_in w ws s j) ],
    )
latest_some (Some v) (w ∷ ws) s e = at (precedes v w) refl (λ c f. latest_some c ws s f) e
  where
    at : (b : Bool) → precedes v w ≡ b
        → ((c : Option Op) → latest_from c ws ≡ Some s → AtMost s c × IsLast s ws × ((c ≡ Some s) ⊎ Contains ws s))
        → latest_from (cond b (Some w) (Some v)) ws ≡ Some s
        → AtMost s (Some v) × IsLast s (w ∷ ws) × ((Some v ≡ Some s) ⊎ Contains (w ∷ ws) s)
    at true f rec e =
        let h = rec (Some w) e in (
          not_before_trans (standing s) (standing w) (standing v) h.0 (before_asym (standing v) (standing w) f),
          λ u i. elim (in_cases w ws u i) [
            | inl q ↦ subst (λ (z : Op). precedes s z ≡ false) (sym q) h.0
            | inr j ↦ h.1
                u j
          ],
          elim h.2 [ inl q ↦ inr (first_in w ws s (cc)) | inr j ↦ inr (tail_in w ws s j) ],
        )
    at false f rec e =
        let h = rec (Some v) e in (
          h.0,
          λ u i. elim (in_cases w ws u i) [
            | inl q ↦ subst (λ (z : Op). precedes s z ≡ false) (sym q)
                (not_before_trans (standing s) (standing v) (standing w) h.0 f)
            | inr j ↦ h.1 u j
          ],
          elim h.2 [ inl q ↦ inl q | inr j ↦ inr (tail_in w ws s j) ],
        )

latest_none : (best : Option Op) (w : Op) (ws : List Op) → latest_from best (w ∷ ws) ≡ None → ⊥
latest_none None w [] e = cc
latest_none (Some v) w [] e = elim (cases_Bool (precedes v w)) [ inl t ↦ cc | inr f ↦ cc ]
latest_none best w (u ∷ ws) e = latest_none (later best w) u ws e

-- the latest of a list is one of them, and none comes after it
pub latest_is : (ws : List Op) (s : Op) → latest_from None ws ≡ Some s → Contains ws s × IsLast s ws
latest_is ws s e = let h = latest_some None ws s e in (elim h.2 [ inl q ↦ absurd (cc) | inr j ↦ j ], h.1)

-- and where there is none, the list is empty
pub latest_is_none : (ws : List Op) → latest_from None ws ≡ None → (w : Op) → Contains ws w → ⊥
latest_is_none [] e w i = nothing_in w i
latest_is_none (v ∷ ws) e w i = latest_none None v ws e

-- ---- sources

pub writer_in : (t : Trace) (i w : Op) (x : ℕ) → IsWriter t i x w → Contains (writers t i x) w
writer_in t i w x (inl h) =
    Contains-append_left _ _ w
    (in_filter (λ v. writes x v && (precedes v i || is_older v i)) t.ops w h.0
    (and_from _ _ h.1
    (elim h.2 [ inl p ↦ or_left (precedes w i) (is_older w i) p | inr o ↦ or_right (precedes w i) (is_older w i) o ])))
writer_in t i w x (inr h) =
    Contains-append_right _ _ w (in_filter (λ v. writes x v && precedes v i) t.early w h.0 (and_from _ _ h.1 h.2))

pub writer_from : (t : Trace) (i w : Op) (x : ℕ) → Contains (writers t i x) w → IsWriter t i x w
writer_from t i w x h =
    elim (Contains-append_cases (filter (λ v. writes x v && (precedes v i || is_older v i)) t.ops)
    (filter (λ v. writes x v && precedes v i) t.early) w h) [
      | inl a ↦
          let f = from_filter (λ v. writes x v && (precedes v i || is_older v i)) t.ops w a in
          let q = and_parts (writes x w) (precedes w i || is_older w i) f.1 in
          inl (f.0, q.0, or_cases (precedes w i) (is_older w i) q.1)
      | inr a ↦
          let f = from_filter (λ v. writes x v && precedes v i) t.early w a in
          let q = and_parts (writes x w) (precedes w i) f.1 in
          inr (f.0, q.0, q.1)
    ]

-- the source is one of the stores that may be read, and none of them is later
pub source_is : (t : Trace) (i : Op) (x : ℕ) (s : Op) → source t i x ≡ Some s → IsWriter t i x s
    × ((w : Op) → IsWriter t i x w → precedes s w ≡ false)
source_is t i x s e = let h = latest_is (writers t i x) s e in
    (writer_from t i s x h.0, λ w p. h.1 w (writer_in t i w x p))

-- where there is no source, no store may be read
pub source_is_none : (t : Trace) (i : Op) (x : ℕ) → source t i x ≡ None → (w : Op) → IsWriter t i x w → ⊥
source_is_none t i x e w p = latest_is_none (writers t i x) e w (writer_in t i w x p)
