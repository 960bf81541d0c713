-- What is found in a row, told by slots.
use Rattle.std.proofs.Common.{ℕ, ◌≡◌, ◌≢◌, ◌<◌, inl, inr, List, Option, Some, None, IsSome, option_map}
use Rattle.std.proofs.Common.{refl, sym, ap, ◌∙◌, subst, arith, length, take, drop, ◌++◌, [], ◌∷◌}
use Rattle.std.proofs.lemmas.Bool.{cases_eq}
use Rattle.byte_rows.specs.declared.links.Link.{Link}
use Rattle.byte_rows.specs.Links.{StaysElsewhere, at, row_mark, row_mark_at, older, newer}
use Rattle.byte_rows.specs.Links.{any, IsEdge, IsThere, AreOneRow, waiter_of, waiter_from}
use Rattle.byte_rows.specs.Waiters.{IsNewestWaiter, IsOldestWaiter, IsNewestWaiterBelow}
use Rattle.byte_rows.proofs.Rows.{AreApart}
use Rattle.byte_rows.proofs.Leaving.{marked}

pub edge_there : (less : ℕ → ℕ → Type 0) (xs : List (Option Link)) (row : ℕ) (passes : ℕ → Type 0) (o : Option ℕ)
    → IsEdge less (row_mark_at (at xs)) row passes o → IsThere xs o
edge_there less xs row passes None e = λ i s. cc
edge_there less xs row passes (Some k) e = λ i s. (
    let same : k ≡ i = cc in
    let m = marked (at xs k) row e.0 e.1 in
    subst (λ (x : ℕ). IsSome (at xs x)) same (rw m.there refl))

abbrev pair_of : Option ℕ → Option (ℕ × ℕ)
pair_of None = None
pair_of (Some x) = Some (0, x)

-- the tags by slot in a row of which all that wait are
abbrev pub tag_in : (ℕ → Option Link) → ℕ → Option ℕ
tag_in f s = option_map (λ (n : Link). n.tag) (f s)

module _ (f : ℕ → Option Link) (one : AreOneRow f) where
  pub to_mark : (s t : ℕ) → tag_in f s ≡ Some t → row_mark_at f s ≡ Some (0, t)
  to_mark s t e = by (f s) (λ n h. one s n h) e
    where
      by : (o : Option Link) → ((n : Link) → o ≡ Some n → n.row ≡ 0) → option_map (λ (n : Link). n.tag) o ≡ Some t
          → row_mark o ≡ Some (0, t)
      by None r h = cc
      by (Some n) r h = ap (λ (x : ℕ). Some (x, n.tag)) (r n refl) ∙ ap (λ (o : Option ℕ). pair_of o) h

  pub to_tag : (s t : ℕ) → row_mark_at f s ≡ Some (0, t) → tag_in f s ≡ Some t
  to_tag s t e =
      let m = marked (f s) 0 t e in
      ap (λ (o : Option Link). option_map (λ (n : Link). n.tag) o) m.there ∙ ap (λ (x : ℕ). Some x) m.tag

  module _ (apart : AreApart (row_mark_at f) 0) where
    found : (less : ℕ → ℕ → Type 0) (passes : ℕ → Type 0) (i : ℕ) → IsEdge less (row_mark_at f) 0 passes (Some i)
        → (n : Link) × (f i ≡ Some n) × (row_mark_at f i ≡ Some (0, n.tag)) × passes n.tag
        × ((s t : ℕ) → tag_in f s ≡ Some t → passes t → less n.tag t → ⊥)
        × ((s t : ℕ) → tag_in f s ≡ Some t → s ≢ i → t ≢ n.tag)
    found less passes i e =
        let m = marked (f i) 0 e.0 e.1 in
        let here = subst (λ (x : ℕ). row_mark_at f i ≡ Some (0, x)) (sym m.tag) e.1 in (
          m.link,
          m.there,
          here,
          subst passes (sym m.tag) e.2,
          λ s t h p l. e.3 s t (to_mark s t h) p (subst (λ (x : ℕ). less x t) m.tag l),
          λ s t h d q. d (apart s i m.link.tag (subst (λ (x : ℕ). row_mark_at f s ≡ Some (0, x)) q
              (to_mark s t h)) here),
        )

    pub newest_found : (o : Option ℕ) → IsEdge older (row_mark_at f) 0 any o → IsNewestWaiter (tag_in f) (waiter_of f o)
    newest_found None e = λ s t h. e s t (to_mark s t h) tt
    newest_found (Some i) e =
        let w = found older any i e in
        subst (λ (o : Option Link). IsNewestWaiter (tag_in f) (waiter_from o i)) (sym w.1) (
          to_tag i w.0.tag w.2,
          λ s t h d. (let a = w.4 s t h tt in let b = w.5 s t h d in grind arith),
        )

    pub oldest_found : (o : Option ℕ) → IsEdge newer (row_mark_at f) 0 any o → IsOldestWaiter (tag_in f) (waiter_of f o)
    oldest_found None e = λ s t h. e s t (to_mark s t h) tt
    oldest_found (Some i) e =
        let w = found newer any i e in
        subst (λ (o : Option Link). IsOldestWaiter (tag_in f) (waiter_from o i)) (sym w.1) (
          to_tag i w.0.tag w.2,
          λ s t h d. (let a = w.4 s t h tt in let b = w.5 s t h d in grind arith),
        )

    pub below_found : (bound : ℕ) (o : Option ℕ) → IsEdge older (row_mark_at f) 0 (λ u. older u bound) o
        → IsNewestWaiterBelow bound (tag_in f) (waiter_of f o)
    below_found bound None e = λ s t h p. e s t (to_mark s t h) p
    below_found bound (Some i) e =
        let w = found older (λ u. older u bound) i e in
        subst (λ (o : Option Link). IsNewestWaiterBelow bound (tag_in f) (waiter_from o i)) (sym w.1) (
          to_tag i w.0.tag w.2,
          w.3,
          λ s t h p d. (let a = w.4 s t h p in let b = w.5 s t h d in grind arith),
        )

pub whole : (n : ℕ) (xs ys : List (Option Link)) → length xs ≡ n → take n (xs ++ drop (length xs) ys) ≡ xs
whole n xs ys e = subst (λ (m : ℕ). take m (xs ++ drop (length xs) ys) ≡ xs) e (front xs (drop (length xs) ys))
  where
    front : (vs bs : List (Option Link)) → take (length vs) (vs ++ bs) ≡ vs
    front [] bs = refl
    front (x ∷ vs) bs = ap (λ (l : List (Option Link)). x ∷ l) (front vs bs)

pub place_there : (o : Option Link) (row : ℕ) → IsSome o → ((n : Link) → o ≡ Some n → n.row ≡ row)
    → (n : Link) × (o ≡ Some n) × (n.row ≡ row)
place_there None row s r = cc
place_there (Some n) row s r = (n, refl, r n refl)

-- where only links of one row change, all are of that row still
pub one_row_left : (f g : ℕ → Option Link) → AreOneRow f → StaysElsewhere f g 0 → AreOneRow g
one_row_left f g one e i n h = elim (cases_eq n.row 0) [
  | inl z ↦ z
  | inr d ↦ one i n (e.back i n h d)
]

pub same_links : (xs ys : List (Option Link)) → ((j : ℕ) → at ys j ≡ at xs j) → at xs ≡ at ys
same_links xs ys h = λ k j. sym (h j) k

-- links of which one row changed make one row still, where what is new is in it
pub one_row_entered : (f g : ℕ → Option Link) → AreOneRow f → StaysElsewhere f g 0 → AreOneRow g
one_row_entered f g one e = one_row_left f g one e

pub tags_under : (f g : ℕ → Option Link) (tag : ℕ) → f ≡ g → AreOneRow f
    → ((s t : ℕ) → tag_in f s ≡ Some t → t < tag) → (j t : ℕ) → row_mark_at g j ≡ Some (0, t) → t < tag
tags_under f g tag same one top =
    subst (λ (h : ℕ → Option Link). (j t : ℕ) → row_mark_at h j ≡ Some (0, t) → t < tag) same
    (λ j t m. top j t (to_tag f one j t m))
