-- Places that rise.
use Rattle.std.proofs.Common.{ℕ, zero, suc, ◌≡◌, ◌<◌, ◌-◌, ◌⊎◌, inl, inr, List, [], ◌∷◌, ◌++◌, length, get_or, true}
use Rattle.std.proofs.Common.{All, Option, None, Some, sym, subst, arith}
use Rattle.std.proofs.lemmas.Bool.Decides.{nat_tests}
use Rattle.std.proofs.lemmas.List.Elements.{All-from_get_or}
use Rattle.std.proofs.lemmas.List.Quantifiers.{all_pairs_push}
use Rattle.std.specs.Option.{option_to_list}
use Rattle.tandem_base.specs.declared.names.Position.{Position}
use Rattle.tandem_base.specs.Places.{comes_before}
use Rattle.kept_ops.specs.declared.arrivals.Arrival.{Arrival}
use Rattle.kept_ops.specs.Arrivals.{PlacesRise, stays}

before_trans : (a b c : Position) → comes_before a b ≡ true → comes_before b c ≡ true → comes_before a c ≡ true
before_trans a b c p q = grind (arith, nat_tests, p, q)

pub stays_after : (oldest : Option Position) (a b : Position) → stays oldest a ≡ true → comes_before a b ≡ true
    → stays oldest b ≡ true
stays_after None a b s l = cc
stays_after (Some p) a b s l = before_trans p a b s l

split : (i n : ℕ) → i < n → (i < n - 1) ⊎ (i ≡ n - 1)
split i n l = grind arith

-- what is after the last of them is after all of them
pub all_before : (xs : List Arrival) (last : Arrival) (p : Position) (n : ℕ) → n ≡ length xs → PlacesRise xs
    → last ≡ get_or xs (n - 1) last → comes_before last.place p ≡ true
    → All (λ (a : Arrival). comes_before a.place p ≡ true) xs
all_before xs last p n m r e' l = All-from_get_or (λ (a : Arrival). comes_before a.place p ≡ true) xs last
    (λ i w. elim (split i (length xs) w) [
      | inl h ↦
          let e : last ≡ get_or xs (length xs - 1) last = subst (λ (n : ℕ). last ≡ get_or xs (n - 1) last) m e' in
          let step : comes_before (get_or xs i last).place (get_or xs (length xs - 1) last).place ≡ true =
          r i (length xs - 1) last h (omega arith) in
          before_trans (get_or xs i last).place last.place p
          (subst (λ (z : Arrival). comes_before (get_or xs i last).place z.place ≡ true) (sym e) step) l
      | inr h ↦
          let e : last ≡ get_or xs (length xs - 1) last = subst (λ (n : ℕ). last ≡ get_or xs (n - 1) last) m e' in
          let here : get_or xs i last ≡ last = subst (λ (n : ℕ). get_or xs n last ≡ last) (sym h) (sym e) in
          subst (λ (z : Arrival). comes_before z.place p ≡ true) (sym here) l
    ])

pub rises_push : (xs : List Arrival) (a : Arrival) → PlacesRise xs
    → All (λ (b : Arrival). comes_before b.place a.place ≡ true) xs → PlacesRise (xs ++ a ∷ [])
rises_push xs a r all =
    all_pairs_push (λ (x y : Arrival). comes_before x.place y.place ≡ true) xs a r (λ k d w. all k d w)

pub rises_rest : (x : Arrival) (xs ys : List Arrival) → ys ≡ x ∷ xs → PlacesRise ys → PlacesRise xs
rises_rest x xs ys e r =
    let s : PlacesRise (x ∷ xs) = subst (λ (l : List Arrival). PlacesRise l) e r in
    λ i j d l w. s (suc i) (suc j) d (omega arith) (omega arith)

-- where the first of them stays, all do
pub all_stay : (oldest : Option Position) (xs : List Arrival) (first : Arrival) → PlacesRise xs
    → first ≡ get_or xs 0 first → stays oldest first.place ≡ true
    → All (λ (a : Arrival). stays oldest a.place ≡ true) xs
all_stay oldest xs first r e s = All-from_get_or (λ (a : Arrival). stays oldest a.place ≡ true) xs first
    (λ i w. at i w)
  where
    at : (i : ℕ) → i < length xs → stays oldest (get_or xs i first).place ≡ true
    at zero w = subst (λ (z : Arrival). stays oldest z.place ≡ true) e s
    at (suc i) w =
        let step : comes_before (get_or xs 0 first).place (get_or xs (suc i) first).place ≡ true =
        r 0 (suc i) first (omega arith) w in
        stays_after oldest first.place (get_or xs (suc i) first).place s
        (subst (λ (z : Arrival). comes_before z.place (get_or xs (suc i) first).place ≡ true) (sym e) step)

pub rises_popped : (r : Option Arrival) (xs ys : List Arrival) → xs ≡ option_to_list r ++ ys → PlacesRise xs
    → PlacesRise ys
rises_popped None xs ys e r = subst (λ (l : List Arrival). PlacesRise l) e r
rises_popped (Some a) xs ys e r = rises_rest a ys xs e r
