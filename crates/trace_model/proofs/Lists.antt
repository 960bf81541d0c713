-- Members of lists, and each two of a list, by cases.
use Rattle.std.proofs.Common.{ℕ, zero, suc, ◌<◌, ◌≡◌, ◌⊎◌, inl, inr, Bool, true, List, [], ◌∷◌, ◌++◌}
use Rattle.std.proofs.Common.{length}
use Rattle.std.proofs.Common.{map, refl, ap, subst, slice_index_or, arith}
use Rattle.std.specs.List.{Contains, AllPairs, filter, flat_map}
use Rattle.rvwmo_model.proofs.Membership.{nothing_in, head_in, first_in, tail_in, pairs_head, pairs_tail}
use Rattle.rvwmo_model.proofs.Membership as members

-- ---- members

-- v is one of the list
abbrev pub In : {X : Type 0} → X → List X → Type 0
In v [] = ⊥
In v (x ∷ xs) = (v ≡ x) ⊎ In v xs

pub listed : {X : Type 0} (xs : List X) (v : X) → Contains xs v → In v xs
listed [] v h = nothing_in v h
listed (x ∷ xs) v h = elim (members.in_cases x xs v h) [ inl e ↦ inl e | inr i ↦ inr (listed xs v i) ]

pub contained : {X : Type 0} (xs : List X) (v : X) → In v xs → Contains xs v
contained [] v h = absurd h
contained (x ∷ xs) v (inl e) = first_in x xs v e
contained (x ∷ xs) v (inr i) = tail_in x xs v (contained xs v i)

pub in_left : {X : Type 0} (xs ys : List X) (v : X) → In v xs → In v (xs ++ ys)
in_left [] ys v h = absurd h
in_left (x ∷ xs) ys v (inl e) = inl e
in_left (x ∷ xs) ys v (inr h) = inr (in_left xs ys v h)

pub in_right : {X : Type 0} (xs ys : List X) (v : X) → In v ys → In v (xs ++ ys)
in_right [] ys v h = h
in_right (x ∷ xs) ys v h = inr (in_right xs ys v h)

pub in_cases : {X : Type 0} (xs ys : List X) (v : X) → In v (xs ++ ys) → In v xs ⊎ In v ys
in_cases [] ys v h = inr h
in_cases (x ∷ xs) ys v (inl e) = inl (inl e)
in_cases (x ∷ xs) ys v (inr h) = elim (in_cases xs ys v h) [ inl i ↦ inl (inr i) | inr i ↦ inr i ]

pub in_filter : {X : Type 0} (p : X → Bool) (ws : List X) (w : X) → In w ws → p w ≡ true → In w (filter p ws)
in_filter p ws w i t = listed _ w (members.in_filter p ws w (contained ws w i) t)

pub from_filter : {X : Type 0} (p : X → Bool) (ws : List X) (w : X) → In w (filter p ws) → In w ws × (p w ≡ true)
from_filter p ws w i = let r = members.from_filter p ws w (contained _ w i) in (listed ws w r.0, r.1)

pub in_map : {X Y : Type 0} (f : X → Y) (xs : List X) (x : X) → In x xs → In (f x) (map f xs)
in_map f [] x h = h
in_map f (y ∷ ys) x (inl e) = inl (ap f e)
in_map f (y ∷ ys) x (inr h) = inr (in_map f ys x h)

pub from_map : {X Y : Type 0} (f : X → Y) (xs : List X) (y : Y) → In y (map f xs) → (x : X) × In x xs × (y ≡ f x)
from_map f [] y h = absurd h
from_map f (x ∷ xs) y (inl e) = (x, inl refl, e)
from_map f (x ∷ xs) y (inr h) = let r = from_map f xs y h in (r.0, inr r.1, r.2)

pub in_flat : {X Y : Type 0} (f : X → List Y) (xs : List X) (x : X) (y : Y) → In x xs → In y (f x)
    → In y (flat_map f xs)
in_flat f [] x y h i = absurd h
in_flat f (z ∷ xs) x y (inl e) i = in_left (f z) (flat_map f xs) y (subst (λ w. In y (f w)) e i)
in_flat f (z ∷ xs) x y (inr h) i = in_right (f z) (flat_map f xs) y (in_flat f xs x y h i)

pub from_flat : {X Y : Type 0} (f : X → List Y) (xs : List X) (y : Y) → In y (flat_map f xs) → (x : X) × In x xs
    × In y (f x)
from_flat f [] y h = absurd h
from_flat f (z ∷ xs) y h = elim (in_cases (f z) (flat_map f xs) y h) [
  | inl a ↦ (z, inl refl, a)
  | inr b ↦ let r = from_flat f xs y b in (r.0, inr r.1, r.2)
]

-- ---- each two

-- R holds of each two, the first of which stands before the second
abbrev pub Pairs : {X : Type 0} → (X → X → Type 0) → List X → Type 0
Pairs R [] = Unit {0}
Pairs R (x ∷ xs) = ((v : _) → In v xs → R x v) × Pairs R xs

pub pairs_of : {X : Type 0} (R : X → X → Type 0) (xs : List X) → AllPairs R xs → Pairs R xs
pairs_of R [] p = tt
pairs_of R (x ∷ xs) p = (λ v i. pairs_head R x xs p v (contained xs v i), pairs_of R xs (pairs_tail R x xs p))

get_in : {X : Type 0} (xs : List X) (j : ℕ) (d : X) → j < length xs → In (slice_index_or xs j d) xs
get_in [] j d l = absurd (omega (arith, l))
get_in (x ∷ xs) zero d l = inl refl
get_in (x ∷ xs) (suc j) d l = inr (get_in xs j d (omega (arith, l)))

pub of_pairs : {X : Type 0} (R : X → X → Type 0) (xs : List X) → Pairs R xs → AllPairs R xs
of_pairs R [] p i j d l m = absurd (omega (arith, m))
of_pairs R (x ∷ xs) p zero zero d l m = absurd (omega (arith, l))
of_pairs R (x ∷ xs) p zero (suc j) d l m = p.0 (slice_index_or xs j d) (get_in xs j d (omega (arith, m)))
of_pairs R (x ∷ xs) p (suc i) zero d l m = absurd (omega (arith, l))
of_pairs R (x ∷ xs) p (suc i) (suc j) d l m = of_pairs R xs p.1 i j d (omega (arith, l)) (omega (arith, m))

pub pairs_append : {X : Type 0} (R : X → X → Type 0) (xs ys : List X) → Pairs R xs → Pairs R ys
    → ((x y : X) → In x xs → In y ys → R x y) → Pairs R (xs ++ ys)
pairs_append R [] ys p q r = q
pairs_append R (x ∷ xs) ys p q r = (
  λ v i. elim (in_cases xs ys v i) [ inl a ↦ p.0 v a | inr b ↦ r x v (inl refl) b ],
  pairs_append R xs ys p.1 q (λ w v i j. r w v (inr i) j),
)
