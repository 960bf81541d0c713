-- A list of which the first elements are mapped.
use Rattle.std.proofs.Common.{◌≡◌, ℕ, zero, suc, ◌+◌, ◌<◌, ◌≤◌, List, [], ◌∷◌, ◌++◌, length, map, reverse, set, get_or}
use Rattle.std.proofs.Common.{refl, ap, sym, ◌∙◌, arith}
use Rattle.std.proofs.lemmas.List.{reverse-append, map-append}

module _ {X : Type 0} (f : X → X) where
  -- the first so many are mapped
  abbrev pub mapped : ℕ → List X → List X
  mapped zero xs = xs
  mapped (suc i) [] = []
  mapped (suc i) (x ∷ xs) = f x ∷ mapped i xs

  pub length-mapped : (i : ℕ) (xs : List X) → length (mapped i xs) ≡ length xs
  length-mapped zero xs = refl
  length-mapped (suc i) [] = refl
  length-mapped (suc i) (x ∷ xs) = ap suc (length-mapped i xs)

  step : (i : ℕ) (xs : List X) (d y : X) → i < length xs → y ≡ f (get_or (mapped i xs) i d)
      → set (mapped i xs) i y ≡ mapped (suc i) xs
  step zero [] d y l e = absurd (omega arith)
  step zero (x ∷ xs) d y l e = ap (λ (z : X). z ∷ xs) e
  step (suc i) [] d y l e = absurd (omega arith)
  step (suc i) (x ∷ xs) d y l e =
      let s : i < length xs = omega (arith, l) in ap (λ (zs : List X). f x ∷ zs) (step i xs d y s e)

  -- one more is mapped
  pub mapped_more : (i : ℕ) (xs : List X) (d y : X) → i < length xs → y ≡ f (get_or (mapped i xs) i d)
      → set (mapped i xs) i y ≡ mapped (i + 1) xs
  mapped_more i xs d y l e = let s : suc i ≡ i + 1 = omega arith in step i xs d y l e ∙ ap (λ n. mapped n xs) s

  -- all are
  pub mapped_all : (i : ℕ) (xs : List X) → length xs ≤ i → mapped i xs ≡ map f xs
  mapped_all zero [] l = refl
  mapped_all zero (x ∷ xs) l = absurd (omega (arith, l))
  mapped_all (suc i) [] l = refl
  mapped_all (suc i) (x ∷ xs) l = let s : length xs ≤ i =
      omega (arith, l) in ap (λ (zs : List X). f x ∷ zs) (mapped_all i xs s)

  pub map-reversed : (xs : List X) → reverse (map f xs) ≡ map f (reverse xs)
  map-reversed [] = refl
  map-reversed (x ∷ xs) =
      reverse-append (f x ∷ []) (map f xs) ∙ ap (λ ys. ys ++ f x ∷ []) (map-reversed xs)
      ∙ sym (map-append f (reverse xs) (x ∷ [])) ∙ ap (map f) (sym (reverse-append (x ∷ []) xs))
