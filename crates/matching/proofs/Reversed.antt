-- What is kept and what is made of a list, from its other end.
use Rattle.std.proofs.Common.{◌≡◌, List, [], ◌∷◌, ◌++◌, reverse, refl, ap, sym, ◌∙◌, Bool, true, false, cond}
use Rattle.std.specs.List.{filter}
use Rattle.std.proofs.lemmas.List.{reverse-append, append-nil}
use Rattle.std.proofs.lemmas.List.Elements.{filter-append}

module _ {X : Type 0} (p : X → Bool) where
  one : (b : Bool) (x : X) (ys : List X) → reverse (cond b (x ∷ ys) ys) ≡ reverse ys ++ cond b (x ∷ []) []
  one true x ys = reverse-append (x ∷ []) ys
  one false x ys = sym (append-nil (reverse ys))

  pub filter-reverse : (xs : List X) → reverse (filter p xs) ≡ filter p (reverse xs)
  filter-reverse [] = refl
  filter-reverse (x ∷ xs) =
      one (p x) x (filter p xs) ∙ ap (λ ys. ys ++ filter p (x ∷ [])) (filter-reverse xs)
      ∙ sym (filter-append p (reverse xs) (x ∷ [])) ∙ ap (filter p) (sym (reverse-append (x ∷ []) xs))
