-- Whether some member of a list passes.
use Rattle.std.proofs.Common.{ℕ, zero, suc, ◌≡◌, inl, inr, Bool, true, false, ◌&&◌, ◌||◌, cond, List, [], ◌∷◌, take}
use Rattle.std.proofs.Common.{Option, Some, None, is_some, find, slice_get, refl, sym, ap, ◌∙◌}
use Rattle.std.specs.List.{Contains}
use Rattle.rvwmo_model.proofs.Membership.{head_in, tail_in}

abbrev pub some_in : {X : Type 0} → (X → Bool) → List X → Bool
some_in f xs = is_some (find f xs)

pub or_true : (b : Bool) → (b || true) ≡ true
or_true true = refl
or_true false = refl

pub or_false : (b : Bool) → (b || false) ≡ b
or_false true = refl
or_false false = refl

pub and_true : (b : Bool) → (b && true) ≡ b
and_true true = refl
and_true false = refl

pub is_some_or : {X : Type 0} (x : X) (b : Bool) → is_some (cond b (Some x) None) ≡ b
is_some_or x true = refl
is_some_or x false = refl

-- one more
pub some_take : {X : Type 0} (f : X → Bool) (xs : List X) (n : ℕ) (p : X) → slice_get xs n ≡ Some p
    → some_in f (take (suc n) xs) ≡ (some_in f (take n xs) || f p)
some_take f [] n p e = cc
some_take f (x ∷ xs) zero p e = is_some_or x (f x) ∙ (let d : x ≡ p = cc in ap f d)
some_take f (x ∷ xs) (suc n) p e = at (f x) (some_take f xs n p e)
  where
    at : (b : Bool) → some_in f (take (suc n) xs) ≡ (some_in f (take n xs) || f p)
        → is_some (cond b (Some x) (find f (take (suc n) xs))) ≡ (is_some (cond b (Some x) (find f (take n xs))) || f p)
    at true rec = refl
    at false rec = rec

pub some_or : {X : Type 0} (f g : X → Bool) (xs : List X)
    → some_in (λ x. f x || g x) xs ≡ (some_in f xs || some_in g xs)
some_or f g [] = refl
some_or f g (x ∷ xs) = at (f x) (g x) (some_or f g xs)
  where
    at : (a b : Bool) → some_in (λ y. f y || g y) xs ≡ (some_in f xs || some_in g xs)
        → is_some (cond (a || b) (Some x) (find (λ y. f y || g y) xs))
        ≡ (is_some (cond a (Some x) (find f xs)) || is_some (cond b (Some x) (find g xs)))
    at true b rec = refl
    at false true rec = sym (or_true (some_in f xs))
    at false false rec = rec

pub none_in : {X : Type 0} (xs : List X) → some_in (λ x. false) xs ≡ false
none_in [] = refl
none_in (x ∷ xs) = none_in xs

-- the same test of each member
pub find_same : {X : Type 0} (f g : X → Bool) (xs : List X) → ((x : X) → Contains xs x → f x ≡ g x)
    → find f xs ≡ find g xs
find_same f g [] h = refl
find_same f g (x ∷ xs) h =
    ap (λ (b : Bool). cond b (Some x) (find f xs)) (h x (head_in x xs))
    ∙ ap (λ (o : Option _). cond (g x) (Some x) o) (find_same f g xs (λ y i. h y (tail_in x xs y i)))

pub some_same : {X : Type 0} (f g : X → Bool) (xs : List X) → ((x : X) → Contains xs x → f x ≡ g x)
    → some_in f xs ≡ some_in g xs
some_same f g xs h = ap (λ (o : Option _). is_some o) (find_same f g xs h)
