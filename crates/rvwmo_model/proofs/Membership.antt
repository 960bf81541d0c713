-- Members of lists.
use Rattle.std.proofs.Common.{ℕ, zero, suc, ◌<◌, ◌≡◌, ◌⊎◌, inl, inr, Bool, true, false, List, [], ◌∷◌, cond, length}
use Rattle.std.proofs.Common.{refl, sym, ap, subst, ◌∙◌, slice_index_or, arith}
use Rattle.std.specs.List.{Contains, AllPairs, filter}
use Rattle.std.proofs.lemmas.Bool.{false≢true}

pub nothing_in : {X : Type 0} (o : X) → Contains [] o → ⊥
nothing_in o h = (let l = h.1 in omega arith)

pub head_in : {X : Type 0} (x : X) (xs : List X) → Contains (x ∷ xs) x
head_in x xs = (0, omega arith, refl)

pub tail_in : {X : Type 0} (x : X) (xs : List X) (o : X) → Contains xs o → Contains (x ∷ xs) o
tail_in x xs o h = (suc h.0, (let l = h.1 in omega arith), h.2)

pub first_in : {X : Type 0} (x : X) (xs : List X) (o : X) → o ≡ x → Contains (x ∷ xs) o
first_in x xs o e = (0, omega arith, sym e)

-- a member is the first, or one of the rest
pub in_cases : {X : Type 0} (x : X) (xs : List X) (o : X) → Contains (x ∷ xs) o → (o ≡ x) ⊎ Contains xs o
in_cases x xs o h = at h.0 h.1 h.2
  where
    at : (k : ℕ) → k < length (x ∷ xs) → slice_index_or (x ∷ xs) k o ≡ o → (o ≡ x) ⊎ Contains xs o
    at zero l e = inl (sym e)
    at (suc k) l e = inr (k, omega arith, e)

pub in_filter : {X : Type 0} (p : X → Bool) (ws : List X) (w : X) → Contains ws w → p w ≡ true
    → Contains (filter p ws) w
in_filter p [] w h t = h
in_filter p (v ∷ ws) w h t = at (p v) refl (λ j. in_filter p ws w j t) (in_cases v ws w h)
  where
    at : (b : Bool) → p v ≡ b → (Contains ws w → Contains (filter p ws) w) → (w ≡ v) ⊎ Contains ws w
        → Contains (cond b (v ∷ filter p ws) (filter p ws)) w
    at true e rec (inl q) = first_in v (filter p ws) w q
    at true e rec (inr j) = tail_in v (filter p ws) w (rec j)
    at false e rec (inl q) = absurd (false≢true (sym e ∙ ap p (sym q) ∙ t))
    at false e rec (inr j) = rec j

pub from_filter : {X : Type 0} (p : X → Bool) (ws : List X) (w : X) → Contains (filter p ws) w → Contains ws w
    × (p w ≡ true)
from_filter p [] w h = absurd (nothing_in w h)
from_filter p (v ∷ ws) w h = at (p v) refl (from_filter p ws w) h
  where
    at : (b : Bool) → p v ≡ b → (Contains (filter p ws) w → Contains ws w × (p w ≡ true))
        → Contains (cond b (v ∷ filter p ws) (filter p ws)) w → Contains (v ∷ ws) w × (p w ≡ true)
    at true e rec h =
        elim (in_cases v (filter p ws) w h) [
          | inl q ↦ (first_in v ws w q, ap p q ∙ e)
          | inr j ↦ (tail_in v ws w (rec j).0, (rec j).1)
        ]
    at false e rec j = (tail_in v ws w (rec j).0, (rec j).1)

-- ---- each two of a list

pub pairs_head : {X : Type 0} (R : X → X → Type 0) (x : X) (xs : List X) → AllPairs R (x ∷ xs) → (o : X)
    → Contains xs o → R x o
pairs_head R x xs p o h = subst (λ (z : _). R x z) h.2 (p 0 (suc h.0) o (omega arith) (let l = h.1 in omega arith))

pub pairs_tail : {X : Type 0} (R : X → X → Type 0) (x : X) (xs : List X) → AllPairs R (x ∷ xs) → AllPairs R xs
pairs_tail R x xs p i j d l m = p (suc i) (suc j) d (omega arith) (omega arith)
