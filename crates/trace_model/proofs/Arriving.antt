-- Messages in the order in which they came, and with the newest first.
use Rattle.std.proofs.Common.{ℕ, ◌+◌, ◌≤◌, ◌<◌, ◌≡◌, ◌↔◌, Option, IsSome, List}
use Rattle.std.proofs.Common.{[], ◌∷◌, ◌++◌, length, reverse, take, drop, get_or, slice_get}
use Rattle.std.proofs.Common.{Some, None, sym, ap, ◌∙◌, arith}
use Rattle.std.proofs.lemmas.List.{take_more, reverse-append, length-reverse, length-take, take-append-drop}
use Rattle.std.specs.Option.{option_to_list}
use Rattle.std.proofs.lemmas.Bool.{false≢true}
use Rattle.std.proofs.lemmas.Option.{slice_get_within, get_or_from_slice_get}

pub arrives : {X : Type 0} (xs : List X) (k : ℕ) (x : X) → slice_get xs k ≡ Some x
    → reverse (take (k + 1) xs) ≡ x ∷ reverse (take k xs)
arrives {X} xs k x e =
    ap reverse (take_more xs k x (slice_get_within xs k x e)) ∙ reverse-append (take k xs) (get_or xs k x ∷ [])
    ∙ ap (λ (y : X). y ∷ reverse (take k xs)) (get_or_from_slice_get xs k x x e)

pub arrived : {X : Type 0} (xs : List X) (k : ℕ) → k ≤ length xs → length (reverse (take k xs)) ≡ k
arrived xs k l = length-reverse (take k xs) ∙ length-take k xs ∙ omega (arith, l)

-- those that come later, this one, and those before it
pub split_at : {X : Type 0} (xs : List X) (k : ℕ) (x : X) → slice_get xs k ≡ Some x
    → reverse xs ≡ reverse (drop (k + 1) xs) ++ x ∷ reverse (take k xs)
split_at {X} xs k x e =
    ap reverse (sym (take-append-drop (k + 1) xs))
    ∙ reverse-append (take (k + 1) xs) (drop (k + 1) xs)
    ∙ ap (λ (ys : List X). reverse (drop (k + 1) xs) ++ ys) (arrives xs k x e)

-- ---- the last of a list

cons_tail : {X : Type 0} (x y : X) (xs ys : List X) → x ∷ xs ≡ y ∷ ys → xs ≡ ys
cons_tail x y xs ys e = cc

pub last_gone : {X : Type 0} (old new before : List X) (last : Option X) (x : X) → old ≡ new ++ option_to_list last
    → (IsSome last ↔ (0 < length old)) → reverse old ≡ x ∷ before → reverse new ≡ before
last_gone {X} old new before (Some y) x is some e =
    cons_tail y x (reverse new) before (sym (reverse-append new (y ∷ [])) ∙ ap reverse (sym is) ∙ e)
last_gone {X} old new before None x is some e =
    let n : length (reverse old) ≡ length (x ∷ before) = ap length e in
    let l = length-reverse old in
    absurd (false≢true (some.1 (omega (arith, n, l))))
