-- What tests of texts tell.
use Rattle.std.proofs.Common.{◌≡◌, ℕ, Bool, true, false, nat_eq, List, ◌++◌, length, take, drop, refl, sym, ap, ◌∙◌}
use Rattle.std.proofs.Math.Seq.{take-append_seam}
use Rattle.std.proofs.lemmas.List.{take-append-drop}
use Rattle.std.specs.Cmp.Lexicographic.{pointwise, same_text, other_text}
use Rattle.std.specs.List.{starts_with}

-- two texts are the same
pub alike : (a b : List ℕ) → a ≡ b → pointwise nat_eq a b ≡ true
alike a b same = decide (pointwise nat_eq a b) refl
  where
    decide : (t : Bool) → pointwise nat_eq a b ≡ t → pointwise nat_eq a b ≡ true
    decide true e = e
    decide false e = absurd (other_text a b (sym e) same)

-- two texts are not
pub unlike : (a b : List ℕ) → (a ≡ b → ⊥) → pointwise nat_eq a b ≡ false
unlike a b other = decide (pointwise nat_eq a b) refl
  where
    decide : (t : Bool) → pointwise nat_eq a b ≡ t → pointwise nat_eq a b ≡ false
    decide false e = e
    decide true e = absurd (other (same_text a b (sym e)))

-- a text that starts with another is that and the rest
pub starts : (front text : List ℕ) → starts_with nat_eq text front ≡ true → text ≡ front ++ drop (length front) text
starts front text e =
    sym (take-append-drop (length front) text)
    ∙ ap (λ l. l ++ drop (length front) text) (sym (same_text front (take (length front) text) (sym e)))

-- a text behind another starts with it
pub started : (front rest : List ℕ) → starts_with nat_eq (front ++ rest) front ≡ true
started front rest = alike front (take (length front) (front ++ rest)) (sym (take-append_seam front rest))
