-- Texts that are put one behind another.
use Rattle.std.proofs.Common.{◌≡◌, ℕ, List, [], ◌++◌, length, take, drop, sym, ◌∙◌, ap, subst, arith}
use Rattle.std.proofs.Common.{append_assoc, append-nil, refl, drop-drop, length-append}
use Rattle.tandem_base.specs.Puts.{Puts}

-- a text, and then another
pub puts_then : {at middle end : ℕ} {old between new first second : List ℕ}
    → Puts at old middle between first → Puts middle between end new second → Puts at old end new (first ++ second)
puts_then {at} {middle} {end} {old} {between} {new} {first} {second} p q =
    let a = p.ends in let b = q.ends in
    let whole = λ (l : List ℕ). ap (λ n. drop n l) b ∙ ap (λ n. drop n l) (omega arith)
    ∙ sym (drop-drop (length second) middle l) in
    record {
      ends = omega (arith, length-append {A = ℕ}, a, b);
      front = q.front ∙ ap (λ l. l ++ second) p.front ∙ append_assoc (take at old) first second;
      back = q.back ∙ whole between ∙ ap (drop (length second)) p.back ∙ sym (whole old);
    }

-- no text
pub puts_none : (at : ℕ) (out : List ℕ) → Puts at out at out []
puts_none at out = record { ends = omega arith; front = sym (append-nil (take at out)); back = refl }

-- the same text in another form
pub puts_as : {at end : ℕ} {old new text same : List ℕ}
    → Puts at old end new text → text ≡ same → Puts at old end new same
puts_as {at} {end} {old} {new} {text} {same} p e = subst (λ (l : List ℕ). Puts at old end new l) e p

-- the same end in another form
pub puts_to : {at end here : ℕ} {old new text : List ℕ}
    → Puts at old end new text → end ≡ here → Puts at old here new text
puts_to {at} {end} {here} {old} {new} {text} p e = subst (λ (n : ℕ). Puts at old n new text) e p
