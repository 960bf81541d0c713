-- The options that words spell, two words after two.
use Rattle.std.proofs.Common.{◌≡◌, ℕ, zero, suc, ◌+◌, ◌-◌, ◌<◌, List, [], ◌∷◌, ◌++◌, length, drop, get_or, map}
use Rattle.std.proofs.Common.{Option, None, Some, refl, sym, ap, ◌∙◌, arith, append_assoc, drop-cons}
use Rattle.std.specs.Option.{option_map}
use Rattle.tandem_cli.specs.declared.options.CheckOption.{CheckOption}
use Rattle.tandem_cli.specs.Options.{option_before, option_of, options_of}

-- a name without its value
pub one_left : {S : Type 0} (f : S → List ℕ) (words : List S) (at : ℕ) → length words - at ≡ 1
    → options_of (map f (drop at words)) ≡ None
one_left f [] at h = absurd (omega arith)
one_left f (w ∷ []) zero h = refl
one_left f (w ∷ v ∷ words) zero h = absurd (omega arith)
one_left f (w ∷ words) (suc at) h = one_left f words at (omega arith)

-- the next word, and those behind it
next_left : {S : Type 0} (words : List S) (at : ℕ) (a : S) → at < length words → a ≡ get_or words at a
    → drop at words ≡ a ∷ drop (at + 1) words
next_left words at a room is =
    let e : suc at ≡ at + 1 = omega arith in
    drop-cons words at a room ∙ ap (λ x. x ∷ drop (suc at) words) (sym is) ∙ ap (λ k. a ∷ drop k words) e

-- the next two words, and those behind them
two_left : {S : Type 0} (f : S → List ℕ) (words : List S) (at : ℕ) (a b : S) → at + 1 < length words
    → a ≡ get_or words at a → b ≡ get_or words (at + 1) b
    → map f (drop at words) ≡ f a ∷ f b ∷ map f (drop (at + 2) words)
two_left f words at a b room is_a is_b =
    let e : at + 1 + 1 ≡ at + 2 = omega arith in
    ap (map f) (next_left words at a (omega arith) is_a ∙ ap (λ more. a ∷ more) (next_left words (at + 1) b room is_b
    ∙ ap (λ k. b ∷ drop k words) e))

-- an option more behind those that are known
behind : (items : List CheckOption) (option : CheckOption) (more : Option (List CheckOption))
    → option_map (λ rest. items ++ rest) (option_before (Some option) more) ≡ option_map
    (λ rest. (items ++ option ∷ []) ++ rest) more
behind items option None = refl
behind items option (Some more) = ap Some (sym (append_assoc items (option ∷ []) more))

-- the loop goes on by one option
pub option_read : {S : Type 0} (f : S → List ℕ) (words : List S) (at : ℕ) (a b : S) (items longer : List CheckOption)
    (option : CheckOption)
    → longer ≡ items ++ option ∷ [] → at + 1 < length words → a ≡ get_or words at a → b ≡ get_or words (at + 1) b
    → Some option ≡ option_of (f a) (f b)
    → option_map (λ rest. items ++ rest) (options_of (map f (drop at words)))
    ≡ option_map (λ rest. longer ++ rest) (options_of (map f (drop (at + 2) words)))
option_read f words at a b items longer option is_longer room is_a is_b read =
    ap (λ left. option_map (λ rest. items ++ rest) (options_of left)) (two_left f words at a b room is_a is_b)
    ∙ ap (λ first. option_map (λ rest. items ++ rest)
    (option_before first (options_of (map f (drop (at + 2) words))))) (sym read)
    ∙ behind items option (options_of (map f (drop (at + 2) words)))
    ∙ ap (λ front. option_map (λ rest. front ++ rest) (options_of (map f (drop (at + 2) words)))) (sym is_longer)
