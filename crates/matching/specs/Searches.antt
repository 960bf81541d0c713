-- The first number that passes a test, and the earliest of a list. The latest is what the library's `find` gives, as a
-- list has the newest first.
use Rattle.std.specs.Prelude.{ℕ, zero, suc, List, [], ◌∷◌, Bool, Some, None, if◌then◌else◌}
use Rattle.std.specs.declared.option.Option.{Option}
use Rattle.std.specs.Option.{option_or}

-- the first of the n numbers from 0 on that passes
abbrev pub first_below : (ℕ → Bool) → ℕ → Option ℕ
first_below p zero = None
first_below p (suc n) = option_or (first_below p n) (if p n then Some n else None)

-- the earliest of a list that passes: the list has the newest first
abbrev pub earliest : {A : Type 0} → (A → Bool) → List A → Option A
earliest p [] = None
earliest p (a ∷ rest) = option_or (earliest p rest) (if p a then Some a else None)
