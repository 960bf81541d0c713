-- Searches through lists and numbers.
use Rattle.std.specs.Prelude.{ℕ, zero, suc, ◌+◌, ◌||◌, List, [], ◌∷◌, Bool, false, None, Some, if◌then◌else◌}
use Rattle.std.specs.declared.option.Option.{Option}
use Rattle.rvwmo_model.specs.declared.operations.Op.{Op}

-- some address from addr up, of so many, passes
unfoldable pub some_at : (ℕ → Bool) → ℕ → ℕ → Bool
some_at p addr zero = false
some_at p addr (suc n) = some_at p addr n || p (addr + n)

-- this one, or else x where it passes
abbrev pub or_address : Option ℕ → Bool → ℕ → Option ℕ
or_address None passes x = if passes then Some x else None
or_address (Some y) passes x = Some y

-- the lowest address from addr up, of so many, that passes
unfoldable pub first_at : (ℕ → Bool) → ℕ → ℕ → Option ℕ
first_at p addr zero = None
first_at p addr (suc n) = or_address (first_at p addr n) (p (addr + n)) (addr + n)

-- some byte of the extent of an operation passes
abbrev pub some_byte : (ℕ → Bool) → Op → Bool
some_byte p o = some_at p o.extent.addr o.extent.len

-- the lowest byte of the extent of an operation that passes
abbrev pub first_byte : (ℕ → Bool) → Op → Option ℕ
first_byte p o = first_at p o.extent.addr o.extent.len

-- the better of two, the first where neither is
abbrev pub better_of : {X : Type 0} → (X → X → Bool) → Option X → X → Option X
better_of better None x = Some x
better_of better (Some c) x = if better x c then Some x else Some c

-- the best of the elements and of one that is there already
abbrev pub best_from : {X : Type 0} → (X → X → Bool) → Option X → List X → Option X
best_from better best [] = best
best_from better best (x ∷ xs) = best_from better (better_of better best x) xs
