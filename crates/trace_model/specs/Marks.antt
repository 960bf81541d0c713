-- The bytes of an access of at most eight, as the code marks them.
use Rattle.std.specs.Prelude.{ℕ, List, [], ◌∷◌, ◌≤◌, length, slice_index_or, Bool, false, None}
use Rattle.std.specs.declared.option.Option.{Option}
use Rattle.tandem_base.specs.declared.names.Place.{Place}
use Rattle.trace_model.specs.declared.access.Access.{Access}

-- where byte k was performed
abbrev pub place_in : List (Option Place) → ℕ → Option Place
place_in places k = slice_index_or places k None

-- byte k is marked
abbrev pub is_marked : List Bool → ℕ → Bool
is_marked marks k = slice_index_or marks k false

-- the first eight values of a function
abbrev pub eight : {A : Type 0} → (ℕ → A) → List A
eight f = f 0 ∷ f 1 ∷ f 2 ∷ f 3 ∷ f 4 ∷ f 5 ∷ f 6 ∷ f 7 ∷ []

-- an access of at most n bytes
pub record HasAtMost (a : Access) (n : ℕ) : Type 0 where
  pub len : a.extent.len ≤ n
  pub got : length a.got ≤ n
  pub put : length a.put ≤ n
