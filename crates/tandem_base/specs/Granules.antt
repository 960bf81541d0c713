-- The blocks that reservations cover.
use Rattle.std.specs.Prelude.{ℕ, ◌≡◌, ◌⊎◌}

-- the sizes in bytes that the aligned block of a reservation may have; 0 is no block
abbrev pub IsGranule : ℕ → Type 0
IsGranule granule = (granule ≡ 0) ⊎ (granule ≡ 8) ⊎ (granule ≡ 16) ⊎ (granule ≡ 32) ⊎ (granule ≡ 64)
