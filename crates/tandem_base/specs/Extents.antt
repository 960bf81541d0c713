-- What an extent covers.
use Rattle.std.specs.Prelude.{ℕ, ◌≡◌, ◌+◌, ◌%◌, ◌&&◌, ◌⊎◌, Bool, IsTrue, nat_le, nat_lt}
use Rattle.tandem_base.specs.declared.extent.Extent.{Extent}

-- x is one of the `size` addresses from `base` up
abbrev pub is_among : ℕ → ℕ → ℕ → Bool
is_among base size x = nat_le base x && nat_lt x (base + size)

-- the byte at x is one of the extent's
abbrev pub Covers : Extent → ℕ → Type 0
Covers extent x = IsTrue (is_among extent.addr extent.len x)

-- naturally aligned: the length is that of a register access, and divides the address
abbrev pub IsAligned : Extent → Type 0
IsAligned extent =
    ((extent.len ≡ 1) ⊎ (extent.len ≡ 2) ⊎ (extent.len ≡ 4) ⊎ (extent.len ≡ 8))
    × (extent.addr % extent.len ≡ 0)
