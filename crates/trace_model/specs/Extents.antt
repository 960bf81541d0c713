-- The extent of an access.
use Rattle.std.specs.Prelude.{ℕ, ◌+◌, ◌^◌, ◌≡◌, ◌&&◌, nat_le, Bool, true, false, refl}
use Rattle.std.proofs.lemmas.Bool.{and_parts, leb-true}
use Rattle.tandem_base.specs.declared.extent.Extent.{Extent}

-- there is an extent of `len` bytes from an address on: it has 1 to 8 bytes, and doesn't pass 2 ^ 64
abbrev pub is_extent : ℕ → ℕ → Bool
is_extent addr len = nat_le 1 len && nat_le len 8 && nat_le (addr + len) (2 ^ 64)

-- that extent, where there is one; else the byte at 0
unfoldable pub made : (addr len : ℕ) (c : Bool) → is_extent addr len ≡ c → Extent
made addr len true q =
    let r = and_parts (nat_le 1 len && nat_le len 8) (nat_le (addr + len) (2 ^ 64)) q in
    let s = and_parts (nat_le 1 len) (nat_le len 8) r.0 in
    record { addr = addr; len = len; sized = (leb-true _ _ s.0, leb-true _ _ s.1); within = leb-true _ _ r.1 }
made addr len false q =
    record {
      addr = 0;
      len = 1;
      sized = (leb-true 1 1 refl, leb-true 1 8 refl);
      within =
          leb-true (0 + 1) (2 ^ 64) refl;
    }

-- the extent of `len` bytes from an address on; the byte at 0 where there is none
unfoldable pub extent_of : ℕ → ℕ → Extent
extent_of addr len = made addr len (is_extent addr len) refl
