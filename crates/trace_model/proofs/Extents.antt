-- The extent of an access has its address and its length.
use Rattle.std.proofs.Common.{ℕ, ◌+◌, ◌^◌, ◌≤◌, ◌≡◌, ◌&&◌, nat_le, Bool, true, false, refl, sym, ap, ◌∙◌}
use Rattle.std.proofs.lemmas.Bool.{and_from, and_parts, both_ways, le-leb, leb-true}
use Rattle.tandem_base.specs.declared.extent.Extent.{Extent}
use denote.Struct.Props.{props}
use mathlib.Core.HLevel.{is_prop→PathP}
use Rattle.trace_model.specs.Extents.{is_extent, extent_of, made}

pub record IsExtentOf (addr len : ℕ) : Type 0 where
  pub addr_is : (extent_of addr len).addr ≡ addr
  pub len_is : (extent_of addr len).len ≡ len

pub extent_is : (addr len : ℕ) → is_extent addr len ≡ true → IsExtentOf addr len
unfolding extent_of made
extent_is addr len e = record { addr_is = addr_at (is_extent addr len) refl; len_is = len_at (is_extent addr len) refl }
  where
    addr_at : (c : Bool) (q : is_extent addr len ≡ c) → (made addr len c q).addr ≡ addr
    addr_at true q = refl
    addr_at false q = absurd (both_ways _ q e)

    len_at : (c : Bool) (q : is_extent addr len ≡ c) → (made addr len c q).len ≡ len
    len_at true q = refl
    len_at false q = absurd (both_ways _ q e)

-- extents of one address and one length are one
pub same_extent : (a b : Extent) → a.addr ≡ b.addr → a.len ≡ b.len → a ≡ b
same_extent a b p q =
    let sized_prop : (n : ℕ) → IsProp ((1 ≤ n) × (n ≤ 8)) = λ n. hlevel props in
    let within_prop : (x n : ℕ) → IsProp (x + n ≤ 2 ^ 64) = λ x n. hlevel props in
    λ i. record {
      addr = p i;
      len = q i;
      sized = is_prop→PathP (λ j. (1 ≤ q j) × (q j ≤ 8)) (λ j. sized_prop (q j)) a.sized b.sized i;
      within = is_prop→PathP (λ j. p j + q j ≤ 2 ^ 64) (λ j. within_prop (p j) (q j)) a.within b.within i;
    }

-- an extent is that of its address and its length
pub extent_seen : (e : Extent) → extent_of e.addr e.len ≡ e
extent_seen e =
    let fits : is_extent e.addr e.len ≡ true =
    and_from _ _ (and_from _ _ (le-leb 1 e.len e.sized.0) (le-leb e.len 8 e.sized.1))
    (le-leb (e.addr + e.len) (2 ^ 64) e.within) in
    let is = extent_is e.addr e.len fits in
    same_extent (extent_of e.addr e.len) e is.addr_is is.len_is

-- an extent with this address and this length is that of them
pub extent_new : (e : Extent) (addr len : ℕ) → e.addr ≡ addr → e.len ≡ len → e ≡ extent_of addr len
extent_new e addr len p q =
    sym (extent_seen e) ∙ ap (λ (x : ℕ). extent_of x e.len) p ∙ ap (λ (n : ℕ). extent_of addr n) q

-- where there is none, it is the byte at 0
pub extent_none : (e : Extent) (addr len : ℕ) → e.addr ≡ 0 → e.len ≡ 1
    → ((1 ≤ len) × (len ≤ 8) × (addr + len ≤ 2 ^ 64) → ⊥) → e ≡ extent_of addr len
unfolding extent_of made
extent_none e addr len p q none = at (is_extent addr len) refl
  where
    at : (c : Bool) (r : is_extent addr len ≡ c) → e ≡ made addr len c r
    at true r =
        let a = and_parts (nat_le 1 len && nat_le len 8) (nat_le (addr + len) (2 ^ 64)) r in
        let b = and_parts (nat_le 1 len) (nat_le len 8) a.0 in
        absurd (none (leb-true _ _ b.0, leb-true _ _ b.1, leb-true _ _ a.1))
    at false r = same_extent e (made addr len false r) p q
