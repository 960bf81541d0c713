-- One bit of a mask is set.
use Rattle.std.proofs.Common.{ℕ, ◌≡◌, ◌≢◌, ◌*◌, ◌%◌, ◌^◌, ◌<◌, bit_or, ap, ◌∙◌, arith}
use Rattle.std.specs.Int.{bit_at}
use Rattle.std.proofs.lemmas.Nat.{one_shl}
use Rattle.std.proofs.lemmas.Nat.Bits.{bit_at_or, bit_at-lt, bit_at-pow_same, bit_at-pow_other}

pub set_there : (m k : ℕ) → k < 64 → bit_at (bit_or m (1 * 2 ^ k % 2 ^ 64)) k ≡ 1
set_there m k l =
    let o = bit_at_or m (2 ^ k) k in
    ap (λ (x : ℕ). bit_at (bit_or m x) k) (one_shl k 64 l)
    ∙ omega (arith, o, bit_at-pow_same k, bit_at-lt m k)

pub set_others : (m k j : ℕ) → k < 64 → j ≢ k → bit_at (bit_or m (1 * 2 ^ k % 2 ^ 64)) j ≡ bit_at m j
set_others m k j l d =
    let o = bit_at_or m (2 ^ k) j in
    ap (λ (x : ℕ). bit_at (bit_or m x) j) (one_shl k 64 l) ∙ omega (arith, o, bit_at-pow_other k j d)
