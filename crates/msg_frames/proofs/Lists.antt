-- Laws of the recursions over bytes.
use Rattle.std.proofs.Common.{◌≡◌, ℕ, ◌+◌, ◌-◌, ◌<◌, List, [], ◌∷◌, ◌++◌, drop, refl, arith, add-one, append_assoc}
use Rattle.msg_frames.specs.declared.csrs.CsrValue.{CsrValue}
use Rattle.tandem_base.specs.Fields.{u16_at, u64_at}
use Rattle.msg_frames.specs.Reading.{csrs_in}

-- one CSR, and the others behind it
pub csrs_in_more : (count fewer : ℕ) (bytes : List ℕ) → count ≡ fewer + 1
    → csrs_in count bytes ≡ record { number = u16_at 0 bytes; value = u64_at 2 bytes } ∷ csrs_in fewer (drop 10 bytes)
csrs_in_more count fewer bytes e = rw (e, add-one) refl

-- a CSR that moves to the list
pub csrs_in_step : (list : List CsrValue) (rest all : List ℕ) (count k number value : ℕ) → k < count
    → number ≡ u16_at 0 rest → value ≡ u64_at 2 rest → list ++ csrs_in (count - k) rest ≡ csrs_in count all
    → (list ++ record { number = number; value = value } ∷ []) ++ csrs_in (count - (k + 1))
    (drop 10 rest) ≡ csrs_in count all
csrs_in_step list rest all count k number value below n v before =
    let more : count - k ≡ count - (k + 1) + 1 = omega arith in
    rw (append_assoc, n, v) (rw (csrs_in_more (count - k) (count - (k + 1)) rest more) at before)
