-- The CSRs of a Retire are put one behind another.
use Rattle.std.proofs.Common.{◌≡◌, ℕ, zero, suc, Some, ◌+◌, List, [], ◌∷◌, ◌++◌, take}
use Rattle.std.proofs.Common.{◌∙◌, ap, arith, refl}
use Rattle.std.specs.Prelude.{slice_get}
use Rattle.std.specs.Int.{w16, w64, to_le_bytes}
use Rattle.std.specs.List.{flat_map}
use Rattle.msg_frames.specs.declared.csrs.CsrValue.{CsrValue}
use Rattle.msg_frames.specs.Frames.{csr_bytes}

-- one CSR more
pub csrs_more : (csrs : List CsrValue) (k : ℕ) (csr : CsrValue) → slice_get csrs k ≡ Some csr
    → flat_map csr_bytes (take k csrs) ++ to_le_bytes w16 csr.number ++ to_le_bytes w64 csr.value ≡ flat_map
    csr_bytes (take (k + 1) csrs)
csrs_more [] k csr is = cc
csrs_more (first ∷ csrs) zero csr is = let same : first ≡ csr = cc in rw same refl
csrs_more (first ∷ csrs) (suc k) csr is =
    let e : suc (k + 1) ≡ suc k + 1 = omega arith in
    ap (λ l. csr_bytes first ++ l) (csrs_more csrs k csr is) ∙ ap (λ n. flat_map csr_bytes (take n (first ∷ csrs))) e
