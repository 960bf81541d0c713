-- The texts of CSRs, one behind the other.
use Rattle.std.proofs.Common.{◌≡◌, ℕ, zero, suc, ◌+◌, ◌≤◌, List, [], ◌∷◌, ◌++◌, take, drop, slice_get, Some}
use Rattle.std.proofs.Common.{refl, sym, ap, ◌∙◌, append-nil, append_assoc, arith}
use Rattle.std.specs.List.{flat_map}
use Rattle.msg_frames.specs.declared.csrs.CsrValue.{CsrValue}
use Rattle.trace_text.specs.Lines.{csr_text, next_csr_text, csrs_text}

-- one item more
more : (csrs : List CsrValue) (k : ℕ) (csr : CsrValue) → slice_get csrs k ≡ Some csr
    → flat_map next_csr_text (take k csrs) ++ next_csr_text csr ≡ flat_map next_csr_text (take (suc k) csrs)
more [] k csr is = cc
more (first ∷ csrs) zero csr is = let same : first ≡ csr = cc in rw same (sym (append-nil (next_csr_text csr)))
more (first ∷ csrs) (suc k) csr is =
    append_assoc (next_csr_text first) (flat_map next_csr_text (take k csrs)) (next_csr_text csr)
    ∙ ap (λ l. next_csr_text first ++ l) (more csrs k csr is)

-- one CSR more behind the first
pub next_more : (csrs : List CsrValue) (k : ℕ) (csr : CsrValue) → 1 ≤ k → slice_get csrs k ≡ Some csr
    → flat_map next_csr_text (drop 1 (take k csrs)) ++ next_csr_text csr
    ≡ flat_map next_csr_text (drop 1 (take (k + 1) csrs))
next_more csrs zero csr some is = absurd (omega arith)
next_more [] (suc k) csr some is = cc
next_more (first ∷ csrs) (suc k) csr some is =
    let e : suc (suc k) ≡ suc k + 1 = omega arith in
    more csrs k csr is ∙ ap (λ n. flat_map next_csr_text (drop 1 (take n (first ∷ csrs)))) e

-- the first CSR and those behind it
pub first_and_next : (csrs : List CsrValue) (csr : CsrValue) → slice_get csrs 0 ≡ Some csr
    → csr_text csr ++ flat_map next_csr_text (drop 1 csrs) ≡ csrs_text csrs
first_and_next [] csr is = cc
first_and_next (first ∷ csrs) csr is = let same : first ≡ csr = cc in rw same refl
