-- CSRs read one behind the other.
use Rattle.std.proofs.Common.{◌≡◌, ℕ, zero, suc, ◌-◌, ◌<◌, nat_eq, if◌then◌else◌, List, [], ◌∷◌, ◌++◌}
use Rattle.std.proofs.Common.{length, Option, Some, None, refl, sym, ◌∙◌, ap, append_assoc, arith}
use Rattle.std.proofs.lemmas.Bool.{ne_eqb, eq-eqb}
use Rattle.msg_frames.specs.declared.csrs.CsrValue.{CsrValue}
use Rattle.trace_text.specs.Values.{csr_in, csr_before, some_csrs_in}
use Rattle.trace_text.specs.Words.{until, behind}

-- CSRs behind those that were read
abbrev pub after : List CsrValue → Option (List CsrValue) → Option (List CsrValue)
after list None = None
after list (Some csrs) = Some (list ++ csrs)

-- none were read
pub after_start : (csrs : Option (List CsrValue)) → after [] csrs ≡ csrs
after_start None = refl
after_start (Some csrs) = refl

after_more : (list : List CsrValue) (csr : CsrValue) (more : Option (List CsrValue))
    → after list (csr_before (Some csr) more) ≡ after (list ++ (csr ∷ [])) more
after_more list csr None = refl
after_more list csr (Some csrs) = ap Some (sym (append_assoc list (csr ∷ []) csrs))

-- the next one is wrong
pub csrs_none : (list : List CsrValue) (room : ℕ) (text : List ℕ) → 0 < room → csr_in (until 44 text) ≡ None
    → after list (some_csrs_in room text) ≡ None
unfolding some_csrs_in
csrs_none list zero text some e = refl
csrs_none list (suc room) text some e =
    ap (λ o. after list (csr_before o (if nat_eq (length (until 44 text)) (length text) then Some []
    else some_csrs_in room (behind 44 text)))) e

-- the next one is the last
pub csrs_last : (list : List CsrValue) (room : ℕ) (text : List ℕ) (csr : CsrValue) → 0 < room
    → csr_in (until 44 text) ≡ Some csr → length (until 44 text) ≡ length text
    → after list (some_csrs_in room text) ≡ Some (list ++ (csr ∷ []))
unfolding some_csrs_in
csrs_last list zero text csr some e last = absurd (omega arith)
csrs_last list (suc room) text csr some e last =
    let test = eq-eqb (length (until 44 text)) (length text) last in
    λ i. after list (csr_before (e i) (if test i then Some [] else some_csrs_in room (behind 44 text)))

-- others follow the next one
pub csrs_more : (list : List CsrValue) (room : ℕ) (text : List ℕ) (csr : CsrValue) → 0 < room
    → csr_in (until 44 text) ≡ Some csr → (length (until 44 text) ≡ length text → ⊥)
    → after list (some_csrs_in room text) ≡ after (list ++ (csr ∷ [])) (some_csrs_in (room - 1) (behind 44 text))
unfolding some_csrs_in
csrs_more list zero text csr some e more = absurd (omega arith)
csrs_more list (suc room) text csr some e more =
    let test = ne_eqb (length (until 44 text)) (length text) more in
    let less : suc room - 1 ≡ room = omega arith in
    (λ i. after list (csr_before (e i) (if test i then Some [] else some_csrs_in room (behind 44 text))))
    ∙ after_more list csr (some_csrs_in room (behind 44 text))
    ∙ ap (λ n. after (list ++ (csr ∷ [])) (some_csrs_in n (behind 44 text))) (sym less)
