-- How the first difference of two lists is found entry by entry.
use Rattle.std.proofs.Common.{◌≡◌, ℕ, suc, zero, ◌+◌, ◌≤◌, List, [], ◌∷◌, length, drop, refl, None, Some, Ok}
use Rattle.std.proofs.Common.{Err, sym, ap, subst, ◌∙◌, arith}
use Rattle.std.specs.Prelude.{OnErr, slice_get}
use Rattle.std.proofs.lemmas.List.{drop_all}
use Rattle.std.specs.declared.option.Option.{Option}
use Rattle.std.specs.declared.result.Result.{Result}
use Rattle.msg_frames.specs.declared.csrs.CsrValue.{CsrValue}
use Rattle.verdict_report.specs.declared.fault.Fault.{Fault}
use Rattle.tandem_base.specs.FirstFault.{◌or_else◌, passed}
use Rattle.matching.specs.declared.faulty.Faulty.{Faulty}
use Rattle.matching.specs.Checks.{told, Checks}
use Rattle.matching.specs.Compares.{csr_entry_fault_of, csr_difference, csr_fault_of}

only_got : (n k : ℕ) (gs : List CsrValue) →
    csr_difference n [] (drop k gs)
    ≡ ◌or_else◌ (csr_entry_fault_of n None (slice_get gs k)) (csr_difference (n + 1) [] (drop (suc k) gs))
only_got n zero [] = refl
only_got n zero (g ∷ gs) = refl
only_got n (suc k) [] = refl
only_got n (suc k) (g ∷ gs) = only_got n k gs

only_want : (n k : ℕ) (ws : List CsrValue) →
    csr_difference n (drop k ws) []
    ≡ ◌or_else◌ (csr_entry_fault_of n (slice_get ws k) None) (csr_difference (n + 1) (drop (suc k) ws) [])
only_want n zero [] = refl
only_want n zero (w ∷ ws) = refl
only_want n (suc k) [] = refl
only_want n (suc k) (w ∷ ws) = only_want n k ws

step : (n k : ℕ) (ws gs : List CsrValue) →
    csr_difference n (drop k ws) (drop k gs)
    ≡ ◌or_else◌ (csr_entry_fault_of n (slice_get ws k) (slice_get gs k)) (csr_difference (n + 1) (drop (suc k) ws)
    (drop (suc k) gs))
step n zero [] [] = refl
step n (suc k) [] [] = refl
step n zero [] (g ∷ gs) = refl
step n (suc k) [] (g ∷ gs) = only_got n k gs
step n zero (w ∷ ws) [] = refl
step n (suc k) (w ∷ ws) [] = only_want n k ws
step n zero (w ∷ ws) (g ∷ gs) = refl
step n (suc k) (w ∷ ws) (g ∷ gs) = step n k ws gs

-- where entry k is looked at, the answer is its difference, or that of the entries after it
pub csr_difference-step : (k : ℕ) (ws gs : List CsrValue) →
    csr_difference k (drop k ws) (drop k gs)
    ≡ ◌or_else◌ (csr_entry_fault_of k (slice_get ws k) (slice_get gs k)) (csr_difference (k + 1) (drop (k + 1) ws)
    (drop (k + 1) gs))
csr_difference-step k ws gs =
    let e : suc k ≡ k + 1 = omega arith in
    step k k ws gs
    ∙ ap (λ (n : ℕ). ◌or_else◌ (csr_entry_fault_of k (slice_get ws k) (slice_get gs k)) (csr_difference (k + 1)
    (drop n ws) (drop n gs))) e

-- a test that passed found no fault, and one that failed found its fault
pub passed_ok : (o : Option Fault) (u : Unit {0}) → passed o ≡ Ok u → o ≡ None
passed_ok None u e = refl
passed_ok (Some f) u e = absurd (cc)

pub passed_err : (o : Option Fault) (f : Fault) → passed o ≡ Err f → o ≡ Some f
passed_err None f e = absurd (cc)
passed_err (Some g) f e = cc

-- a check that passed found no fault, and one that failed put its fault into its place
pub told_ok : (o : Option Fault) (u : Unit {0}) → told o ≡ Ok u → o ≡ None
told_ok None u e = refl
told_ok (Some f) u e = absurd (cc)

pub told_err : (o : Option Fault) (e : Faulty) → told o ≡ Err e → (f : Fault) × (o ≡ Some f)
told_err None e is = absurd (cc)
told_err (Some f) e is = (f, refl)

on_err : (checked : Result (Unit {0}) Faulty) (P : Type 0) (faulty : Faulty) → checked ≡ Err faulty → OnErr checked P
    → P
on_err (Ok u) P faulty e p = absurd (cc)
on_err (Err f) P faulty e p = p

-- an entry that differs, where none before it does, is the first difference
csr_broken : (k : ℕ) (ws gs : List CsrValue) →
    csr_difference 0 ws gs ≡ csr_difference k (drop k ws) (drop k gs) → (f : Fault) →
    csr_entry_fault_of k (slice_get ws k) (slice_get gs k) ≡ Some f →
    csr_fault_of ws gs ≡ csr_entry_fault_of k (slice_get ws k) (slice_get gs k)
csr_broken k ws gs before f found =
    before ∙ csr_difference-step k ws gs
    ∙ ap (λ (e : Option Fault). ◌or_else◌ e (csr_difference (k + 1) (drop (k + 1) ws) (drop (k + 1) gs))) found
    ∙ sym found

-- so the answer to it is the answer to all
pub csr_refused : (k : ℕ) (ws gs : List CsrValue) (checked : Result (Unit {0}) Faulty) (place : Option Fault)
    (faulty : Faulty) (want got : Option CsrValue) →
    csr_difference 0 ws gs ≡ csr_difference k (drop k ws) (drop k gs) →
    want ≡ slice_get ws k → got ≡ slice_get gs k →
    Checks (csr_entry_fault_of k want got) checked place → checked ≡ Err faulty →
    Checks (csr_fault_of ws gs) (Err faulty) place
csr_refused k ws gs checked place faulty want got before w g by_entry broken =
    let entry = csr_entry_fault_of k (slice_get ws k) (slice_get gs k) in
    let is : Checks entry checked place =
    subst (λ (o : Option CsrValue). Checks (csr_entry_fault_of k o (slice_get gs k)) checked place) w
    (subst (λ (o : Option CsrValue). Checks (csr_entry_fault_of k want o) checked place) g by_entry) in
    let found = told_err entry faulty (sym is.0 ∙ broken) in
    subst (λ (o : Option Fault). Checks o (Err faulty) place) (sym (csr_broken k ws gs before found.0 found.1))
    (sym broken ∙ is.0, on_err checked (place ≡ entry) faulty broken is.1)

-- one that doesn't differ is passed
pub csr_passed : (k : ℕ) (ws gs : List CsrValue) (checked : Result (Unit {0}) Faulty) (u : Unit {0}) →
    csr_difference 0 ws gs ≡ csr_difference k (drop k ws) (drop k gs) →
    checked ≡ told (csr_entry_fault_of k (slice_get ws k) (slice_get gs k)) → checked ≡ Ok u →
    csr_difference 0 ws gs ≡ csr_difference (k + 1) (drop (k + 1) ws) (drop (k + 1) gs)
csr_passed k ws gs checked u before is fine =
    let none : csr_entry_fault_of k (slice_get ws k) (slice_get gs k) ≡ None = told_ok _ u (sym is ∙ fine) in
    before ∙ csr_difference-step k ws gs
    ∙ ap (λ (e : Option Fault). ◌or_else◌ e (csr_difference (k + 1) (drop (k + 1) ws) (drop (k + 1) gs))) none

-- past both ends nothing differs
pub csr_ended : (k : ℕ) (ws gs : List CsrValue) →
    csr_difference 0 ws gs ≡ csr_difference k (drop k ws) (drop k gs) → length ws ≤ k → length gs ≤ k →
    csr_difference 0 ws gs ≡ None
csr_ended k ws gs before wants gots =
    before ∙ ap (λ xs. csr_difference k xs (drop k gs)) (drop_all k ws wants)
    ∙ ap (λ xs. csr_difference k [] xs) (drop_all k gs gots)
