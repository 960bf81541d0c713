-- What a table of marks stands for.
use Rattle.std.proofs.Common.{ℕ, zero, suc, ◌<◌, ◌≡◌, ◌⊎◌, inl, inr, Bool, true, false, List, [], ◌∷◌, length, eqb, ltb}
use Rattle.std.proofs.Common.{cond, ◌&&◌, ◌||◌, Option, Some, None, refl, sym, ap, subst, ◌∙◌, arith, is_some, get_or}
use Rattle.std.proofs.Common.{replicate, set}
use Rattle.std.proofs.Math.ListN.{length-set}
use Rattle.std.specs.List.{list_any}
use Rattle.std.specs.Prelude.{nat_eq}
use Rattle.std.proofs.lemmas.Bool.{both_ways, false≢true, eq-eqb, eqb-true, lt-ltb, and_parts, and_from, or_cases}
use Rattle.std.proofs.lemmas.Bool.{or_left, or_right}
use Rattle.std.proofs.lemmas.List.{get_or-set_same, get_or-set_other}
use Rattle.rv_decode.specs.declared.instruction.Insn.{Insn}
use Rattle.rv_decode.specs.declared.registers.Register.{Register}
use Rattle.rv_decode.specs.declared.registers.Register.TheVariants.{X, Csr}
use Rattle.rv_decode.specs.Registers.{is_number, is_register, sets, carries, is_address, is_control}
use Rattle.rv_decode.specs.Listing.{IsInsn}
use Rattle.csr_file.specs.CsrFile.{is_implemented}
use Rattle.tandem_base.specs.CsrNumbers.{numbers}
use Rattle.tandem_base.specs.declared.mark.Mark.{Mark}
use Rattle.dep_tracker.specs.Marks.{Started, DependsOn, CarriedTo, UsedBy, UsedIn, IsLatestMark}
use Rattle.dep_tracker.specs.Tables.{MarkTable, StandsFor, IsKnown, index_in, mark_at, mark_of, x_mark, put_mark}
use Rattle.dep_tracker.specs.Tables.{csr_place, later_mark}
use Rattle.dep_tracker.proofs.Depending.{after_one, one_more, none_at_first, none_by_zero, used_in, used_now}
use Rattle.dep_tracker.proofs.Depending.{used_before, used_none}
use Rattle.dep_tracker.proofs.Insns.{sets_below, sets_stored, carries_no_csr, csr_named}
use Rattle.dep_tracker.proofs.Latest.{same, one, both}

-- ---- at the start

abbrev nones : ℕ → List (Option Mark)
nones n = replicate n None

get_none : (n k : ℕ) → get_or (nones n) k None ≡ None
get_none zero k = refl
get_none (suc n) zero = refl
get_none (suc n) (suc k) = get_none n k

abbrev empty : MarkTable
empty = record { registers = nones 32; csrs = nones 12; control = None; past_address = None }

pub starts : StandsFor empty []
starts = record {
  registers = λ r. subst (λ (o : Option Mark). IsLatestMark (DependsOn [] r) o) (sym (none_of r)) (none_at_first r);
  control = used_none is_control;
  past_address = used_none is_address;
}
  where
    none_of : (r : Register) → mark_at empty r ≡ None
    none_of (X n) = get_none 32 n
    none_of (Csr n) = get_none 12 (index_in numbers n)

-- ---- reading

-- by the register with that number, where there is one
abbrev ByNumber : Option ℕ → List Started → Mark → Type 0
ByNumber source ws m = (n : ℕ) × (is_number source n ≡ true) × DependsOn ws (X n) m

by_number : (t : MarkTable) (ws : List Started) → StandsFor t ws → (source : Option ℕ)
    → IsLatestMark (ByNumber source ws) (x_mark t source)
by_number t ws st None = λ m h. false≢true h.1
by_number t ws st (Some n) = same (DependsOn ws (X n)) (ByNumber (Some n) ws) (λ m d. (n, eq-eqb n n refl, d))
    (λ m h. subst (λ (k : ℕ). DependsOn ws (X k) m) (sym (eqb-true n h.0 h.1)) h.2) (mark_at t (X n))
    (st.registers (X n))

-- by that register, where there is one
abbrev ByRegister : Option Register → List Started → Mark → Type 0
ByRegister source ws m = (q : Register) × (is_register source q ≡ true) × DependsOn ws q m

by_register : (t : MarkTable) (ws : List Started) → StandsFor t ws → (source : Option Register)
    → IsLatestMark (ByRegister source ws) (mark_of t source)
by_register t ws st None = λ m h. false≢true h.1
by_register t ws st (Some (X n)) =
    same (DependsOn ws (X n)) (ByRegister (Some (X n)) ws) (to n) from (mark_at t (X n)) (st.registers (X n))
  where
    to : (k : ℕ) → (m : Mark) → DependsOn ws (X k) m → ByRegister (Some (X k)) ws m
    to zero m d = absurd (none_by_zero ws m d)
    to (suc k) m d = (
      X (suc k),
      and_from (ltb 0 (suc k)) (eqb (suc k) (suc k)) (lt-ltb 0 (suc k) (omega arith))
          (eq-eqb (suc k) (suc k) refl),
      d,
    )

    from : (m : Mark) → ByRegister (Some (X n)) ws m → DependsOn ws (X n) m
    from m h = at h.0 h.1 h.2
      where
        at : (q : Register) → is_register (Some (X n)) q ≡ true → DependsOn ws q m → DependsOn ws (X n) m
        at (X k) e d = subst (λ (z : ℕ). DependsOn ws (X z) m) (eqb-true k n (and_parts _ _ e).1) d
        at (Csr k) e d = absurd (false≢true e)
by_register t ws st (Some (Csr n)) =
    same (DependsOn ws (Csr n)) (ByRegister (Some (Csr n)) ws) (λ m d. (Csr n, eq-eqb n n refl, d)) from
    (mark_at t (Csr n)) (st.registers (Csr n))
  where
    from : (m : Mark) → ByRegister (Some (Csr n)) ws m → DependsOn ws (Csr n) m
    from m h = at h.0 h.1 h.2
      where
        at : (q : Register) → is_register (Some (Csr n)) q ≡ true → DependsOn ws q m → DependsOn ws (Csr n) m
        at (X k) e d = absurd (false≢true e)
        at (Csr k) e d = subst (λ (z : ℕ). DependsOn ws (Csr z) m) (eqb-true k n e) d

-- an instruction's use of one register
pub used_one : (t : MarkTable) (ws : List Started) (test : Insn → Register → Bool) (i : Insn) (source : Option ℕ)
    → ((n : ℕ) → test i (Csr n) ≡ false) → ((n : ℕ) → test i (X n) ≡ is_number source n) → StandsFor t ws
    → IsLatestMark (UsedBy test i ws) (x_mark t source)
used_one t ws test i source never is st = same (ByNumber source ws) (UsedBy test i ws)
    (λ m h. (X h.0, is h.0 ∙ h.1, h.2)) (λ m h. at m h.0 h.1 h.2) (x_mark t source) (by_number t ws st source)
  where
    at : (m : Mark) (q : Register) → test i q ≡ true → DependsOn ws q m → ByNumber source ws m
    at m (X n) e d = (n, sym (is n) ∙ e, d)
    at m (Csr n) e d = absurd (both_ways _ (never n) e)

-- and of two
pub used_two : (t : MarkTable) (ws : List Started) (test : Insn → Register → Bool) (i : Insn)
    (first second : Option ℕ)
    → ((n : ℕ) → test i (Csr n) ≡ false)
    → ((n : ℕ) → test i (X n) ≡ is_number first n || is_number second n)
    → StandsFor t ws → IsLatestMark (UsedBy test i ws) (later_mark (x_mark t first) (x_mark t second))
used_two t ws test i first second never is st = same (λ m. ByNumber first ws m ⊎ ByNumber second ws m)
    (UsedBy test i ws)
    (λ m o. elim o [
      | inl h ↦ (X h.0, is h.0 ∙ or_left (is_number first h.0) (is_number second h.0) h.1, h.2)
      | inr h ↦ (X h.0, is h.0 ∙ or_right (is_number first h.0) (is_number second h.0) h.1, h.2)
    ]) (λ m h. at m h.0 h.1 h.2) (later_mark (x_mark t first) (x_mark t second))
    (both (ByNumber first ws) (ByNumber second ws) (x_mark t first) (x_mark t second) (by_number t ws st first)
    (by_number t ws st second))
  where
    at : (m : Mark) (q : Register) → test i q ≡ true → DependsOn ws q m
        → ByNumber first ws m ⊎ ByNumber second ws m
    at m (X n) e d = elim (or_cases (is_number first n) (is_number second n) (sym (is n) ∙ e)) [
      | inl f ↦ inl (n, f, d)
      | inr f ↦ inr (n, f, d)
    ]
    at m (Csr n) e d = absurd (both_ways _ (never n) e)

-- what is carried to the destination
pub carried_x : (t : MarkTable) (ws : List Started) (i : Insn) (first second : Option Register)
    → ((q : Register) (n : ℕ) → carries i q (X n)
    ≡ (is_register first q || is_register second q) && sets i true (X n)) → StandsFor t ws
    → (n : ℕ) → sets i true (X n) ≡ true
    → IsLatestMark (CarriedTo i ws (X n)) (later_mark (mark_of t first) (mark_of t second))
carried_x t ws i first second is st n set_it =
    same (λ m. ByRegister first ws m ⊎ ByRegister second ws m) (CarriedTo i ws (X n))
    (λ m o. elim o [
      | inl h ↦ (
        h.0,
        is h.0 n ∙ and_from _ _ (or_left (is_register first h.0) (is_register second h.0) h.1) set_it,
        h.2,
      )
      | inr h ↦ (
        h.0,
        is h.0 n ∙ and_from _ _ (or_right (is_register first h.0) (is_register second h.0) h.1) set_it,
        h.2,
      )
    ]) (λ m h. elim (or_cases (is_register first h.0) (is_register second h.0)
    (and_parts (is_register first h.0 || is_register second h.0) (sets i true (X n)) (sym (is h.0 n) ∙ h.1)).0) [
      | inl f ↦ inl (h.0, f, h.2)
      | inr f ↦ inr (h.0, f, h.2)
    ]) (later_mark (mark_of t first) (mark_of t second))
    (both (ByRegister first ws) (ByRegister second ws) (mark_of t first) (mark_of t second) (by_register t ws st first)
    (by_register t ws st second))

pub carried_csr : (t : MarkTable) (ws : List Started) (i : Insn) (source : Option ℕ)
    → ((r n : ℕ) → carries i (X r) (Csr n) ≡ is_number source r && sets i true (Csr n)) → StandsFor t ws
    → (n : ℕ) → sets i true (Csr n) ≡ true → IsLatestMark (CarriedTo i ws (Csr n)) (x_mark t source)
carried_csr t ws i source is st n set_it = same (ByNumber source ws) (CarriedTo i ws (Csr n))
    (λ m h. (X h.0, is h.0 n ∙ and_from _ _ h.1 set_it, h.2)) (λ m h. at m h.0 h.1 h.2) (x_mark t source)
    (by_number t ws st source)
  where
    at : (m : Mark) (q : Register) → carries i q (Csr n) ≡ true → DependsOn ws q m → ByNumber source ws m
    at m (X k) e d = (k, (and_parts (is_number source k) (sets i true (Csr n)) (sym (is k n) ∙ e)).0, d)
    at m (Csr k) e d = absurd (both_ways _ (carries_no_csr i k n) e)

-- ---- writing

-- where a known number stands
index_back : (ks : List ℕ) (n : ℕ) → list_any (nat_eq n) ks ≡ true
    → (index_in ks n < length ks) × (get_or ks (index_in ks n) 0 ≡ n)
index_back [] n e = absurd (false≢true e)
index_back (k ∷ ks) n e = at (eqb n k) refl e (λ g. index_back ks n g)
  where
    at : (b : Bool) → eqb n k ≡ b → (b || list_any (nat_eq n) ks) ≡ true
        → (list_any (nat_eq n) ks ≡ true → (index_in ks n < length ks) × (get_or ks (index_in ks n) 0 ≡ n))
        → (cond b 0 (suc (index_in ks n)) < length (k ∷ ks))
        × (get_or (k ∷ ks) (cond b 0 (suc (index_in ks n))) 0 ≡ n)
    at true f g back = (omega arith, sym (eqb-true n k f))
    at false f g back = (let h = back g in (omega (arith, h.0), h.1))

index_out : (ks : List ℕ) (n : ℕ) → list_any (nat_eq n) ks ≡ false → index_in ks n ≡ length ks
index_out [] n e = refl
index_out (k ∷ ks) n e = at (eqb n k) refl e (λ g. index_out ks n g)
  where
    at : (b : Bool) → eqb n k ≡ b → (b || list_any (nat_eq n) ks) ≡ false
        → (list_any (nat_eq n) ks ≡ false → index_in ks n ≡ length ks)
        → cond b 0 (suc (index_in ks n)) ≡ length (k ∷ ks)
    at true f g out = absurd (both_ways _ g refl)
    at false f g out = ap suc (out g)

pub x_fits : (i : Insn) (stored : Bool) (target : Option ℕ) → ((n : ℕ) → sets i stored (X n) ≡ is_number target n)
    → IsInsn i → (n : ℕ) → target ≡ Some n → n < 32
x_fits i stored target is fits n e =
    sets_below i stored n fits (is n ∙ ap (λ (o : Option ℕ). is_number o n) e ∙ eq-eqb n n refl)

pub csr_fits : (target : Option ℕ) → ((n : ℕ) → target ≡ Some n → is_implemented n ≡ true)
    → (n : ℕ) → target ≡ Some n → index_in numbers n < 12
csr_fits target known n e = (index_back numbers n (known n e)).0

-- a known name is a known destination
pub csr_known : (i : Insn) → IsKnown i → (target : Option ℕ)
    → ((stored : Bool) (n : ℕ) → sets i stored (Csr n) ≡ is_number target n)
    → (n : ℕ) → target ≡ Some n → is_implemented n ≡ true
csr_known i known target is n e = known n (csr_named i true n
    (is true n ∙ ap (λ (o : Option ℕ). is_number o n) e ∙ eq-eqb n n refl))

-- the marks after one more instruction, by the old mark of a register and the new one of what it sets
after_mark : (w : Started) (ws : List Started) (r : Register) (old fresh : Option Mark)
    → IsLatestMark (DependsOn ws r) old
    → (sets w.insn (is_some w.start) r ≡ true → IsLatestMark (CarriedTo w.insn ws r) fresh)
    → IsLatestMark (DependsOn (w ∷ ws) r) (cond (sets w.insn (is_some w.start) r) (later_mark w.start fresh) old)
after_mark w ws r old fresh before carried = at (sets w.insn (is_some w.start) r) refl
  where
    at : (b : Bool) → sets w.insn (is_some w.start) r ≡ b
        → IsLatestMark (DependsOn (w ∷ ws) r) (cond b (later_mark w.start fresh) old)
    at true e = same (λ m. (w.start ≡ Some m) ⊎ CarriedTo w.insn ws r m) (DependsOn (w ∷ ws) r)
        (λ m o. one_more w ws r m (inr (e, o)))
        (λ m d. elim (after_one w ws r m d) [ inl a ↦ absurd (both_ways _ a.0 e) | inr a ↦ a.1 ])
        (later_mark w.start fresh)
        (both (λ m. w.start ≡ Some m) (CarriedTo w.insn ws r) w.start fresh (one w.start) (carried e))
    at false e = same (DependsOn ws r) (DependsOn (w ∷ ws) r) (λ m d. one_more w ws r m (inl (e, d)))
        (λ m d. elim (after_one w ws r m d) [ inl a ↦ a.1 | inr a ↦ absurd (both_ways _ e a.0) ]) old before

used_later : (test : Insn → Register → Bool) (w : Started) (ws : List Started) (old fresh : Option Mark)
    → IsLatestMark (UsedIn test ws) old → IsLatestMark (UsedBy test w.insn ws) fresh
    → IsLatestMark (UsedIn test (w ∷ ws)) (later_mark old fresh)
used_later test w ws old fresh before now =
    same (λ m. UsedIn test ws m ⊎ UsedBy test w.insn ws m) (UsedIn test (w ∷ ws))
    (λ m o. elim o [ inl h ↦ used_before test w ws m h | inr h ↦ used_now test w ws m h ])
    (λ m h. elim (used_in test w ws m h) [ inl a ↦ inr a | inr a ↦ inl a ]) (later_mark old fresh)
    (both (UsedIn test ws) (UsedBy test w.insn ws) old fresh before now)

-- reading after one was set
put_get : (marks : List (Option Mark)) (target : Option ℕ) (mark : Option Mark) (n : ℕ)
    → ((k : ℕ) → target ≡ Some k → k < length marks)
    → get_or (put_mark target mark marks) n None ≡ cond (is_number target n) mark (get_or marks n None)
put_get marks None mark n l = refl
put_get marks (Some k) mark n l = at (eqb k n) refl
  where
    at : (b : Bool) → eqb k n ≡ b → get_or (set marks k mark) n None ≡ cond b mark (get_or marks n None)
    at true e = subst (λ (z : ℕ). get_or (set marks k mark) z None ≡ mark) (eqb-true k n e)
        (get_or-set_same marks k mark None (l k refl))
    at false e = get_or-set_other marks k n mark None (λ f. both_ways _ e (eq-eqb k n (sym f)))

csr_get : (marks : List (Option Mark)) (target : Option ℕ) (mark : Option Mark) (n : ℕ) → length marks ≡ 12
    → ((k : ℕ) → target ≡ Some k → is_implemented k ≡ true)
    → get_or (put_mark (csr_place target) mark marks) (index_in numbers n) None
    ≡ cond (is_number target n) mark (get_or marks (index_in numbers n) None)
csr_get marks None mark n twelve known = refl
csr_get marks (Some k) mark n twelve known = at (eqb k n) refl
  where
    back : (index_in numbers k < 12) × (get_or numbers (index_in numbers k) 0 ≡ k)
    back = index_back numbers k (known k refl)

    here : index_in numbers k < length marks
    here = (let l = back.0 in omega arith)

    at : (b : Bool) → eqb k n ≡ b → get_or (set marks (index_in numbers k) mark) (index_in numbers n) None
        ≡ cond b mark (get_or marks (index_in numbers n) None)
    at true e = subst
        (λ (z : ℕ). get_or (set marks (index_in numbers k) mark) (index_in numbers z) None ≡ mark)
        (eqb-true k n e) (get_or-set_same marks (index_in numbers k) mark None here)
    at false e = get_or-set_other marks (index_in numbers k) (index_in numbers n) mark None
        (λ f. both_ways _ e (eq-eqb k n (sym (same_number f))))
      where
        same_number : index_in numbers n ≡ index_in numbers k → n ≡ k
        same_number f = at_known (list_any (nat_eq n) numbers) refl
          where
            at_known : (b : Bool) → list_any (nat_eq n) numbers ≡ b → n ≡ k
            at_known true g =
                sym (index_back numbers n g).1 ∙ ap (λ (z : ℕ). get_or numbers z 0) f ∙ back.1
            at_known false g =
                (let h = index_out numbers n g in let l = back.0 in absurd (omega arith))

module _ (t : MarkTable) (w : Started) (ws : List Started) (st : StandsFor t ws) (fits : IsInsn w.insn)
    (long : length t.registers ≡ 32) (twelve : length t.csrs ≡ 12) (x_target csr_target : Option ℕ)
    (sets_x : (n : ℕ) → sets w.insn (is_some w.start) (X n) ≡ is_number x_target n)
    (sets_csr : (stored : Bool) (n : ℕ) → sets w.insn stored (Csr n) ≡ is_number csr_target n)
    (known : (n : ℕ) → csr_target ≡ Some n → is_implemented n ≡ true) (x csr address control : Option Mark)
    (x_is : (n : ℕ) → sets w.insn true (X n) ≡ true → IsLatestMark (CarriedTo w.insn ws (X n)) x)
    (csr_is : (n : ℕ) → sets w.insn true (Csr n) ≡ true → IsLatestMark (CarriedTo w.insn ws (Csr n)) csr)
    (address_is : IsLatestMark (UsedBy is_address w.insn ws) address)
    (control_is : IsLatestMark (UsedBy is_control w.insn ws) control) where
  abbrev pub next : MarkTable
  next = record {
    registers = put_mark x_target (later_mark w.start x) t.registers;
    csrs = put_mark (csr_place csr_target) (later_mark w.start csr) t.csrs;
    control = later_mark t.control control;
    past_address = later_mark t.past_address address;
  }

  marks : (r : Register) → IsLatestMark (DependsOn (w ∷ ws) r) (mark_at next r)
  marks (X n) = subst (λ (o : Option Mark). IsLatestMark (DependsOn (w ∷ ws) (X n)) o)
      (ap (λ (b : Bool). cond b (later_mark w.start x) (mark_at t (X n))) (sets_x n)
      ∙ sym (put_get t.registers x_target (later_mark w.start x) n (λ k e.
      (let l = x_fits w.insn (is_some w.start) x_target sets_x fits k e in omega arith))))
      (after_mark w ws (X n) (mark_at t (X n)) x (st.registers (X n))
      (λ e. x_is n (sets_stored w.insn (is_some w.start) (X n) e)))
  marks (Csr n) = subst (λ (o : Option Mark). IsLatestMark (DependsOn (w ∷ ws) (Csr n)) o)
      (ap (λ (b : Bool). cond b (later_mark w.start csr) (mark_at t (Csr n))) (sets_csr (is_some w.start) n)
      ∙ sym (csr_get t.csrs csr_target (later_mark w.start csr) n twelve known))
      (after_mark w ws (Csr n) (mark_at t (Csr n)) csr (st.registers (Csr n))
      (λ e. csr_is n (sets_stored w.insn (is_some w.start) (Csr n) e)))

  pub goes_on : StandsFor next (w ∷ ws)
  goes_on = record {
    registers = marks;
    control = used_later is_control w ws t.control control st.control control_is;
    past_address = used_later is_address w ws t.past_address address st.past_address address_is;
  }

-- a table with the same marks
pub stands_as : (t u : MarkTable) (ws : List Started) → t.registers ≡ u.registers → t.csrs ≡ u.csrs
    → t.control ≡ u.control → t.past_address ≡ u.past_address → StandsFor t ws → StandsFor u ws
stands_as t u ws a b c d st = record {
  registers = at;
  control = subst (λ (o : Option Mark). IsLatestMark (UsedIn is_control ws) o) c st.control;
  past_address = subst (λ (o : Option Mark). IsLatestMark (UsedIn is_address ws) o) d st.past_address;
}
  where
    at : (r : Register) → IsLatestMark (DependsOn ws r) (mark_at u r)
    at (X n) = subst (λ (l : List (Option Mark)). IsLatestMark (DependsOn ws (X n)) (get_or l n None)) a
        (st.registers (X n))
    at (Csr n) =
        subst (λ (l : List (Option Mark)). IsLatestMark (DependsOn ws (Csr n)) (get_or l (index_in numbers n) None)) b
        (st.registers (Csr n))

pub put_length : (target : Option ℕ) (mark : Option Mark) (marks : List (Option Mark))
    → length (put_mark target mark marks) ≡ length marks
put_length None mark marks = refl
put_length (Some n) mark marks = simp length-set
