-- What tells of the first operation of a broken pair, rule by rule.
use Rattle.std.proofs.Common.{ℕ, ◌<◌, ◌≡◌, ◌⊎◌, inl, inr, Bool, true, List, Some, refl, sym, ap, subst}
use Rattle.std.proofs.Common.{Option}
use Rattle.std.proofs.Common.{◌∙◌, arith}
use Rattle.std.specs.Prelude.{◌||◌}
use Rattle.std.specs.List.{Contains}
use Rattle.rv_decode.specs.declared.instruction.Insn.{Insn}
use Rattle.rv_decode.specs.Kinds.{is_lr, is_sc, is_amo_or_sc}
use Rattle.rv_decode.specs.Registers.{is_control, is_address}
use Rattle.rv_decode.specs.declared.registers.Register.{Register}
use Rattle.rvwmo_model.specs.declared.instructions.Retired.{Retired}
use Rattle.rvwmo_model.specs.declared.operations.Op.{Op}
use Rattle.rvwmo_model.specs.declared.traces.Trace.{Trace}
use Rattle.rvwmo_model.specs.Order.{standing}
use Rattle.rvwmo_model.specs.ProgramOrder.{insn_at, insn_of, is_one}
use Rattle.rvwmo_model.specs.Flows.{DependsBy, AddressDep, DataDep, BranchDep}
use Rattle.rvwmo_model.specs.declared.preserved.Rule.{Rule}
use Rattle.rvwmo_model.specs.declared.preserved.Rule.TheVariants.{R1, R2, R3, R4, R5, R6, R7, R8, R9, R10, R11, R12}
use Rattle.rvwmo_model.specs.declared.preserved.Rule.TheVariants.{R13}
use Rattle.rvwmo_model.specs.Rules.{Orders, Broken}
use Rattle.rvwmo_model.specs.InForm.{IsPlaced}
use Rattle.rvwmo_model.proofs.LookUp.{found_in}
use Rattle.rvwmo_model.proofs.Tested.{one_some}
use Rattle.growth_laws.specs.Kinds.{WellKinded}
use Rattle.growth_laws.specs.Growth.{AddInsn}
use Rattle.growth_laws.proofs.Growths.{insn_link}
use Rattle.growth_laws.proofs.Operations.{insn_still}
use Rattle.growth_laws.proofs.SameInsns.{address_on, data_on, branch_on}
use Rattle.window_laws.specs.Latest.{IsLatestIfAny}
use Rattle.window_laws.proofs.Latests.{latest_same}
use Rattle.rule_laws.specs.Above.{Over}
use Rattle.rule_laws.specs.Own.{IsOwn, IsOwnPerformed}
use Rattle.rule_laws.specs.Firsts.{IsFirstBy, IsStillOpen, LeadsToRead}
use Rattle.rule_laws.specs.Firsts.{IsFirstOver}
use Rattle.rule_laws.specs.FirstLaws.{FirstsAreTold, FirstIsLatest, FirstIsPerformed, RetireReports}
use Rattle.rule_laws.proofs.Candidates.{own_older, older_old, insn_before, to_broken, from_broken}
use Rattle.rule_laws.proofs.MarkedRules.{fenced_to, fenced_from}
use Rattle.rule_laws.proofs.Rule2.{to_apart, from_apart}
use Rattle.rule_laws.proofs.SourceRules.{atomic_one, rule_by_mark}
use Rattle.rule_laws.proofs.Reported.{reported, unreported}

module _ (t t' : Trace) (r : Retired) (new : List Op) (k : WellKinded t) (s : AddInsn t t' r new) (b : Op)
    (mine : Contains new b) (pb : IsPlaced b) where
  abbrev H : ℕ
  H = b.name.hart

  k' : WellKinded t'
  k' = (insn_link t t' r new k s).after

  -- instructions before b are as they were
  still : (n m : ℕ) → n < b.name.tag → (m < n) ⊎ (m ≡ n) → insn_at t'.insns H m ≡ insn_at t.insns H m
  still n m l d =
      insn_before t t' r new k s b m mine (elim d [ inl a ↦ omega (arith, a, l) | inr a ↦ omega (arith, a, l) ])

  -- an instruction that was there is before b
  before_it : (test : Insn → Register → Bool) (n i : ℕ) → DependsBy test t.insns H n i → n < b.name.tag
  before_it test n i d =
      let w = one_some (λ w. test w d.0) (insn_at t.insns H n) d.1 in
      let g = found_in t.insns H n w.0 w.1 in
      let of = s.are_of.own b mine in
      let l : w.0.tag < r.tag = s.younger w.0 g.0 (g.1 ∙ of.0) in
      omega (arith, l, g.2, of.1)

  tested_before : (test : Insn → Bool) (n : ℕ) → is_one test (insn_at t.insns H n) ≡ true → n < b.name.tag
  tested_before test n e =
      let w = one_some test (insn_at t.insns H n) e in
      let g = found_in t.insns H n w.0 w.1 in
      let of = s.are_of.own b mine in
      let l : w.0.tag < r.tag = s.younger w.0 g.0 (g.1 ∙ of.0) in
      omega (arith, l, g.2, of.1)

  insn_stays : (v : Op) → Contains t.ops v → insn_of t' v ≡ insn_of t v
  insn_stays v i = insn_still t t' r new v v.name.tag k s i (inr refl)

  -- a dependency of an instruction before b, in the trace with b and without
  on : (v : Op) → IsOwn t H v → (n : ℕ) → n < b.name.tag → AddressDep t.insns H n v.name.tag
      → AddressDep t'.insns v.name.hart n v.name.tag
  on v o n l d =
      subst (λ (h : ℕ). AddressDep t'.insns h n v.name.tag) (sym o.1)
      (address_on t t' H n (λ m e. still n m l e) n v.name.tag (inr refl) d)

  off : (v : Op) → IsOwn t H v → (n : ℕ) → n < b.name.tag → AddressDep t'.insns v.name.hart n v.name.tag
      → AddressDep t.insns H n v.name.tag
  off v o n l d =
      address_on t' t H n (λ m e. sym (still n m l e)) n v.name.tag (inr refl)
      (subst (λ (h : ℕ). AddressDep t'.insns h n v.name.tag) o.1 d)

  data_to : (v : Op) → IsOwn t H v → (n : ℕ) → n < b.name.tag → DataDep t.insns H n v.name.tag
      → DataDep t'.insns v.name.hart n v.name.tag
  data_to v o n l d =
      subst (λ (h : ℕ). DataDep t'.insns h n v.name.tag) (sym o.1)
      (data_on t t' H n (λ m e. still n m l e) n v.name.tag (inr refl) d)

  data_off : (v : Op) → IsOwn t H v → (n : ℕ) → n < b.name.tag → DataDep t'.insns v.name.hart n v.name.tag
      → DataDep t.insns H n v.name.tag
  data_off v o n l d =
      data_on t' t H n (λ m e. sym (still n m l e)) n v.name.tag (inr refl)
      (subst (λ (h : ℕ). DataDep t'.insns h n v.name.tag) o.1 d)

  branch_to : (v : Op) → IsOwn t H v → (n : ℕ) → n < b.name.tag → BranchDep t.insns H n v.name.tag
      → BranchDep t'.insns v.name.hart n v.name.tag
  branch_to v o n l d =
      subst (λ (h : ℕ). BranchDep t'.insns h n v.name.tag) (sym o.1)
      (branch_on t t' H n (λ m e. still n m l e) n v.name.tag (inr refl) d)

  branch_off : (v : Op) → IsOwn t H v → (n : ℕ) → n < b.name.tag → BranchDep t'.insns v.name.hart n v.name.tag
      → BranchDep t.insns H n v.name.tag
  branch_off v o n l d =
      branch_on t' t H n (λ m e. sym (still n m l e)) n v.name.tag (inr refl)
      (subst (λ (h : ℕ). BranchDep t'.insns h n v.name.tag) o.1 d)

  -- an LR or SC that was there, in the trace with b and without
  abbrev Reserving : Insn → Bool
  Reserving w = is_lr w || is_sc w

  open_to : (v : Op) → IsOwn t H v → IsStillOpen t t' b v → Orders R8 t' v b
  open_to v o p = (
    ap (is_one is_lr) (insn_stays v o.0) ∙ p.1.0,
    p.0,
    λ z. p.1.1 z.0 z.1 (ap (is_one Reserving) (sym (insn_before t t' r new k s b z.0 mine z.2))
        ∙ subst (λ (h : ℕ). is_one Reserving (insn_at t'.insns h z.0) ≡ true) o.1 z.3),
  )

  open_from : (v : Op) → IsOwn t H v → Orders R8 t' v b → IsStillOpen t t' b v
  open_from v o p = (
    p.1,
    (
      ap (is_one is_lr) (sym (insn_stays v o.0)) ∙ p.0,
      λ n l e. p.2 (
        n,
        l,
        tested_before Reserving n e,
        subst (λ (h : ℕ). is_one Reserving (insn_at t'.insns h n) ≡ true) (sym o.1)
            (ap (is_one Reserving) (insn_before t t' r new k s b n mine (tested_before Reserving n e)) ∙ e),
      ),
    ),
  )

  lead_to : (v : Op) → IsOwn t H v → LeadsToRead t t' b v → Orders R12 t' v b
  lead_to v o p =
      let m = p.1 in
      let own = p.4 in
      let l : m.name.tag < b.name.tag = own_older t t' r new k s m b own.0 mine own.1 in (
        m.name.tag,
        p.5,
        l,
        (
          elim p.6 [ inl a ↦ inl (on v o m.name.tag l a) | inr d ↦ inr (data_to v o m.name.tag l d) ],
          (p.0, m, p.2, p.3, s.ops_on m own.0, own.1 ∙ sym o.1, refl),
        ),
      )

  lead_from : (v : Op) → IsOwn t H v → Orders R12 t' v b → LeadsToRead t t' b v
  lead_from v o p =
      let f = p.3.1 in
      let m = f.1 in
      let one : m.name.hart ≡ H = f.5 ∙ o.1 in
      let l : m.name.tag < b.name.tag = omega (arith, p.2, f.6) in
      let lo : v.name.tag < m.name.tag = omega (arith, p.1, f.6) in
      let i = older_old t t' r new k s m b f.4 mine (sym one) l in
      let a : AddressDep t.insns H p.0 v.name.tag ⊎ DataDep t.insns H p.0 v.name.tag =
      elim p.3.0 [ inl a ↦ inl (off v o p.0 p.2 a) | inr d ↦ inr (data_off v o p.0 p.2 d) ] in (
        f.0,
        m,
        f.2,
        f.3,
        (i, one),
        lo,
        subst (λ (n : ℕ). AddressDep t.insns H n v.name.tag ⊎ DataDep t.insns H n v.name.tag) (sym f.6) a,
      )

  first_to : (j : Rule) (v : Op) → IsOwn t H v → IsFirstBy j t t' b v → Orders j t' v b
  first_to R1 v o p = p
  first_to R2 v o p = (to_apart t t' r new k s b mine pb v p.0 p.1 p.2).1
  first_to R3 v o p =
      (ap (is_one is_amo_or_sc) (insn_stays v o.0) ∙ p.0, (p.1.0, v, p.1.1, p.1.2, s.ops_on v o.0, refl, refl))
  first_to R4 v o p = (fenced_from t t' r new k s b mine pb v p.0 p.1 o p.2 p.3).1
  first_to R5 v o p = p
  first_to R6 v o p = p
  first_to R7 v o p = p
  first_to R8 v o p = open_to v o p
  first_to R9 v o p = p
  first_to R10 v o p = p
  first_to R11 v o p =
      let l = before_it is_control p.1.0 v.name.tag p.1.2 in
      (p.0, (p.1.0, p.1.1, l, branch_to v o p.1.0 l p.1.2))
  first_to R12 v o p = lead_to v o p
  first_to R13 v o p =
      let l = before_it is_address p.1.0 v.name.tag p.1.2 in (p.0, (p.1.0, p.1.1, l, on v o p.1.0 l p.1.2))

  first_from : (j : Rule) (v : Op) → IsOwn t H v → Orders j t' v b → IsFirstBy j t t' b v
  first_from R1 v o p = p
  first_from R2 v o p = from_apart t t' r new k s b mine pb v (o, p)
  first_from R3 v o p =
      let f = p.1 in
      let same : f.1 ≡ v = atomic_one t' v f.1 k' (s.ops_on v o.0) f.4 (f.5, f.6) p.0 in (
        ap (is_one is_amo_or_sc) (sym (insn_stays v o.0)) ∙ p.0,
        (f.0, f.2, f.3 ∙ ap (λ (z : Op). Some z) same),
      )
  first_from R4 v o p = fenced_to t t' r new k s b mine pb v (o, p)
  first_from R5 v o p = p
  first_from R6 v o p = p
  first_from R7 v o p = p
  first_from R8 v o p = open_from v o p
  first_from R9 v o p = p
  first_from R10 v o p = p
  first_from R11 v o p = (p.0, (p.1.0, p.1.1, branch_off v o p.1.0 p.1.2 p.1.3))
  first_from R12 v o p = lead_from v o p
  first_from R13 v o p = (p.0, (p.1.0, p.1.1, off v o p.1.0 p.1.2 p.1.3))

  pub broken_to : (j : Rule) (v : Op) → Broken j t' v b → IsFirstOver j t t' b v
  broken_to j v p =
      let q = from_broken t t' r new k s j v b mine p in ((q.0, first_from j v q.0 q.1), p.against)

  pub broken_from : (j : Rule) (v : Op) → IsFirstOver j t t' b v → Broken j t' v b
  broken_from j v p = to_broken t t' r new k s j v b mine (p.0.0, first_to j v p.0.0 p.0.1) p.1

  pub performed_first : (j : Rule) (m : Option Op) → ((j ≡ R1) ⊎ (j ≡ R4) ⊎ (j ≡ R6) → ⊥)
      → IsLatestIfAny (Over (λ v. IsOwnPerformed t H v × IsFirstBy j t t' b v) (standing b)) m
      → IsLatestIfAny (λ v. Broken j t' v b) m
  performed_first j m not h = rule_by_mark t t' r new k s b mine pb j m not
      (latest_same (Over (λ v. IsOwnPerformed t H v × IsFirstBy j t t' b v) (standing b))
      (Over (λ v. IsOwnPerformed t H v × Orders j t' v b) (standing b)) m
      (λ v p. ((p.0.0, first_to j v p.0.0.0 p.0.1), p.1)) (λ v p. ((p.0.0, first_from j v p.0.0.0 p.0.1), p.1)) h)

pub firsts_are_told : FirstsAreTold
firsts_are_told j t t' r b v k n = (
  (λ p. broken_to t t' r n.new k n.retires b n.here n.performed j v p),
  λ p. broken_from t t' r n.new k n.retires b n.here n.performed j v p,
)

pub first_is_latest : FirstIsLatest
first_is_latest j t t' r b m k n h =
    latest_same (IsFirstOver j t t' b) (λ v. Broken j t' v b) m
    (λ v p. broken_from t t' r n.new k n.retires b n.here n.performed j v p)
    (λ v p. broken_to t t' r n.new k n.retires b n.here n.performed j v p) h

pub first_is_performed : FirstIsPerformed
first_is_performed j t t' r b m k n not h =
    performed_first t t' r n.new k n.retires b n.here n.performed j m not h

pub retire_reports : RetireReports
retire_reports = record {
  reported = λ initial t t' r new first j a b k legal s are l.
      reported initial t t' r new k legal s first are j a b l.second l.answer (λ i d q m. l.lesser i d q m) l.least;
  unbroken = λ initial t t' r new first k legal s are none j a b p.
      unreported initial t t' r new k legal s first are none j a b p;
}
