-- The open LR of a hart while instructions retire.
use Rattle.std.proofs.Common.{ℕ, ◌<◌, ◌≡◌, ◌≢◌, ◌⊎◌, inl, inr, Bool, true, false, eqb, ◌&&◌, ◌||◌, cond, Some}
use Rattle.std.proofs.Common.{None, refl, sym, ap, subst, ◌∙◌, arith}
use Rattle.std.proofs.lemmas.Bool.{false≢true, both_ways, and_parts, eqb-true, or_left, or_right, cases_lt}
use Rattle.std.specs.List.{Contains}
use Rattle.rv_decode.specs.declared.instruction.Insn.{Insn}
use Rattle.rv_decode.specs.declared.instruction.Insn.TheVariants.{Sc}
use Rattle.rv_decode.specs.Kinds.{is_lr, is_sc}
use Rattle.rvwmo_model.specs.declared.instructions.Retired.{Retired}
use Rattle.rvwmo_model.specs.declared.traces.Trace.{Trace}
use Rattle.rvwmo_model.specs.ProgramOrder.{insn_at, is_one}
use Rattle.rvwmo_model.specs.Rules.{Reserves}
use Rattle.rvwmo_model.proofs.LookUp.{found_in, look_none}
use Rattle.rvwmo_model.proofs.Tested.{one_some}
use Rattle.growth_laws.specs.Growth.{Keeps}
use Rattle.growth_laws.proofs.Insns.{more_new, more_back}
use Rattle.amo_pairing.specs.Reservations.{IsOpenLr}

-- an LR or an SC
abbrev pub takes_part : Insn → Bool
takes_part w = is_lr w || is_sc w

-- under each tag of hart h there is an LR, and an LR or SC, as there was
pub record SameOpens (t t' : Trace) (h : ℕ) : Type 0 where
  pub lr : (j : ℕ) → is_one is_lr (insn_at t'.insns h j) ≡ is_one is_lr (insn_at t.insns h j)
  pub takes : (j : ℕ) → is_one takes_part (insn_at t'.insns h j) ≡ is_one takes_part (insn_at t.insns h j)

pub open_on : (t t' : Trace) (h k : ℕ) → SameOpens t t' h → IsOpenLr t h k → IsOpenLr t' h k
open_on t t' h k s o = record { lr = s.lr k ∙ o.lr; last = λ j l r. o.last j l (sym (s.takes j) ∙ r) }

pub open_back : (t t' : Trace) (h k : ℕ) → SameOpens t t' h → IsOpenLr t' h k → IsOpenLr t h k
open_back t t' h k s o = record { lr = sym (s.lr k) ∙ o.lr; last = λ j l r. o.last j l (s.takes j ∙ r) }

-- where instructions stay, so do these
pub same_opens : (t t' : Trace) (h : ℕ) → ((j : ℕ) → insn_at t'.insns h j ≡ insn_at t.insns h j) → SameOpens t t' h
same_opens t t' h same = record {
  lr = λ j. ap (is_one is_lr) (same j);
  takes = λ j. ap (is_one takes_part) (same j);
}

-- an instruction more, younger than all of its hart
module _ (t t' : Trace) (r : Retired) (s : Keeps t t' (Some r))
    (younger : (v : Retired) → Contains t.insns v → v.hart ≡ r.hart → v.tag < r.tag) where
  fresh : (h j : ℕ) → r.hart ≡ h → r.tag ≡ j → insn_at t.insns h j ≡ None
  fresh h j a b =
      look_none t.insns h j (λ v i c d. let l : v.tag < r.tag = younger v i (c ∙ sym a) in omega (arith, b, d))

  -- a test that it doesn't pass, or that is asked of another hart, has the answer that it had
  one_more : (test : Insn → Bool) (h : ℕ) → (test r.insn ≡ false) ⊎ (r.hart ≢ h) → (j : ℕ)
      → is_one test (insn_at t'.insns h j) ≡ is_one test (insn_at t.insns h j)
  one_more test h other j = ap (is_one test) (s.insns h j) ∙ at (eqb r.hart h && eqb r.tag j) refl
    where
      at : (b : Bool) → (eqb r.hart h && eqb r.tag j) ≡ b
          → is_one test (cond b (Some r) (insn_at t.insns h j)) ≡ is_one test (insn_at t.insns h j)
      at false e = refl
      at true e =
          let p = and_parts (eqb r.hart h) (eqb r.tag j) e in
          let a : r.hart ≡ h = eqb-true _ _ p.0 in
          let b : r.tag ≡ j = eqb-true _ _ p.1 in
          elim other [
            | inl q ↦ q ∙ sym (ap (is_one test) (fresh h j a b))
            | inr d ↦ absurd (d a)
          ]

  -- one that is no LR and no SC, or is of another hart
  pub insn_opens : (h : ℕ) → ((is_lr r.insn ≡ false) × (is_sc r.insn ≡ false)) ⊎ (r.hart ≢ h) → SameOpens t t' h
  insn_opens h other = elim other [
    | inl p ↦
        let e : takes_part r.insn ≡ false = rw (p.0, p.1) refl in
        record { lr = one_more is_lr h (inl p.0); takes = one_more takes_part h (inl e) }
    | inr d ↦ record { lr = one_more is_lr h (inr d); takes = one_more takes_part h (inr d) }
  ]

  -- what is found of its hart is the instruction, or an older one
  pub found_one : (test : Insn → Bool) (j : ℕ) → is_one test (insn_at t'.insns r.hart j) ≡ true
      → ((j ≡ r.tag) × (test r.insn ≡ true)) ⊎ (j < r.tag)
  found_one test j e =
      let w = one_some test (insn_at t'.insns r.hart j) e in
      let f = found_in t'.insns r.hart j w.0 w.1 in
      elim (more_back t t' r s w.0 f.0) [
        | inl same ↦ inl (
          sym f.2 ∙ ap (λ (z : Retired). z.tag) same,
          subst (λ (z : Retired). test z.insn ≡ true) same w.2,
        )
        | inr i ↦ inr (let l : w.0.tag < r.tag = younger w.0 i f.1 in omega (arith, f.2))
      ]

  -- an LR that retires is open
  pub lr_opens : is_lr r.insn ≡ true → IsOpenLr t' r.hart r.tag
  lr_opens e = record {
    lr = ap (is_one is_lr) (more_new t t' r s) ∙ e;
    last = λ j l q. elim (found_one takes_part j q) [
      | inl p ↦ omega (arith, p.0)
      | inr m ↦ omega arith
    ];
  }

  -- after an SC none is
  pub sc_closes : is_sc r.insn ≡ true → (k : ℕ) → IsOpenLr t' r.hart k → ⊥
  sc_closes e k o = elim (found_one is_lr k o.lr) [
    | inl p ↦ both_ways _ (sc_no_lr r.insn e) p.1
    | inr l ↦ o.last r.tag l (ap (is_one takes_part) (more_new t t' r s) ∙ or_right (is_lr r.insn) (is_sc r.insn) e)
  ]
    where
      sc_no_lr : (i : Insn) → is_sc i ≡ true → is_lr i ≡ false
      sc_no_lr (Sc wide aq rl rd rs1 rs2) q = refl
      sc_no_lr _ q = absurd (false≢true q)

-- at most one LR of a hart is open
pub open_once : (t : Trace) (h j k : ℕ) → IsOpenLr t h j → IsOpenLr t h k → j ≡ k
open_once t h j k a b = elim (cases_lt j k) [
  | inl l ↦ absurd (a.last k l (taken k b.lr))
  | inr m ↦ elim (cases_lt k j) [ inl l ↦ absurd (b.last j l (taken j a.lr)) | inr n ↦ omega arith ]
]
  where
    taken : (i : ℕ) → is_one is_lr (insn_at t.insns h i) ≡ true → Reserves t h i
    taken i e =
        let w = one_some is_lr (insn_at t.insns h i) e in
        ap (is_one takes_part) w.1 ∙ or_left (is_lr w.0.insn) (is_sc w.0.insn) w.2
