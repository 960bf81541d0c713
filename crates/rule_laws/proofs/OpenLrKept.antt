-- How a growth changes the open LR of a hart.
use Rattle.std.proofs.Common.{ℕ, ◌<◌, ◌≡◌, ◌⊎◌, inl, inr, Bool, true, false, List, [], ◌∷◌, ◌||◌, ◌&&◌, eqb, cond}
use Rattle.std.proofs.Common.{Option}
use Rattle.std.proofs.Common.{Some, None, refl, sym, ap, subst, ◌∙◌, arith}
use Rattle.std.specs.Prelude.{◌≢◌}
use Rattle.std.specs.List.{Contains}
use Rattle.std.proofs.lemmas.Bool.{false≢true, both_ways, and_parts, eqb-true, or_left, or_right}
use Rattle.rv_decode.specs.declared.instruction.Insn.{Insn}
use Rattle.rv_decode.specs.declared.instruction.Insn.TheVariants.{Sc}
use Rattle.rv_decode.specs.Kinds.{is_lr, is_sc}
use Rattle.rvwmo_model.specs.declared.instructions.Retired.{Retired}
use Rattle.rvwmo_model.specs.declared.operations.Op.{Op}
use Rattle.rvwmo_model.specs.declared.traces.Trace.{Trace}
use Rattle.rvwmo_model.specs.Order.{standing, precedes}
use Rattle.rvwmo_model.specs.ProgramOrder.{insn_at, insn_of, is_one}
use Rattle.rvwmo_model.specs.Rules.{Reserves}
use Rattle.rvwmo_model.proofs.LookUp.{found_in}
use Rattle.rvwmo_model.proofs.Membership.{nothing_in, head_in}
use Rattle.rvwmo_model.proofs.Orders.{before_self}
use Rattle.rvwmo_model.proofs.Tested.{one_some}
use Rattle.growth_laws.specs.Kinds.{SameInsn, WellKinded}
use Rattle.growth_laws.specs.Growth.{with_insn, Keeps, SameMembers, AddInsn, PerformsPart}
use Rattle.growth_laws.proofs.Insns.{more_new, insn_is, insn_same}
use Rattle.growth_laws.proofs.Operations.{op_older, insn_still}
use Rattle.growth_laws.proofs.PlainStores.{plain_not, store_lr}
use Rattle.growth_laws.proofs.Steps.{only}
use Rattle.window_laws.specs.Latest.{IsLatestIfAny}
use Rattle.window_laws.proofs.Latests.{latest_same}
use Rattle.rule_laws.specs.OpenLrs.{IsOpen, OpenLrGoesOn}

abbrev Reserving : Insn → Bool
Reserving w = is_lr w || is_sc w

sc_no_lr : (i : Insn) → is_sc i ≡ true → is_lr i ≡ false
sc_no_lr (Sc wide aq rl rd rs1 rs2) e = refl
sc_no_lr _ e = absurd (false≢true e)

-- the same operations and instructions
same_open : (t t' : Trace) (h : ℕ) (m : Option Op) → Keeps t t' None → SameMembers t.ops t'.ops
    → IsLatestIfAny (IsOpen t h) m → IsLatestIfAny (IsOpen t' h) m
same_open t t' h m s ops a = latest_same (IsOpen t h) (IsOpen t' h) m
    (λ v p. (
      (ops.on v p.0.0, p.0.1),
      (
        ap (is_one is_lr) (s.insns v.name.hart v.name.tag) ∙ p.1.0,
        λ n l e. p.1.1 n l (ap (is_one Reserving) (sym (s.insns h n)) ∙ e),
      ),
    ))
    (λ v p. (
      (ops.back v p.0.0, p.0.1),
      (
        ap (is_one is_lr) (sym (s.insns v.name.hart v.name.tag)) ∙ p.1.0,
        λ n l e. p.1.1 n l (ap (is_one Reserving) (s.insns h n) ∙ e),
      ),
    )) a

module _ (t t' : Trace) (r : Retired) (new : List Op) (k : WellKinded t) (s : AddInsn t t' r new) where
  -- an LR or SC of t is one of t'
  reserves_on : (h n : ℕ) → Reserves t h n → Reserves t' h n
  reserves_on h n e = ap (is_one Reserving) (s.keeps.insns h n ∙ other (eqb r.hart h && eqb r.tag n) refl) ∙ e
    where
      other : (z : Bool) → (eqb r.hart h && eqb r.tag n) ≡ z → with_insn t (Some r) h n ≡ insn_at t.insns h n
      other false f = rw f refl
      other true f = absurd (
          let p = and_parts (eqb r.hart h) (eqb r.tag n) f in
          let w = one_some Reserving (insn_at t.insns h n) e in
          let g = found_in t.insns h n w.0 w.1 in
          let l : w.0.tag < r.tag = s.younger w.0 g.0 (g.1 ∙ sym (eqb-true _ _ p.0)) in
          omega (arith, l, g.2, eqb-true r.tag n p.1))

  -- one of t' is one of t, or r
  reserves_back : (h n : ℕ) → Reserves t' h n → Reserves t h n
      ⊎ ((r.hart ≡ h) × (r.tag ≡ n) × (Reserving r.insn ≡ true))
  reserves_back h n e = at (eqb r.hart h && eqb r.tag n) refl (sym (ap (is_one Reserving) (s.keeps.insns h n)) ∙ e)
    where
      at : (z : Bool) → (eqb r.hart h && eqb r.tag n) ≡ z
          → is_one Reserving (cond z (Some r) (insn_at t.insns h n)) ≡ true
          → Reserves t h n ⊎ ((r.hart ≡ h) × (r.tag ≡ n) × (Reserving r.insn ≡ true))
      at false f q = inl q
      at true f q = let p = and_parts (eqb r.hart h) (eqb r.tag n) f in inr (eqb-true _ _ p.0, eqb-true r.tag n p.1, q)

  -- no LR or SC of t is after r
  none_past : (n : ℕ) → r.tag < n → Reserves t r.hart n → ⊥
  none_past n l e =
      let w = one_some Reserving (insn_at t.insns r.hart n) e in
      let g = found_in t.insns r.hart n w.0 w.1 in
      let y : w.0.tag < r.tag = s.younger w.0 g.0 g.1 in
      omega (arith, y, l, g.2)

  -- the instruction of a new operation
  of_new : (v : Op) → Contains new v → insn_of t' v ≡ Some r
  of_new v i = insn_is t' r v (more_new t t' r s.keeps) (s.are_of.own v i)

  -- where r is an LR or SC, none that was there is open
  none_old : (v : Op) → Contains t.ops v → Reserving r.insn ≡ true → IsOpen t' r.hart v → ⊥
  none_old v i e p = p.1.1 r.tag (op_older t t' r new v k s i p.0.1)
      (ap (is_one Reserving) (more_new t t' r s.keeps) ∙ e)

  new_open : (o : Op) → new ≡ o ∷ [] → is_lr r.insn ≡ true → IsLatestIfAny (IsOpen t' r.hart) (Some o)
  new_open o one e = record {
    here = ((s.added o i, (s.are_of.own o i).0), (ap (is_one is_lr) (of_new o i) ∙ e, past));
    latest = λ u p. elim (s.ops_back u p.0.0) [
      | inl m ↦ subst (λ (z : Op). precedes o z ≡ false) (sym (only o u new one m)) (before_self (standing o))
      | inr j ↦ absurd (none_old u j (or_left (is_lr r.insn) (is_sc r.insn) e) p)
    ];
  }
    where
      i : Contains new o
      i = subst (λ (l : List Op). Contains l o) (sym one) (head_in o [])

      past : (n : ℕ) → o.name.tag < n → Reserves t' r.hart n → ⊥
      past n l q = elim (reserves_back r.hart n q) [
        | inl y ↦ none_past n (let f = (s.are_of.own o i).1 in omega (arith, l, f)) y
        | inr y ↦ (let f = (s.are_of.own o i).1 in let g = y.1 in omega (arith, l, f, g))
      ]

  none_open : is_sc r.insn ≡ true → IsLatestIfAny (IsOpen t' r.hart) None
  none_open e v p = elim (s.ops_back v p.0.0) [
    | inl m ↦ both_ways _ (sc_no_lr r.insn e) (sym (ap (is_one is_lr) (of_new v m)) ∙ p.1.0)
    | inr j ↦ none_old v j (or_right (is_lr r.insn) (is_sc r.insn) e) p
  ]

  still_open : (h : ℕ) (m : Option Op) → (r.hart ≢ h) ⊎ (Reserving r.insn ≡ false) → IsLatestIfAny (IsOpen t h) m
      → IsLatestIfAny (IsOpen t' h) m
  still_open h m why a = latest_same (IsOpen t h) (IsOpen t' h) m
      (λ v p. (
        (s.ops_on v p.0.0, p.0.1),
        (
          ap (is_one is_lr) (insn_still t t' r new v v.name.tag k s p.0.0 (inr refl)) ∙ p.1.0,
          λ n l e. elim (reserves_back h n e) [ inl y ↦ p.1.1 n l y | inr y ↦ isnt y.0 y.2 ],
        ),
      ))
      (λ v p. elim (s.ops_back v p.0.0) [
        | inl i ↦ absurd (isnt (sym (s.are_of.own v i).0 ∙ p.0.1)
            (or_left (is_lr r.insn) (is_sc r.insn) (sym (ap (is_one is_lr) (of_new v i)) ∙ p.1.0)))
        | inr i ↦ (
          (i, p.0.1),
          (
            ap (is_one is_lr) (sym (insn_still t t' r new v v.name.tag k s i (inr refl))) ∙ p.1.0,
            λ n l e. p.1.1 n l (reserves_on h n e),
          ),
        )
      ]) a
    where
      isnt : r.hart ≡ h → Reserving r.insn ≡ true → ⊥
      isnt e f = elim why [ inl z ↦ z e | inr z ↦ both_ways _ z f ]

module _ (t t' : Trace) (o n : Op) (rest : Option Op) (k : WellKinded t) (s : PerformsPart t t' o n rest) where
  -- what is of the instruction of the store o is of no LR
  no_lr : (v : Op) → SameInsn v o → is_one is_lr (insn_of t' v) ≡ true → ⊥
  no_lr v same e = plain_not is_lr t o store_lr (k.unperformed o s.was s.unperformed)
      (ap (is_one is_lr) (sym (s.keeps.insns v.name.hart v.name.tag ∙ insn_same t v o same)) ∙ e)

  part_open : (h : ℕ) (m : Option Op) → IsLatestIfAny (IsOpen t h) m → IsLatestIfAny (IsOpen t' h) m
  part_open h m a = latest_same (IsOpen t h) (IsOpen t' h) m
      (λ v p. (
        (stays v p.0.0 (lr_on v p.1.0), p.0.1),
        (lr_on v p.1.0, λ i l e. p.1.1 i l (ap (is_one Reserving) (sym (s.keeps.insns h i)) ∙ e)),
      ))
      (λ v p. (
        (was v p.0.0 p.1.0, p.0.1),
        (
          ap (is_one is_lr) (sym (s.keeps.insns v.name.hart v.name.tag)) ∙ p.1.0,
          λ i l e. p.1.1 i l (ap (is_one Reserving) (s.keeps.insns h i) ∙ e),
        ),
      )) a
    where
      lr_on : (v : Op) → is_one is_lr (insn_of t v) ≡ true → is_one is_lr (insn_of t' v) ≡ true
      lr_on v e = ap (is_one is_lr) (s.keeps.insns v.name.hart v.name.tag) ∙ e

      stays : (v : Op) → Contains t.ops v → is_one is_lr (insn_of t' v) ≡ true → Contains t'.ops v
      stays v i e = elim (s.ops_on v i) [
        | inl d ↦ absurd (no_lr v (ap (λ (z : Op). z.name.hart) d, ap (λ (z : Op). z.name.tag) d) e)
        | inr j ↦ j
      ]

      was : (v : Op) → Contains t'.ops v → is_one is_lr (insn_of t' v) ≡ true → Contains t.ops v
      was v i e = elim (s.ops_back v i) [
        | inl d ↦ absurd (no_lr v (subst (λ (z : Op). SameInsn z o) (sym d) s.part.same) e)
        | inr d ↦ elim d [ inl f ↦ absurd (no_lr v (s.left v f).2.same e) | inr j ↦ j ]
      ]

pub open_lr_goes_on : OpenLrGoesOn
open_lr_goes_on = record {
  start = λ granule h v p. nothing_in v p.0.0;
  nothing = λ t t' h m s a. same_open t t' h m s.keeps s.ops a;
  early = λ t t' e h m s a. same_open t t' h m s.keeps s.ops a;
  lr = λ t t' r o k s e. new_open t t' r (o ∷ []) k s o refl e;
  sc = λ t t' r new k s e. none_open t t' r new k s e;
  other = λ t t' r new h m k s why a. still_open t t' r new k s h m why a;
  performed = λ t t' o n rest h m k s a. part_open t t' o n rest k s h m a;
}
