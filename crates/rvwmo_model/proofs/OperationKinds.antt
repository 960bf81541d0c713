-- FENCEs by the kinds of operations, and AMOs as loads and stores.
use Rattle.std.proofs.Common.{ℕ, ◌≡◌, ◌⊎◌, inl, inr, Bool, true, false, ◌↔◌, ◌&&◌, ◌||◌, cond, Option, Some, None}
use Rattle.std.proofs.Common.{refl, sym, ap, subst, ◌∙◌}
use Rattle.std.proofs.lemmas.Bool.{false≢true, and_parts, and_from, or_cases, or_left, or_right, eqb-true}
use Rattle.rv_decode.specs.declared.instruction.Insn.{Insn}
use Rattle.rv_decode.specs.declared.instruction.Insn.TheVariants.{Fence}
use Rattle.rvwmo_model.specs.declared.instructions.Retired.{Retired}
use Rattle.rvwmo_model.specs.declared.operations.Op.{Op}
use Rattle.rvwmo_model.specs.declared.operations.OpKind.{OpKind}
use Rattle.rvwmo_model.specs.declared.operations.OpKind.TheVariants.{Load, Store, Both}
use Rattle.rvwmo_model.specs.declared.traces.Trace.{Trace}
use Rattle.rvwmo_model.specs.Order.{kind_loads, kind_stores}
use Rattle.rvwmo_model.specs.ProgramOrder.{is_one, insn_at}
use Rattle.rvwmo_model.specs.Rules.{Rule, R1, R2, R3, R4, R5, R6, R7, R8, R9, R10, R11, R12, R13, Orders}
use Rattle.rvwmo_model.specs.Laws.{FenceTso, FenceBySets, as_kind, AmoIsLoadAndStore}
use Rattle.rvwmo_model.specs.InsnKinds.{in_set, is_tso, fence_orders}

pub fence_tso : FenceTso
fence_tso rd rs1 Load b = ((λ e. inl refl), λ h. refl)
fence_tso rd rs1 Store Load =
    ((λ e. absurd (false≢true e)), λ h. elim h [ inl p ↦ absurd (false≢true p) | inr p ↦ absurd (false≢true p.1) ])
fence_tso rd rs1 Store Store = ((λ e. inr (refl, refl)), λ h. refl)
fence_tso rd rs1 Store Both = ((λ e. inr (refl, refl)), λ h. refl)
fence_tso rd rs1 Both b = ((λ e. inl refl), λ h. refl)

pub fence_by_sets : FenceBySets
fence_by_sets fm before after rd rs1 a b other = at (is_tso fm before after) refl
  where
    at : (c : Bool) → is_tso fm before after ≡ c
        → (cond c (kind_loads a || (kind_stores a && kind_stores b)) (in_set before a && in_set after b) ≡ true
        → (in_set before a ≡ true) × (in_set after b ≡ true))
        × ((in_set before a ≡ true) × (in_set after b ≡ true)
        → cond c (kind_loads a || (kind_stores a && kind_stores b)) (in_set before a && in_set after b) ≡ true)
    at false e = ((λ h. and_parts (in_set before a) (in_set after b) h), λ h. and_from _ _ h.0 h.1)
    at true e =
        let p = and_parts _ _ e in
        let q = and_parts _ _ p.0 in
        absurd (other (eqb-true _ _ q.0) (eqb-true _ _ q.1) (eqb-true _ _ p.1))

-- ---- a first operation, or a second, that is of an AMO

either : (r w : Bool) → ((r && true) || (w && true)) ≡ (((r && true) || (w && false)) || ((r && false) || (w && true)))
either true true = refl
either true false = refl
either false true = refl
either false false = refl

names_both : (set : ℕ) → in_set set Both ≡ (in_set set Load || in_set set Store)
names_both set = either _ _

left_or : (a b c : Bool) → ((a || b) && c) ≡ ((a && c) || (b && c))
left_or true b true = refl
left_or true true false = refl
left_or true false false = refl
left_or false true true = refl
left_or false true false = refl
left_or false false true = refl
left_or false false false = refl

right_or : (a b c : Bool) → (c && (a || b)) ≡ ((c && a) || (c && b))
right_or a b true = refl
right_or a b false = refl

cond_both : (c a b d x y z : Bool) → a ≡ (b || d) → x ≡ (y || z) → cond c a x ≡ (cond c b y || cond c d z)
cond_both true a b d x y z p q = p
cond_both false a b d x y z p q = q

orders_first : (w : Insn) (k : OpKind) → fence_orders w Both k ≡ (fence_orders w Load k || fence_orders w Store k)
orders_first (Fence fm before after rd rs1) k =
    cond_both (is_tso fm before after) true true (kind_stores k) (in_set before Both && in_set after k)
    (in_set before Load && in_set after k) (in_set before Store && in_set after k) refl
    (ap (λ (b : Bool). b && in_set after k) (names_both before) ∙ left_or (in_set before Load) (in_set before Store)
    (in_set after k))
orders_first _ k = refl

kinds_or : (k : OpKind) → (kind_loads k || (kind_stores k && true)) ≡ ((kind_loads k || (kind_stores k && false))
    || (kind_loads k || (kind_stores k && true)))
kinds_or Load = refl
kinds_or Store = refl
kinds_or Both = refl

orders_second : (w : Insn) (k : OpKind) → fence_orders w k Both ≡ (fence_orders w k Load || fence_orders w k Store)
orders_second (Fence fm before after rd rs1) k =
    cond_both (is_tso fm before after) _ _ _ (in_set before k && in_set after Both)
    (in_set before k && in_set after Load) (in_set before k && in_set after Store) (kinds_or k)
    (ap (λ (b : Bool). in_set before k && b) (names_both after) ∙ right_or (in_set after Load) (in_set after Store)
    (in_set before k))
orders_second _ k = refl

one_or : (p q r : Insn → Bool) (o : Option Retired) → ((w : Insn) → p w ≡ (q w || r w))
    → is_one p o ≡ (is_one q o || is_one r o)
one_or p q r None e = refl
one_or p q r (Some w) e = e w.insn

same : (A : Type 0) → (A → A ⊎ A) × (A ⊎ A → A)
same A = ((λ a. inl a), λ s. elim s [ inl a ↦ a | inr a ↦ a ])

-- as a first operation
first_both : (k : Rule) (t : Trace) (a b : Op) → Orders k t (as_kind Both a) b
    ↔ (Orders k t (as_kind Load a) b ⊎ Orders k t (as_kind Store a) b)
first_both R1 t a b = same (Orders R1 t a b)
first_both R2 t a b = ((λ h. inl h), λ s. elim s [ inl h ↦ h | inr h ↦ absurd (false≢true h.1) ])
first_both R3 t a b = same (Orders R3 t a b)
first_both R4 t a b = (
  (λ h. elim (or_cases _ _ (sym (split h.0) ∙ h.3)) [
    | inl p ↦ inl (h.0, h.1, h.2, p)
    | inr p ↦ inr (h.0, h.1, h.2, p)
  ]),
  λ s. elim s [
    | inl h ↦ (h.0, h.1, h.2, split h.0 ∙ or_left _ _ h.3)
    | inr h ↦ (h.0, h.1, h.2, split h.0 ∙ or_right _ _ h.3)
  ],
)
  where
    split : (n : ℕ) → is_one (λ w. fence_orders w Both b.kind)
        (insn_at t.insns a.name.hart n) ≡ (is_one (λ w. fence_orders w Load b.kind) (insn_at t.insns a.name.hart n)
        || is_one (λ w. fence_orders w Store b.kind) (insn_at t.insns a.name.hart n))
    split n = one_or _ _ _ (insn_at t.insns a.name.hart n) (λ w. orders_first w b.kind)
first_both R5 t a b = same (Orders R5 t a b)
first_both R6 t a b = same (Orders R6 t a b)
first_both R7 t a b = same (Orders R7 t a b)
first_both R8 t a b = same (Orders R8 t a b)
first_both R9 t a b = same (Orders R9 t a b)
first_both R10 t a b = same (Orders R10 t a b)
first_both R11 t a b = same (Orders R11 t a b)
first_both R12 t a b = same (Orders R12 t a b)
first_both R13 t a b = same (Orders R13 t a b)

-- as a second operation
second_both : (k : Rule) (t : Trace) (a b : Op) → Orders k t a (as_kind Both b)
    ↔ (Orders k t a (as_kind Load b) ⊎ Orders k t a (as_kind Store b))
second_both R1 t a b = ((λ h. inr h), λ s. elim s [ inl h ↦ absurd (false≢true h.2) | inr h ↦ h ])
second_both R2 t a b = ((λ h. inl h), λ s. elim s [ inl h ↦ h | inr h ↦ absurd (false≢true h.2) ])
second_both R3 t a b = ((λ h. inl h), λ s. elim s [ inl h ↦ h | inr h ↦ absurd (false≢true h.1.2) ])
second_both R4 t a b = (
  (λ h. elim (or_cases _ _ (sym (split h.0) ∙ h.3)) [
    | inl p ↦ inl (h.0, h.1, h.2, p)
    | inr p ↦ inr (h.0, h.1, h.2, p)
  ]),
  λ s. elim s [
    | inl h ↦ (h.0, h.1, h.2, split h.0 ∙ or_left _ _ h.3)
    | inr h ↦ (h.0, h.1, h.2, split h.0 ∙ or_right _ _ h.3)
  ],
)
  where
    split : (n : ℕ) → is_one (λ w. fence_orders w a.kind Both)
        (insn_at t.insns a.name.hart n) ≡ (is_one (λ w. fence_orders w a.kind Load) (insn_at t.insns a.name.hart n)
        || is_one (λ w. fence_orders w a.kind Store) (insn_at t.insns a.name.hart n))
    split n = one_or _ _ _ (insn_at t.insns a.name.hart n) (λ w. orders_second w a.kind)
second_both R5 t a b = same (Orders R5 t a b)
second_both R6 t a b = same (Orders R6 t a b)
second_both R7 t a b = same (Orders R7 t a b)
second_both R8 t a b = same (Orders R8 t a b)
second_both R9 t a b = same (Orders R9 t a b)
second_both R10 t a b = same (Orders R10 t a b)
second_both R11 t a b = ((λ h. inr h), λ s. elim s [ inl h ↦ absurd (false≢true h.0) | inr h ↦ h ])
second_both R12 t a b = ((λ h. inl h), λ s. elim s [ inl h ↦ h | inr h ↦ absurd (false≢true h.3.1.2) ])
second_both R13 t a b = ((λ h. inr h), λ s. elim s [ inl h ↦ absurd (false≢true h.0) | inr h ↦ h ])

of_kind : (o : Op) → o.kind ≡ Both → as_kind Both o ≡ o
of_kind o e = λ i. record o { kind = sym e i }

pub amo_both : AmoIsLoadAndStore
amo_both k t a b = record {
  first = λ e. subst (λ (z : Op). Orders k t z b ↔ (Orders k t (as_kind Load z) b ⊎ Orders k t (as_kind Store z) b))
      (of_kind a e) (first_both k t a b);
  second = λ e. subst (λ (z : Op). Orders k t a z ↔ (Orders k t a (as_kind Load z) ⊎ Orders k t a (as_kind Store z)))
      (of_kind b e) (second_both k t a b);
}
