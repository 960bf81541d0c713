-- Rules 4 to 7 by marks.
use Rattle.std.proofs.Common.{ℕ, ◌<◌, ◌≡◌, ◌⊎◌, inl, inr, Bool, true, false, List, cond, Option, Some, None, refl, sym}
use Rattle.std.proofs.Common.{ap, subst, ◌∙◌, arith}
use Rattle.std.specs.Prelude.{◌/◌, ◌%◌, ◌==◌, ◌&&◌, ◌||◌}
use Rattle.std.specs.List.{Contains}
use Rattle.std.proofs.lemmas.Bool.{false≢true, both_ways, and_parts, and_from, or_cases, or_left, or_right}
use Rattle.rv_decode.specs.declared.instruction.Insn.{Insn}
use Rattle.rv_decode.specs.declared.instruction.Insn.TheVariants.{Fence}
use Rattle.rvwmo_model.specs.declared.instructions.Retired.{Retired}
use Rattle.rvwmo_model.specs.declared.operations.Op.{Op}
use Rattle.rvwmo_model.specs.declared.operations.OpKind.{OpKind}
use Rattle.rvwmo_model.specs.declared.preserved.Rule.TheVariants.{R4, R5, R6, R7}
use Rattle.rvwmo_model.specs.declared.traces.Trace.{Trace}
use Rattle.rvwmo_model.specs.Order.{kind_loads, kind_stores, standing}
use Rattle.rvwmo_model.specs.ProgramOrder.{insn_at, is_one}
use Rattle.rvwmo_model.specs.InsnKinds.{in_set, is_tso, fence_orders}
use Rattle.rvwmo_model.specs.Annotations.{is_annotated, is_rcsc, has_rcsc}
use Rattle.rvwmo_model.specs.Rules.{Broken}
use Rattle.rvwmo_model.specs.InForm.{IsPlaced}
use Rattle.rvwmo_model.proofs.LookUp.{found_in}
use Rattle.rvwmo_model.proofs.Tested.{one_some}
use Rattle.growth_laws.specs.Kinds.{IsPlainAnnotated, WellKinded}
use Rattle.growth_laws.specs.Growth.{AddInsn}
use Rattle.growth_laws.proofs.Facts.{plain_kind}
use Rattle.window_laws.specs.Latest.{IsLatestIfAny, first_there}
use Rattle.window_laws.proofs.Latests.{latest_same}
use Rattle.rule_laws.specs.Above.{Over, later_of}
use Rattle.rule_laws.specs.Own.{IsOwn, IsOwnPerformed}
use Rattle.rule_laws.specs.Fences.{Class, loading, storing, kind_in, kind_as, class_orders, FenceAfter, FencedOff}
use Rattle.rule_laws.specs.Fences.{fenced_by}
use Rattle.rule_laws.proofs.LatestOver.{mark_either, mark_if}
use Rattle.rule_laws.proofs.Candidates.{IsToPrecede, broken_mark, insn_before}

-- ---- FENCEs by classes

set_class : (n : ℕ) (o : OpKind) → in_set n o ≡ true → (c : Class) × (kind_in c o ≡ true)
    × (in_set n (kind_as c) ≡ true)
set_class n o e = elim (or_cases (((n / 2) % 2 == 1) && kind_loads o) ((n % 2 == 1) && kind_stores o) e) [
  | inl q ↦ let p = and_parts ((n / 2) % 2 == 1) (kind_loads o) q in (loading, p.1, rw p.0 refl)
  | inr q ↦ let p = and_parts (n % 2 == 1) (kind_stores o) q in
      (storing, p.1, or_right (((n / 2) % 2 == 1) && false) ((n % 2 == 1) && true) (rw p.0 refl))
]

set_holds : (n : ℕ) (o : OpKind) (c : Class) → kind_in c o ≡ true → in_set n (kind_as c) ≡ true → in_set n o ≡ true
set_holds n o loading k e = elim (or_cases (((n / 2) % 2 == 1) && true) ((n % 2 == 1) && false) e) [
  | inl q ↦ or_left (((n / 2) % 2 == 1) && kind_loads o) ((n % 2 == 1) && kind_stores o)
      (and_from _ _ (and_parts ((n / 2) % 2 == 1) true q).0 k)
  | inr q ↦ absurd (false≢true (and_parts (n % 2 == 1) false q).1)
]
set_holds n o storing k e = elim (or_cases (((n / 2) % 2 == 1) && false) ((n % 2 == 1) && true) e) [
  | inl q ↦ absurd (false≢true (and_parts ((n / 2) % 2 == 1) false q).1)
  | inr q ↦ or_right (((n / 2) % 2 == 1) && kind_loads o) ((n % 2 == 1) && kind_stores o)
      (and_from _ _ (and_parts (n % 2 == 1) true q).0 k)
]

-- each operation is of a class
some_class : (o : OpKind) → (c : Class) × (kind_in c o ≡ true)
some_class o = at (kind_loads o) refl
  where
    at : (b : Bool) → kind_loads o ≡ b → (c : Class) × (kind_in c o ≡ true)
    at true e = (loading, e)
    at false e = (storing, not_load o e)
      where
        not_load : (z : OpKind) → kind_loads z ≡ false → kind_stores z ≡ true
        not_load z f = grind arith

fence_classes : (w : Insn) (a b : OpKind) → fence_orders w a b ≡ true → (c : Class) × (d : Class)
    × (kind_in c a ≡ true) × (kind_in d b ≡ true) × (class_orders c d w ≡ true)
fence_classes (Fence fm before after rd rs1) a b e = at (is_tso fm before after) refl e
  where
    at : (z : Bool) → is_tso fm before after ≡ z → cond z (kind_loads a || (kind_stores a && kind_stores b))
        (in_set before a && in_set after b) ≡ true
        → (c : Class) × (d : Class) × (kind_in c a ≡ true) × (kind_in d b ≡ true)
        × (cond (is_tso fm before after) (kind_loads (kind_as c) ||
        (kind_stores (kind_as c) && kind_stores (kind_as d)))
        (in_set before (kind_as c) && in_set after (kind_as d)) ≡ true)
    at true f q = elim (or_cases (kind_loads a) (kind_stores a && kind_stores b) q) [
      | inl l ↦ let d = some_class b in (loading, d.0, l, d.1, rw f refl)
      | inr m ↦ let p = and_parts (kind_stores a) (kind_stores b) m in (storing, storing, p.0, p.1, rw f refl)
    ]
    at false f q =
        let p = and_parts (in_set before a) (in_set after b) q in
        let c = set_class before a p.0 in
        let d = set_class after b p.1 in
        (c.0, d.0, c.1, d.1, rw f (and_from _ _ c.2 d.2))
fence_classes _ a b e = absurd (false≢true e)

fence_from : (w : Insn) (a b : OpKind) (c d : Class) → kind_in c a ≡ true → kind_in d b ≡ true
    → class_orders c d w ≡ true → fence_orders w a b ≡ true
fence_from (Fence fm before after rd rs1) a b c d p q e = at (is_tso fm before after) refl e
  where
    tso : (u v : Class) → kind_in u a ≡ true → kind_in v b ≡ true
        → (kind_loads (kind_as u) || (kind_stores (kind_as u) && kind_stores (kind_as v))) ≡ true
        → (kind_loads a || (kind_stores a && kind_stores b)) ≡ true
    tso loading v x y h = or_left (kind_loads a) (kind_stores a && kind_stores b) x
    tso storing loading x y h = absurd (false≢true h)
    tso storing storing x y h = or_right (kind_loads a) (kind_stores a && kind_stores b) (and_from _ _ x y)

    at : (z : Bool) → is_tso fm before after ≡ z → cond z
        (kind_loads (kind_as c) || (kind_stores (kind_as c) && kind_stores (kind_as d)))
        (in_set before (kind_as c) && in_set after (kind_as d)) ≡ true
        → cond (is_tso fm before after) (kind_loads a || (kind_stores a && kind_stores b))
        (in_set before a && in_set after b) ≡ true
    at true f h = rw f (tso c d p q h)
    at false f h = let y = and_parts (in_set before (kind_as c)) (in_set after (kind_as d)) h in rw f
        (and_from _ _ (set_holds before a c p y.0) (set_holds after b d q y.1))
fence_from _ a b c d p q e = absurd (false≢true e)

-- an instruction that passes is not older than itself
passes : (o : Option Retired) (p q : Insn → Bool) → ((w : Insn) → p w ≡ true → q w ≡ true) → is_one p o ≡ true
    → is_one q o ≡ true
passes None p q f e = e
passes (Some w) p q f e = f w.insn e

module _ (t t' : Trace) (r : Retired) (new : List Op) (k : WellKinded t) (s : AddInsn t t' r new) (b : Op)
    (mine : Contains new b) (pb : IsPlaced b) where
  -- ---- rule 4

  -- v is fenced off from b: by classes
  pub fenced_to : (v : Op) → IsToPrecede R4 t t' b v → (c : Class) × (d : Class) × (kind_in d b.kind ≡ true)
      × FencedOff t b.name.hart c d v
  fenced_to v p =
      let f = p.1 in
      let e : is_one (λ w. fence_orders w v.kind b.kind) (insn_at t.insns b.name.hart f.0) ≡ true = subst
      (λ (o : Option Retired). is_one (λ w. fence_orders w v.kind b.kind) o ≡ true)
      (insn_before t t' r new k s b f.0 mine f.2) (subst (λ (h : ℕ). is_one (λ w. fence_orders w v.kind b.kind)
      (insn_at t'.insns h f.0) ≡ true) p.0.1 f.3) in
      let w = one_some (λ w. fence_orders w v.kind b.kind) (insn_at t.insns b.name.hart f.0) e in
      let c = fence_classes w.0.insn v.kind b.kind w.2 in (
        c.0,
        c.1,
        c.3,
        (
          c.2,
          (
            f.0,
            f.1,
            subst (λ (o : Option Retired). is_one (class_orders c.0 c.1) o ≡ true)
                (sym w.1) c.4,
          ),
        ),
      )

  pub fenced_from : (v : Op) (c d : Class) → IsOwn t b.name.hart v → kind_in d b.kind ≡ true
      → FencedOff t b.name.hart c d v → IsToPrecede R4 t t' b v
  fenced_from v c d own y p =
      let f = p.1 in
      let w = one_some (class_orders c d) (insn_at t.insns b.name.hart f.0) f.2 in
      let i = found_in t.insns b.name.hart f.0 w.0 w.1 in
      let of = s.are_of.own b mine in
      let less : w.0.tag < r.tag = s.younger w.0 i.0 (i.1 ∙ of.0) in
      let l : f.0 < b.name.tag = omega (arith, less, i.2, of.1) in
      let e : is_one (λ w. fence_orders w v.kind b.kind) (insn_at t.insns b.name.hart f.0) ≡ true = passes
      (insn_at t.insns b.name.hart f.0) (class_orders c d) (λ w. fence_orders w v.kind b.kind)
      (λ w h. fence_from w v.kind b.kind c d p.0 y h) f.2 in (
        own,
        (
          f.0,
          f.1,
          l,
          subst (λ (h : ℕ). is_one (λ w. fence_orders w v.kind b.kind) (insn_at t'.insns h f.0) ≡ true)
              (sym own.1) (subst (λ (o : Option Retired). is_one (λ w. fence_orders w v.kind b.kind) o ≡ true)
              (sym (insn_before t t' r new k s b f.0 mine l)) e),
        ),
      )

  -- the four marks: the latest of each class that a FENCE orders before each class
  module _ (marks : Class → Class → Option Op) (are : (c d : Class) → IsLatestIfAny
      (Over (λ v. IsOwnPerformed t b.name.hart v × FencedOff t b.name.hart c d v) (standing b)) (marks c d)) where
    abbrev H : ℕ
    H = b.name.hart

    abbrev Of : Class → Op → Type 0
    Of d v = Over (λ u. IsOwnPerformed t H u × FencedOff t H loading d u) (standing b) v ⊎ Over
        (λ u. IsOwnPerformed t H u × FencedOff t H storing d u) (standing b) v

    of_class : (d : Class) → IsLatestIfAny (Of d) (later_of (marks loading d) (marks storing d))
    of_class d = mark_either (Over (λ u. IsOwnPerformed t H u × FencedOff t H loading d u) (standing b))
        (Over (λ u. IsOwnPerformed t H u × FencedOff t H storing d u) (standing b)) (marks loading d) (marks storing d)
        (are loading d) (are storing d)

    pub fenced_mark : IsLatestIfAny (Over (λ v. IsToPrecede R4 t t' b v × IsPlaced v) (standing b))
        (fenced_by marks b.kind)
    fenced_mark = latest_same (λ v. ((kind_loads b.kind ≡ true) × Of loading v)
        ⊎ ((kind_stores b.kind ≡ true) × Of storing v)) (Over (λ v. IsToPrecede R4 t t' b v × IsPlaced v) (standing b))
        (fenced_by marks b.kind)
        (λ v p. elim p [ inl q ↦ back loading v q.0 q.1 | inr q ↦ back storing v q.0 q.1 ])
        (λ v p. let f = fenced_to v p.0.0 in on f.0 f.1 v f.2 (((p.0.0.0, p.0.1), f.3), p.1))
        (mark_either (λ v. (kind_loads b.kind ≡ true) × Of loading v) (λ v. (kind_stores b.kind ≡ true) × Of storing v)
        (cond (kind_loads b.kind) (later_of (marks loading loading) (marks storing loading)) None)
        (cond (kind_stores b.kind) (later_of (marks loading storing) (marks storing storing)) None)
        (mark_if (Of loading) (kind_loads b.kind) (later_of (marks loading loading) (marks storing loading))
        (of_class loading))
        (mark_if (Of storing) (kind_stores b.kind) (later_of (marks loading storing) (marks storing storing))
        (of_class storing)))
      where
        back : (d : Class) (v : Op) → kind_in d b.kind ≡ true → Of d v → Over
            (λ u. IsToPrecede R4 t t' b u × IsPlaced u) (standing b) v
        back d v y (inl p) = ((fenced_from v loading d p.0.0.0 y p.0.1, p.0.0.1), p.1)
        back d v y (inr p) = ((fenced_from v storing d p.0.0.0 y p.0.1, p.0.0.1), p.1)

        on : (c d : Class) (v : Op) → kind_in d b.kind ≡ true → Over (λ u. IsOwnPerformed t H u × FencedOff t H c d u)
            (standing b) v → ((kind_loads b.kind ≡ true) × Of loading v) ⊎ ((kind_stores b.kind ≡ true) × Of storing v)
        on loading loading v y p = inl (y, inl p)
        on storing loading v y p = inl (y, inr p)
        on loading storing v y p = inr (y, inl p)
        on storing storing v y p = inr (y, inr p)

    -- rule 4: what is first, where the waiting ones are those of a FENCE that orders stores before a class of b
    pub rule4 : (w : Option Op) → IsLatestIfAny (λ v. (IsOwn t H v × (v.place ≡ None))
        × ((d : Class) × (kind_in d b.kind ≡ true) × FenceAfter t H storing d v.name.tag)) w → IsLatestIfAny
        (λ v. Broken R4 t' v b) (first_there w (fenced_by marks b.kind))
    rule4 w hw = broken_mark t t' r new k s R4 b w (fenced_by marks b.kind) mine pb
        (latest_same (λ v. (IsOwn t H v × (v.place ≡ None))
        × ((d : Class) × (kind_in d b.kind ≡ true) × FenceAfter t H storing d v.name.tag))
        (λ v. IsToPrecede R4 t t' b v × (v.place ≡ None)) w
        (λ v p. (
          fenced_from v storing p.1.0 p.0.0 p.1.1 (
            ap kind_stores
                (plain_kind t v k p.0.0.0 (k.unperformed v p.0.0.0 p.0.1)),
            p.1.2,
          ),
          p.0.1,
        ))
        (λ v p. let f = fenced_to v p.0 in ((p.0.0, p.1), (f.1, f.2, waiting_class v p.0.0.0 p.1 f.0 f.1 f.3)))
        hw)
        (λ e. fenced_mark)
      where
        waiting_class : (v : Op) → Contains t.ops v → v.place ≡ None → (c d : Class) → FencedOff t H c d v
            → FenceAfter t H storing d v.name.tag
        waiting_class v i e storing d f = f.1
        waiting_class v i e loading d f = absurd (both_ways _
            (ap kind_loads (plain_kind t v k i (k.unperformed v i e))) f.0)

  -- ---- rules 5 to 7

  -- a waiting store acquires nothing, and is not RCsc
  waiting_plain : (v : Op) → Contains t.ops v → v.place ≡ None → IsPlainAnnotated v
  waiting_plain v i e = k.plain v i (k.unperformed v i e)

  pub rule5 : (m : Option Op) → IsLatestIfAny (Over (λ v. IsOwnPerformed t b.name.hart v
      × (is_annotated v.acquire ≡ true)) (standing b)) m → IsLatestIfAny (λ v. Broken R5 t' v b) m
  rule5 m h = broken_mark t t' r new k s R5 b None m mine pb
      (λ v p. both_ways _ (ap is_annotated (waiting_plain v p.0.0.0 p.1).0) p.0.1)
      (λ e. latest_same (Over (λ v. IsOwnPerformed t b.name.hart v × (is_annotated v.acquire ≡ true)) (standing b))
      (Over (λ v. IsToPrecede R5 t t' b v × IsPlaced v) (standing b)) m (λ v p. (((p.0.0.0, p.0.1), p.0.0.1), p.1))
      (λ v p. (((p.0.0.0, p.0.1), p.0.0.1), p.1)) h)

  pub rule6 : (w m : Option Op) → IsLatestIfAny (λ v. IsOwn t b.name.hart v × (v.place ≡ None)) w → IsLatestIfAny
      (Over (IsOwnPerformed t b.name.hart) (standing b)) m
      → IsLatestIfAny (λ v. Broken R6 t' v b) (cond (is_annotated b.release) (first_there w m) None)
  rule6 w m hw hm = at (is_annotated b.release) refl
    where
      at : (z : Bool) → is_annotated b.release ≡ z → IsLatestIfAny (λ v. Broken R6 t' v b)
          (cond z (first_there w m) None)
      at false e = λ v p. both_ways _ e p.rule
      at true e = broken_mark t t' r new k s R6 b w m mine pb
          (latest_same (λ v. IsOwn t b.name.hart v × (v.place ≡ None))
          (λ v. IsToPrecede R6 t t' b v × (v.place ≡ None)) w (λ v p. ((p.0, e), p.1)) (λ v p. (p.0.0, p.1)) hw)
          (λ n. latest_same (Over (IsOwnPerformed t b.name.hart) (standing b))
          (Over (λ v. IsToPrecede R6 t t' b v × IsPlaced v) (standing b)) m (λ v p. (((p.0.0, e), p.0.1), p.1))
          (λ v p. ((p.0.0.0, p.0.1), p.1)) hm)

  pub rule7 : (m : Option Op) → IsLatestIfAny (Over (λ v. IsOwnPerformed t b.name.hart v × (has_rcsc v ≡ true))
      (standing b)) m → IsLatestIfAny (λ v. Broken R7 t' v b) (cond (has_rcsc b) m None)
  rule7 m h = at (has_rcsc b) refl
    where
      at : (z : Bool) → has_rcsc b ≡ z → IsLatestIfAny (λ v. Broken R7 t' v b) (cond z m None)
      at false e = λ v p. both_ways _ e (and_parts (has_rcsc v) (has_rcsc b) p.rule).1
      at true e = broken_mark t t' r new k s R7 b None m mine pb
          (λ v p. let q = and_parts (has_rcsc v) (has_rcsc b) p.0.1 in let a = waiting_plain v p.0.0.0 p.1 in elim
          (or_cases (is_rcsc v.acquire) (is_rcsc v.release) q.0) [
            | inl z ↦ both_ways _ (ap is_rcsc a.0) z
            | inr z ↦ both_ways _ a.1 z
          ])
          (λ n. latest_same (Over (λ v. IsOwnPerformed t b.name.hart v × (has_rcsc v ≡ true)) (standing b))
          (Over (λ v. IsToPrecede R7 t t' b v × IsPlaced v) (standing b)) m
          (λ v p. (((p.0.0.0, and_from _ _ p.0.1 e), p.0.0.1), p.1))
          (λ v p. (((p.0.0.0, p.0.1), (and_parts (has_rcsc v) (has_rcsc b) p.0.0.1).0), p.1)) h)
