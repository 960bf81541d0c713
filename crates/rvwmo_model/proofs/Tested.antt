-- Each test computes its word of the definitions.
use Rattle.std.proofs.Common.{ℕ, ◌+◌, ◌-◌, ◌<◌, ◌≡◌, ◌≢◌, ◌⊎◌, inl, inr, Bool, true, not, eqb, ltb, ◌&&◌, ◌||◌}
use Rattle.std.proofs.Common.{Option, Some, None, refl, sym, ap, subst, ◌∙◌, arith}
use Rattle.std.specs.Bool.{Decides}
use Rattle.std.proofs.lemmas.List.Elements.{Contains-append_left, Contains-append_right}
use Rattle.std.proofs.lemmas.Bool.{both_ways, false≢true, eqb-true, eq-eqb, ltb-true, lt-ltb, and_parts, and_from}
use Rattle.std.proofs.lemmas.Bool.{or_cases, or_left, or_right}
use Rattle.std.specs.List.{Contains, list_any}
use Rattle.tandem_base.specs.declared.names.Origin.{Origin}
use Rattle.rv_decode.specs.declared.instruction.Insn.{Insn}
use Rattle.rvwmo_model.specs.declared.instructions.Retired.{Retired}
use Rattle.rvwmo_model.specs.declared.judge.walk.Use.{Use}
use Rattle.rvwmo_model.specs.declared.judge.walk.Use.TheVariants.{Address, Data, Control}
use Rattle.rvwmo_model.specs.declared.operations.Op.{Op}
use Rattle.rvwmo_model.specs.declared.traces.Trace.{Trace}
use Rattle.rvwmo_model.specs.Order.{everything, standing, op_loads, op_stores, has_byte, reads, writes, precedes}
use Rattle.rvwmo_model.specs.ProgramOrder.{insn_at, insn_of, is_one}
use Rattle.rvwmo_model.specs.Sources.{source, origin}
use Rattle.rvwmo_model.specs.Flows.{DependsBy}
use Rattle.rvwmo_model.specs.Rules.{SomeBetween, StoresTo, ReadsFrom, Reserves, Paired, AddressOn, DataOn, Overlap}
use Rattle.rvwmo_model.specs.Rules.{ReadApart, ReadsDependent, Orders, Broken, Rule, R1, R2, R3, R4, R5, R6, R7, R8}
use Rattle.rvwmo_model.specs.Rules.{R9, R10, R11, R12, R13}
use Rattle.rvwmo_model.specs.InForm.{AreRising, InForm}
use Rattle.rvwmo_model.specs.Walk.{use_of}
use Rattle.rvwmo_model.specs.Tests.{is_between, overlap, same_origin, store_between, read_apart_at, read_apart}
use Rattle.rvwmo_model.specs.Tests.{stands_with, is_operation, is_store_of, reads_from, parts_pair, is_pair_of}
use Rattle.rvwmo_model.specs.Tests.{depends_at, depends_between, is_dependent, reads_dependent, orders, is_broken}
use Rattle.rvwmo_model.proofs.Searches.{some_is, not_true, not_false, some_byte_is}
use Rattle.rvwmo_model.proofs.Latest.{source_is}
use Rattle.rvwmo_model.proofs.Orders.{before_self}
use Rattle.rvwmo_model.proofs.Totality.{stand_alike}
use Rattle.rvwmo_model.proofs.LookUp.{found_in, named_self}
use Rattle.rvwmo_model.proofs.Walks.{finds_is}
use Rattle.rv_decode.specs.Kinds.{is_amo_or_sc, is_lr, is_sc}
use Rattle.rvwmo_model.specs.InsnKinds.{fence_orders}

-- ---- tests of tests

pub both_is : (b c : Bool) (P Q : Type 0) → Decides b P → Decides c Q → Decides (b && c) (P × Q)
both_is b c P Q d e = ((λ h. let p = and_parts b c h in (d.0 p.0, e.0 p.1)), λ h. and_from b c (d.1 h.0) (e.1 h.1))

pub either_is : (b c : Bool) (P Q : Type 0) → Decides b P → Decides c Q → Decides (b || c) (P ⊎ Q)
either_is b c P Q d e = (
  (λ h. elim (or_cases b c h) [ inl a ↦ inl (d.0 a) | inr a ↦ inr (e.0 a) ]),
  λ h. elim h [ inl a ↦ or_left b c (d.1 a) | inr a ↦ or_right b c (e.1 a) ],
)

pub not_is : (b : Bool) (P : Type 0) → Decides b P → Decides (not b) (P → ⊥)
not_is b P d = ((λ h p. both_ways b (not_false b h) (d.1 p)), λ f. ap not (not_true b (λ e. f (d.0 e))))

pub itself_is : (b : Bool) → Decides b (b ≡ true)
itself_is b = ((λ h. h), λ h. h)

pub through : (b : Bool) (P Q : Type 0) → Decides b P → (P → Q) → (Q → P) → Decides b Q
through b P Q d f g = ((λ h. f (d.0 h)), λ q. d.1 (g q))

-- ---- sources

pub same_origin_is : (m n : Option Origin) → Decides (same_origin m n) (m ≡ n)
same_origin_is None None = ((λ e. refl), λ e. refl)
same_origin_is None (Some n) = ((λ e. absurd (false≢true e)), λ e. absurd (cc))
same_origin_is (Some m) None = ((λ e. absurd (false≢true e)), λ e. absurd (cc))
same_origin_is (Some m) (Some n) = (
  (λ e.
      let p = and_parts (eqb m.hart n.hart) (eqb m.tag n.tag) e in
      let a : m.hart ≡ n.hart = eqb-true _ _ p.0 in
      let b : m.tag ≡ n.tag = eqb-true _ _ p.1 in
      ap (λ (o : Origin). Some o) (λ i. record { hart = a i; tag = b i })),
  λ e. let same : m ≡ n = cc in and_from _ _ (eq-eqb _ _ (ap (λ (o : Origin). o.hart) same))
      (eq-eqb _ _ (ap (λ (o : Origin). o.tag) same)),
)

-- ---- between two operations

abbrev Between : Op → Op → ℕ → ℕ → Type 0
Between a b hart tag = (hart ≡ a.name.hart) × (a.name.tag < tag) × (tag < b.name.tag)

between_is : (a b : Op) (hart tag : ℕ) → Decides (is_between a b hart tag) (Between a b hart tag)
between_is a b hart tag = (
  (λ e.
      let p = and_parts (eqb hart a.name.hart && ltb a.name.tag tag) (ltb tag b.name.tag) e in
      let q = and_parts (eqb hart a.name.hart) (ltb a.name.tag tag) p.0 in
      (eqb-true _ _ q.0, ltb-true _ _ q.1, ltb-true _ _ p.1)),
  λ h. and_from _ _ (and_from _ _ (eq-eqb _ _ h.0) (lt-ltb _ _ h.1)) (lt-ltb _ _ h.2),
)

-- an instruction between a and b that passes, by the list and by its tag
abbrev BetweenBy : (Insn → Bool) → Trace → Op → Op → Type 0
BetweenBy test t a b = (k : ℕ) × (a.name.tag < k) × (k < b.name.tag)
    × (is_one test (insn_at t.insns a.name.hart k) ≡ true)

pub one_some : (test : Insn → Bool) (o : Option Retired) → is_one test o ≡ true → (w : Retired) × (o ≡ Some w)
    × (test w.insn ≡ true)
one_some test None e = absurd (false≢true e)
one_some test (Some w) e = (w, refl, e)

between_by : (test : Insn → Bool) (t : Trace) (a b : Op) → AreRising t.insns
    → Decides (list_any (λ w. is_between a b w.hart w.tag && test w.insn) t.insns) (BetweenBy test t a b)
between_by test t a b rising = (
  (λ e.
      let h = (some_is (λ w. is_between a b w.hart w.tag && test w.insn) t.insns).0 e in
      let p = and_parts (is_between a b h.0.hart h.0.tag) (test h.0.insn) h.2 in
      let q = (between_is a b h.0.hart h.0.tag).0 p.0 in
      let found : insn_at t.insns a.name.hart h.0.tag ≡ Some h.0 = ap (λ (n : ℕ). insn_at t.insns n h.0.tag) (sym q.0)
      ∙ named_self t.insns h.0 rising h.1 in
      (h.0.tag, q.1, q.2, ap (is_one test) found ∙ p.1)),
  λ h.
      let w = one_some test (insn_at t.insns a.name.hart h.0) h.3 in
      let f = found_in t.insns a.name.hart h.0 w.0 w.1 in
      (some_is (λ v. is_between a b v.hart v.tag && test v.insn) t.insns).1 (
        w.0,
        f.0,
        and_from _ _
            ((between_is a b w.0.hart w.0.tag).1
            (f.1, (let l = h.1 in let e = f.2 in omega arith), (let l = h.2 in let e = f.2 in omega arith))) w.2,
      ),
)

-- ---- the rules

covers_of_reads : (x : ℕ) (o : Op) → reads x o ≡ true → has_byte x o ≡ true
covers_of_reads x o e = (and_parts (op_loads o) (has_byte x o) e).1

overlap_is : (a b : Op) → Decides (overlap a b) (Overlap a b)
overlap_is a b =
    through (overlap a b) _ (Overlap a b)
    (some_byte_is (λ x. has_byte x a && writes x b) a (λ x q. (and_parts (has_byte x a) (writes x b) q).0))
    (λ h. let p = and_parts (has_byte h.0 a) (writes h.0 b) h.1 in (h.0, p.0, p.1)) (λ h. (h.0, and_from _ _ h.1 h.2))

store_between_is : (t : Trace) (a b : Op) (x : ℕ) → Decides (list_any (store_between a b x) t.ops)
    (SomeBetween (StoresTo t a.name.hart x) a b)
store_between_is t a b x = (
  (λ e.
      let h = (some_is (store_between a b x) t.ops).0 e in
      let p = and_parts (is_between a b h.0.name.hart h.0.name.tag) (writes x h.0) h.2 in
      let q = (between_is a b h.0.name.hart h.0.name.tag).0 p.0 in
      (h.0.name.tag, q.1, q.2, (h.0, h.1, q.0, refl, p.1))),
  λ h.
      let o = h.3.0 in
      let tag = h.3.3 in
      (some_is (store_between a b x) t.ops).1 (
        o,
        h.3.1,
        and_from _ _
            ((between_is a b o.name.hart o.name.tag).1
            (h.3.2, (let l = h.1 in omega arith), (let l = h.2 in omega arith))) h.3.4,
      ),
)

read_apart_is : (t : Trace) (a b : Op) → Decides (read_apart t a b) (ReadApart t a b)
read_apart_is t a b =
    through (read_apart t a b) _ (ReadApart t a b)
    (some_byte_is (read_apart_at t a b) a (λ x q. covers_of_reads x a (parts x q).0))
    (λ h. let p = parts h.0 h.1 in (h.0, p.0, p.1, p.2, p.3))
    (λ h. (
      h.0,
      and_from _ _ (and_from _ _ (and_from _ _ h.1 h.2) ((not_is _ _ (store_between_is t a b h.0)).1 h.3))
          ((not_is _ _ (same_origin_is (origin t a h.0) (origin t b h.0))).1 h.4),
    ))
  where
    parts : (x : ℕ) → read_apart_at t a b x ≡ true → (reads x a ≡ true) × (reads x b ≡ true)
        × (SomeBetween (StoresTo t a.name.hart x) a b → ⊥) × (origin t a x ≢ origin t b x)
    parts x q =
        let p = and_parts ((reads x a && reads x b) && not (list_any (store_between a b x) t.ops))
        (not (same_origin (origin t a x) (origin t b x))) q in
        let r = and_parts (reads x a && reads x b) (not (list_any (store_between a b x) t.ops)) p.0 in
        let s = and_parts (reads x a) (reads x b) r.0 in (
          s.0,
          s.1,
          (not_is _ _ (store_between_is t a b x)).0 r.1,
          (not_is _ _ (same_origin_is (origin t a x) (origin t b x))).0 p.1,
        )

-- a store stands with an operation where it is one
operation_is : (t : Trace) (s : Op) → InForm t → Contains (everything t) s
    → Decides (is_operation t s) (Contains t.ops s)
operation_is t s form i = (
  (λ e.
      let h = (some_is (stands_with s) t.ops).0 e in
      let p = and_parts (not (precedes h.0 s)) (not (precedes s h.0)) h.2 in
      let same : h.0 ≡ s = stand_alike t h.0 s form (Contains-append_left t.ops t.early h.0 h.1) i (not_false _ p.0)
      (not_false _ p.1) in
      subst (Contains t.ops) same h.1),
  λ h. (some_is (stands_with s) t.ops).1
      (s, h, and_from _ _ (ap not (before_self (standing s))) (ap not (before_self (standing s)))),
)

-- a source is an operation or an early store
source_in : (t : Trace) (b s : Op) (x : ℕ) → source t b x ≡ Some s → Contains (everything t) s
source_in t b s x e =
    elim (source_is t b x s e).0 [
      | inl h ↦ Contains-append_left t.ops t.early s h.0
      | inr h ↦ Contains-append_right
          t.ops t.early s h.0
    ]

-- the source o of byte x of b is an operation of the instruction of hart h under the tag k
abbrev StoreOf : Trace → ℕ → ℕ → Option Op → Type 0
StoreOf t h k o = (s : Op) × (o ≡ Some s) × Contains t.ops s × (s.name.hart ≡ h) × (s.name.tag ≡ k)

store_of_is : (t : Trace) (h k : ℕ) (o : Option Op) → InForm t → ((s : Op) → o ≡ Some s → Contains (everything t) s)
    → Decides (is_store_of t h k o) (StoreOf t h k o)
store_of_is t h k None form i = ((λ e. absurd (false≢true e)), λ h. absurd (let e = h.1 in cc))
store_of_is t h k (Some s) form i = (
  (λ e.
      let p = and_parts (eqb s.name.hart h && eqb s.name.tag k) (is_operation t s) e in
      let q = and_parts (eqb s.name.hart h) (eqb s.name.tag k) p.0 in
      (s, refl, (operation_is t s form (i s refl)).0 p.1, eqb-true _ _ q.0, eqb-true _ _ q.1)),
  λ g.
      let e = g.1 in
      let same : g.0 ≡ s = cc in
      and_from _ _
      (and_from _ _ (eq-eqb _ _ (ap (λ (z : Op). z.name.hart) (sym same) ∙ g.3))
      (eq-eqb _ _ (ap (λ (z : Op). z.name.tag) (sym same) ∙ g.4)))
      ((operation_is t s form (i s refl)).1 (subst (Contains t.ops) same g.2)),
)

reads_from_is : (t : Trace) (b : Op) (h k : ℕ) → InForm t → Decides (reads_from t b h k) (ReadsFrom t b h k)
reads_from_is t b h k form =
    through (reads_from t b h k) _ _
    (some_byte_is (λ x. reads x b && is_store_of t h k (source t b x)) b
    (λ x q. covers_of_reads x b (and_parts (reads x b) (is_store_of t h k (source t b x)) q).0))
    (λ g.
    let p = and_parts (reads g.0 b) (is_store_of t h k (source t b g.0)) g.1 in
    let s = (at g.0).0 p.1 in
    (g.0, s.0, p.0, s.1, s.2, s.3, s.4))
    (λ g. (g.0, and_from _ _ g.2 ((at g.0).1 (g.1, g.3, g.4, g.5, g.6))))
  where
    at : (x : ℕ) → Decides (is_store_of t h k (source t b x)) (StoreOf t h k (source t b x))
    at x = store_of_is t h k (source t b x) form (λ s e. source_in t b s x e)

pub paired_is : (t : Trace) (a b : Op) → AreRising t.insns → Decides (is_pair_of t a b) (Paired t a b)
paired_is t a b rising = (
  (λ e.
      let p = and_parts (is_one is_lr (insn_of t a) && is_one is_sc (insn_of t b))
      (not (list_any (parts_pair a b) t.insns)) e in
      let q = and_parts (is_one is_lr (insn_of t a)) (is_one is_sc (insn_of t b)) p.0 in
      (q.0, q.1, (not_is _ _ parts).0 p.1)),
  λ h. and_from _ _ (and_from _ _ h.0 h.1) ((not_is _ _ parts).1 h.2),
)
  where
    parts : Decides (list_any (parts_pair a b) t.insns) (SomeBetween (Reserves t a.name.hart) a b)
    parts = between_by (λ w. is_lr w || is_sc w) t a b rising

depends_at_is : (by : Use) (t : Trace) (a : Op) (tag : ℕ) → AreRising t.insns → Decides (depends_at by t a tag)
    (DependsBy (use_of by) t.insns a.name.hart tag a.name.tag)
depends_at_is by t a tag rising =
    through (depends_at by t a tag) _ _
    (finds_is (record { hart = a.name.hart; start = a.name.tag; from = tag; to = tag; by = by }) t.insns rising)
    (λ h. subst (λ (k : ℕ). DependsBy (use_of by) t.insns a.name.hart k a.name.tag)
    (let l = h.1 in let m = h.2 in let e : h.0 ≡ tag = omega arith in e) h.3)
    (λ h. (tag, omega arith, omega arith, h))

depends_between_is : (by : Use) (t : Trace) (a b : Op) → AreRising t.insns → a.name.tag < b.name.tag
    → Decides (depends_between by t a b)
    ((k : ℕ) × (a.name.tag < k) × (k < b.name.tag) × DependsBy (use_of by) t.insns a.name.hart k a.name.tag)
depends_between_is by t a b rising lt =
    through (depends_between by t a b) _ _
    (finds_is (record { hart = a.name.hart; start = a.name.tag; from = a.name.tag + 1; to = b.name.tag - 1; by = by })
    t.insns rising)
    (λ h. let l = h.1 in let m = h.2 in (h.0, omega arith, omega arith, h.3))
    (λ h. let l = h.1 in let m = h.2 in (h.0, omega arith, omega arith, h.3))

abbrev Dependent : Trace → Op → Op → Option Op → Type 0
Dependent t a b o = SomeBetween (λ m. (AddressOn t a m ⊎ DataOn t a m) × StoreOf t a.name.hart m o) a b

dependent_is : (t : Trace) (a b : Op) (o : Option Op) → InForm t → ((s : Op) → o ≡ Some s → Contains (everything t) s)
    → Decides (is_dependent t a b o) (Dependent t a b o)
dependent_is t a b None form i = ((λ e. absurd (false≢true e)), λ h. absurd (let e = h.3.1.1 in cc))
dependent_is t a b (Some s) form i = (
  (λ e.
      let p = and_parts (is_between a b s.name.hart s.name.tag && is_operation t s)
      (depends_at Address t a s.name.tag || depends_at Data t a s.name.tag) e in
      let q = and_parts (is_between a b s.name.hart s.name.tag) (is_operation t s) p.0 in
      let r = (between_is a b s.name.hart s.name.tag).0 q.0 in (
        s.name.tag,
        r.1,
        r.2,
        ((either s.name.tag).0 p.1, (s, refl, (operation_is t s form (i s refl)).0 q.1, r.0, refl)),
      )),
  λ h.
      let e = h.3.1.1 in
      let same : h.3.1.0 ≡ s = cc in
      let hart : s.name.hart ≡ a.name.hart = ap (λ (z : Op). z.name.hart) (sym same) ∙ h.3.1.3 in
      let tag : s.name.tag ≡ h.0 = ap (λ (z : Op). z.name.tag) (sym same) ∙ h.3.1.4 in
      and_from _ _
      (and_from _ _
      ((between_is a b s.name.hart s.name.tag).1
      (hart, (let l = h.1 in omega arith), (let l = h.2 in omega arith)))
      ((operation_is t s form (i s refl)).1 (subst (Contains t.ops) same h.3.1.2)))
      ((either s.name.tag).1 (subst (λ (k : ℕ). AddressOn t a k ⊎ DataOn t a k) (sym tag) h.3.0)),
)
  where
    either : (k : ℕ) → Decides (depends_at Address t a k || depends_at Data t a k) (AddressOn t a k ⊎ DataOn t a k)
    either k = either_is _ _ _ _ (depends_at_is Address t a k form.rising) (depends_at_is Data t a k form.rising)

reads_dependent_is : (t : Trace) (a b : Op) → InForm t → Decides (reads_dependent t a b) (ReadsDependent t a b)
reads_dependent_is t a b form =
    through (reads_dependent t a b) _ _
    (some_byte_is (λ x. reads x b && is_dependent t a b (source t b x)) b
    (λ x q. covers_of_reads x b (and_parts (reads x b) (is_dependent t a b (source t b x)) q).0))
    (λ h.
    let p = and_parts (reads h.0 b) (is_dependent t a b (source t b h.0)) h.1 in
    let d = (at h.0).0 p.1 in
    let s = d.3.1 in
    (d.0, d.1, d.2, (d.3.0, (h.0, s.0, p.0, s.1, s.2, s.3, s.4))))
    (λ h. let f = h.3.1 in (f.0, and_from _ _ f.2 ((at f.0).1 (h.0, h.1, h.2, (h.3.0, (f.1, f.3, f.4, f.5, f.6))))))
  where
    at : (x : ℕ) → Decides (is_dependent t a b (source t b x)) (Dependent t a b (source t b x))
    at x = dependent_is t a b (source t b x) form (λ s e. source_in t b s x e)

-- each test of a rule computes the rule
pub holds_is : (k : Rule) (t : Trace) (a b : Op) → InForm t → a.name.tag < b.name.tag
    → Decides (orders k t a b) (Orders k t a b)
holds_is R1 t a b form lt = overlap_is a b
holds_is R2 t a b form lt = read_apart_is t a b
holds_is R3 t a b form lt = both_is _ _ _ _ (itself_is (is_one is_amo_or_sc (insn_of t a)))
    (reads_from_is t b a.name.hart a.name.tag form)
holds_is R4 t a b form lt = between_by (λ w. fence_orders w a.kind b.kind) t a b form.rising
holds_is R5 t a b form lt = itself_is _
holds_is R6 t a b form lt = itself_is _
holds_is R7 t a b form lt = itself_is _
holds_is R8 t a b form lt = paired_is t a b form.rising
holds_is R9 t a b form lt = depends_at_is Address t a b.name.tag form.rising
holds_is R10 t a b form lt = depends_at_is Data t a b.name.tag form.rising
holds_is R11 t a b form lt = both_is _ _ _ _ (itself_is (op_stores b)) (depends_between_is Control t a b form.rising lt)
holds_is R12 t a b form lt = reads_dependent_is t a b form
holds_is R13 t a b form lt = both_is _ _ _ _ (itself_is (op_stores b)) (depends_between_is Address t a b form.rising lt)

-- and so a broken pair of members is found
pub broken_is : (k : Rule) (t : Trace) (a b : Op) → InForm t → Contains t.ops a → Contains t.ops b
    → Decides (is_broken k t a b) (Broken k t a b)
broken_is k t a b form ha hb = (
  (λ e.
      let p = and_parts ((eqb b.name.hart a.name.hart && ltb a.name.tag b.name.tag) && precedes b a) (orders k t a b)
      e in
      let q = and_parts (eqb b.name.hart a.name.hart && ltb a.name.tag b.name.tag) (precedes b a) p.0 in
      let r = and_parts (eqb b.name.hart a.name.hart) (ltb a.name.tag b.name.tag) q.0 in
      let lt = ltb-true a.name.tag b.name.tag r.1 in
      record {
        first_in = ha;
        second_in = hb;
        one_hart = eqb-true _ _ r.0;
        in_order = lt;
        rule = (holds_is k t a b form lt).0 p.1;
        against = q.1;
      }),
  λ h. and_from _ _ (and_from _ _ (and_from _ _ (eq-eqb _ _ h.one_hart) (lt-ltb _ _ h.in_order)) h.against)
      ((holds_is k t a b form h.in_order).1 h.rule),
)
