-- Waiting stores while a trace grows.
use Rattle.std.proofs.Common.{ℕ, ◌<◌, ◌≡◌, ◌≢◌, ◌⊎◌, inl, inr, true, false, List, Option, Some, None, refl, sym, ap}
use Rattle.std.proofs.Common.{subst, ◌∙◌, arith}
use Rattle.std.proofs.lemmas.Bool.{both_ways, and_parts, and_from, cases_Bool, cases_eq}
use Rattle.std.specs.List.{Contains}
use Rattle.rv_decode.specs.Kinds.{is_store}
use Rattle.rvwmo_model.specs.declared.instructions.Retired.{Retired}
use Rattle.rvwmo_model.specs.declared.operations.Op.{Op}
use Rattle.rvwmo_model.specs.declared.traces.Trace.{Trace}
use Rattle.rvwmo_model.specs.Order.{kind_stores, op_stores, has_byte, precedes, writes, put_at}
use Rattle.rvwmo_model.proofs.Membership.{nothing_in}
use Rattle.growth_laws.specs.Kinds.{WellKinded}
use Rattle.growth_laws.specs.Growth.{Adds, adds_loads, adds_store, adds_atomic, adds_nothing}
use Rattle.growth_laws.specs.Growth.{AddInsn, AddsStore, PerformsPart, Performs, no_parts, more_parts}
use Rattle.growth_laws.proofs.Places.{not_both, unplaced_order}
use Rattle.growth_laws.proofs.Steps.{only, there}
use Rattle.growth_laws.proofs.Operations.{op_older}
use Rattle.window_laws.specs.Waiting.{IsWaiting, IsWaitingBelow, AreWaiting, IsLatestWaiting}
use Rattle.window_laws.specs.WaitingLaws.{WaitingStarts, WaitingStays, AlsoWaits, NoLongerWaits, WaitingChanges}
use Rattle.window_laws.specs.WaitingLaws.{WaitingIsTold}
use Rattle.rvwmo_model.specs.Report.{IsLatest}

pub waiting_starts : WaitingStarts
waiting_starts granule h = record {
  each = λ tag x value e. absurd (cc);
  all = λ v x p. absurd (nothing_in v p.0);
}

-- ---- the same wait

waits_alike : (t t' : Trace) (h : ℕ) (waiting : ℕ → ℕ → Option ℕ)
    → ((v : Op) → v.name.hart ≡ h → v.place ≡ None → Contains t.ops v → Contains t'.ops v)
    → ((v : Op) → v.name.hart ≡ h → v.place ≡ None → Contains t'.ops v → Contains t.ops v)
    → AreWaiting t h waiting → AreWaiting t' h waiting
waits_alike t t' h waiting on back a = record {
  each = λ tag x value e. (let v = a.each tag x value e in
      (v.0, (on v.0 v.1.1 v.1.2 v.1.0, v.1.1, v.1.2, v.1.3), v.2, v.3));
  all = λ v x p. a.all v x (back v p.1 p.2 p.0, p.1, p.2, p.3);
}

-- an instruction that isn't a plain store of the hart adds nothing of it that waits
added_placed : (t t' : Trace) (r : Retired) (new : List Op) (h : ℕ) → WellKinded t → (s : AddInsn t t' r new)
    → (is_store r.insn ≡ false) ⊎ (r.hart ≢ h) → (v : Op) → v.name.hart ≡ h → v.place ≡ None → Contains new v → ⊥
added_placed t t' r new h k s other v e f m = at s.adds
  where
    at : Adds t t' r new → ⊥
    at (adds_loads a) = not_both v (a.placed v m) f
    at (adds_store o a) = elim other [
      | inl q ↦ both_ways _ q a.stores
      | inr d ↦ d (sym (s.are_of.own v m).0 ∙ e)
    ]
    at (adds_atomic e o a) =
        let p = k.form.early e a.was in
        not_both v (p.0, ap (λ (z : Op). z.place) (only o v new a.one m) ∙ a.place ∙ p.1) f
    at (adds_nothing a) = nothing_in v (subst (λ (l : List Op). Contains l v) a.none m)

part_waits : (t t' : Trace) (o n : Op) (rest : Option Op) (h : ℕ) (waiting : ℕ → ℕ → Option ℕ)
    → PerformsPart t t' o n rest → n.name.hart ≢ h → AreWaiting t h waiting → AreWaiting t' h waiting
part_waits t t' o n rest h waiting s d = waits_alike t t' h waiting
    (λ v e f i. elim (s.ops_on v i) [
      | inl same ↦ absurd (d (s.part.same.0 ∙ sym (ap (λ (z : Op). z.name.hart) same) ∙ e))
      | inr j ↦ j
    ])
    (λ v e f i. elim (s.ops_back v i) [
      | inl same ↦ absurd (d (sym (ap (λ (z : Op). z.name.hart) same) ∙ e))
      | inr q ↦ elim q [
        | inl m ↦ absurd (d (s.part.same.0 ∙ sym (s.left v m).2.same.0 ∙ e))
        | inr j ↦ j
      ]
    ])

stores_wait : (g h : ℕ) (t : Trace) (parts : List Op) (t' : Trace) (waiting : ℕ → ℕ → Option ℕ) → Performs g t parts t'
    → g ≢ h → AreWaiting t h waiting → AreWaiting t' h waiting
stores_wait g h t _ _ waiting no_parts d a = a
stores_wait g h t _ _ waiting (more_parts parts u v o n rest s e p) d a =
    part_waits u v o n rest h waiting p (λ f. d (sym e ∙ f)) (stores_wait g h t parts u waiting s d a)

pub waiting_stays : WaitingStays
waiting_stays = record {
  nothing = λ t t' h waiting s.
      waits_alike t t' h waiting (λ v e f i. s.ops.on v i) (λ v e f i. s.ops.back v i);
  early = λ t t' e h waiting s.
      waits_alike t t' h waiting (λ v e f i. s.ops.on v i) (λ v e f i. s.ops.back v i);
  insn = λ t t' r new h waiting k s other.
      waits_alike t t' h waiting (λ v e f i. s.ops_on v i) (λ v e f i. elim (s.ops_back v i) [
        | inl m ↦ absurd (added_placed t t' r new h k s other v e f m)
        | inr j ↦ j
      ]);
  stores = λ t t' g h parts waiting s d a. stores_wait g h t parts t' waiting s d a;
}

-- ---- others wait

store_retired : (t t' : Trace) (r : Retired) (new : List Op) (o : Op) (waiting later : ℕ → ℕ → Option ℕ)
    → WellKinded t → AddInsn t t' r new → AddsStore t t' r new o → AlsoWaits waiting later o
    → AreWaiting t r.hart waiting → AreWaiting t' r.hart later
store_retired t t' r new o waiting later k s a w h = record { each = each; all = all }
  where
    mine : Contains new o
    mine = there o new a.one

    own : (o.name.hart ≡ r.hart) × (o.name.tag ≡ r.tag)
    own = s.are_of.own o mine

    each_at : (tag x value : ℕ) → (tag ≡ o.name.tag) ⊎ (tag ≢ o.name.tag) → later tag x ≡ Some value
        → (v : Op) × IsWaiting t' r.hart x v × (v.name.tag ≡ tag) × (put_at v x ≡ value)
    each_at tag x value (inr d) e =
        let v = h.each tag x value (sym (w.others tag x d) ∙ e) in
        (v.0, (s.ops_on v.0 v.1.0, v.1.1, v.1.2, v.1.3), v.2, v.3)
    each_at tag x value (inl d) e =
        let f : later o.name.tag x ≡ Some value = subst (λ (k : ℕ). later k x ≡ Some value) d e in
        elim (cases_Bool (writes x o)) [
          | inl q ↦
              let same : Some (put_at o x) ≡ Some value = sym (w.here x q) ∙ f in
              (o, (s.added o mine, own.0, a.unperformed, q), sym d, cc)
          | inr q ↦ absurd (let never : None ≡ Some value = sym (w.elsewhere x q) ∙ f in cc)
        ]

    each : (tag x value : ℕ) → later tag x ≡ Some value
        → (v : Op) × IsWaiting t' r.hart x v × (v.name.tag ≡ tag) × (put_at v x ≡ value)
    each tag x value e = each_at tag x value (cases_eq tag o.name.tag) e

    all : (v : Op) (x : ℕ) → IsWaiting t' r.hart x v → later v.name.tag x ≡ Some (put_at v x)
    all v x p = elim (s.ops_back v p.0) [
      | inl m ↦
          let same : v ≡ o = only o v new a.one m in
          subst (λ (z : Op). later z.name.tag x ≡ Some (put_at z x)) (sym same)
          (w.here x (subst (λ (z : Op). writes x z ≡ true) same p.3))
      | inr i ↦
          let l : v.name.tag < r.tag = op_older t t' r new v k s i p.1 in
          w.others v.name.tag x (λ e. omega (arith, l, e, own.1)) ∙ h.all v x (i, p.1, p.2, p.3)
    ]

part_performed : (t t' : Trace) (o n : Op) (rest : Option Op) (waiting later : ℕ → ℕ → Option ℕ) → WellKinded t
    → PerformsPart t t' o n rest → NoLongerWaits waiting later n → AreWaiting t n.name.hart waiting
    → AreWaiting t' n.name.hart later
part_performed t t' o n rest waiting later k s w h = record { each = each; all = all }
  where
    -- each byte of the store that isn't performed is left
    left_on : (v : Op) (x : ℕ) → IsWaiting t n.name.hart x v → writes x n ≡ false ⊎ (v.name.tag ≢ n.name.tag)
        → (u : Op) × IsWaiting t' n.name.hart x u × (u.name.tag ≡ v.name.tag) × (put_at u x ≡ put_at v x)
    left_on v x p apart = elim (s.ops_on v p.0) [
      | inr j ↦ (v, (j, p.1, p.2, p.3), refl, refl)
      | inl same ↦
          let q : writes x o ≡ true = subst (λ (z : Op). writes x z ≡ true) same p.3 in
          let c = and_parts (op_stores o) (has_byte x o) q in
          elim (s.all x c.1) [
            | inl b ↦ absurd (elim apart [
              | inl f ↦ both_ways _ f (and_from (op_stores n) (has_byte x n) (ap kind_stores s.part.kind ∙ c.0) b)
              | inr d ↦ d (ap (λ (z : Op). z.name.tag) same ∙ sym s.part.same.1)
            ])
            | inr m ↦
                let l = s.left m.0 m.1 in (
                  m.0,
                  (
                    l.0,
                    l.2.same.0 ∙ sym s.part.same.0,
                    l.1,
                    and_from (op_stores m.0) (has_byte x m.0) (ap kind_stores l.2.kind ∙ c.0) m.2,
                  ),
                  l.2.same.1 ∙ ap (λ (z : Op). z.name.tag) (sym same),
                  (l.2.bytes x m.2).1 ∙ ap (λ (z : Op). put_at z x) (sym same),
                )
          ]
    ]

    still : (tag x value : ℕ) → writes x n ≡ false ⊎ (tag ≢ n.name.tag) → waiting tag x ≡ Some value
        → (v : Op) × IsWaiting t' n.name.hart x v × (v.name.tag ≡ tag) × (put_at v x ≡ value)
    still tag x value apart e =
        let v = h.each tag x value e in
        let u = left_on v.0 x v.1 (elim apart [ inl f ↦ inl f | inr d ↦ inr (λ q. d (sym v.2 ∙ q)) ]) in
        (u.0, u.1, u.2 ∙ v.2, u.3 ∙ v.3)

    each_at : (tag x value : ℕ) → (tag ≡ n.name.tag) ⊎ (tag ≢ n.name.tag) → later tag x ≡ Some value
        → (v : Op) × IsWaiting t' n.name.hart x v × (v.name.tag ≡ tag) × (put_at v x ≡ value)
    each_at tag x value (inr d) e = still tag x value (inr d) (sym (w.others tag x d) ∙ e)
    each_at tag x value (inl d) e =
        let f : later n.name.tag x ≡ Some value = subst (λ (k : ℕ). later k x ≡ Some value) d e in
        elim (cases_Bool (writes x n)) [
          | inl q ↦ absurd (let never : None ≡ Some value = sym (w.here x q) ∙ f in cc)
          | inr q ↦ still tag x value (inl q)
              (subst (λ (k : ℕ). waiting k x ≡ Some value) (sym d) (sym (w.elsewhere x q) ∙ f))
        ]

    each : (tag x value : ℕ) → later tag x ≡ Some value
        → (v : Op) × IsWaiting t' n.name.hart x v × (v.name.tag ≡ tag) × (put_at v x ≡ value)
    each tag x value e = each_at tag x value (cases_eq tag n.name.tag) e

    -- where bytes of n don't wait, later is as before
    later_same : (tag x : ℕ) → writes x n ≡ false ⊎ (tag ≢ n.name.tag) → later tag x ≡ waiting tag x
    later_same tag x (inr d) = w.others tag x d
    later_same tag x (inl q) = elim (cases_eq tag n.name.tag) [
      | inl d ↦ subst (λ (k : ℕ). later k x ≡ waiting k x) (sym d) (w.elsewhere x q)
      | inr d ↦ w.others tag x d
    ]

    mine : n.name.hart ≡ o.name.hart
    mine = s.part.same.0

    bytes_of : (x : ℕ) (v : Op) → writes x v ≡ true → has_byte x v ≡ true
    bytes_of x v q = (and_parts (op_stores v) (has_byte x v) q).1

    -- a store that was there and stays has no byte of n under its tag
    stayed : (v : Op) (x : ℕ) → IsWaiting t' n.name.hart x v → Contains t.ops v
        → writes x n ≡ false ⊎ (v.name.tag ≢ n.name.tag)
    stayed v x p i = elim (cases_Bool (writes x n)) [
      | inr q ↦ inl q
      | inl q ↦ inr (λ e. (
          let same : v ≡ o = k.disjoint v o x i s.was (p.1 ∙ mine, e ∙ s.part.same.1) (bytes_of x v p.3)
          (s.part.bytes x (bytes_of x n q)).0 in
          s.gone (subst (λ (z : Op). Contains t'.ops z) same p.0)))
    ]

    -- what is left of o has none
    apart : (v : Op) (x : ℕ) → rest ≡ Some v → writes x v ≡ true → writes x n ≡ false
    apart v x e q = elim (cases_Bool (writes x n)) [
      | inr f ↦ f
      | inl f ↦ absurd (s.disjoint v x e (bytes_of x n f) (bytes_of x v q))
    ]

    left_told : (v : Op) (x : ℕ) → rest ≡ Some v → writes x v ≡ true → waiting v.name.tag x ≡ Some (put_at v x)
    left_told v x e q =
        let l = (s.left v e).2 in
        let b = l.bytes x (bytes_of x v q) in
        let c = and_parts (op_stores v) (has_byte x v) q in
        let wrote : writes x o ≡ true =
        and_from (op_stores o) (has_byte x o) (sym (ap kind_stores l.kind) ∙ c.0) b.0 in
        let told : waiting o.name.tag x ≡ Some (put_at o x) = h.all o x (s.was, sym mine, s.unperformed, wrote) in
        ap (λ (tag : ℕ). waiting tag x) l.same.1 ∙ told ∙ ap (λ (d : ℕ). Some d) (sym b.1)

    all : (v : Op) (x : ℕ) → IsWaiting t' n.name.hart x v → later v.name.tag x ≡ Some (put_at v x)
    all v x p = elim (s.ops_back v p.0) [
      | inl same ↦ absurd (not_both n s.placed (ap (λ (z : Op). z.place) (sym same) ∙ p.2))
      | inr q ↦ elim q [
        | inl e ↦ later_same v.name.tag x (inl (apart v x e p.3)) ∙ left_told v x e p.3
        | inr i ↦ later_same v.name.tag x (stayed v x p i) ∙ h.all v x (i, p.1, p.2, p.3)
      ]
    ]

pub waiting_changes : WaitingChanges
waiting_changes = record { retired = store_retired; performed = part_performed }

-- ---- what is told

pub waiting_is_told : WaitingIsTold
waiting_is_told = record { some = some_told; none = none_told }
  where
    some_told : (t : Trace) (h below x tag value : ℕ) (waiting : ℕ → ℕ → Option ℕ) → AreWaiting t h waiting
        → IsLatestWaiting waiting below x tag value
        → (v : Op) × IsLatest (IsWaitingBelow t h below x) v × (v.name.tag ≡ tag) × (put_at v x ≡ value)
    some_told t h below x tag value waiting a l =
        let v = a.each tag x value l.here in (
          v.0,
          record {
            here = (v.1, (let m = l.inside in omega (arith, v.2)));
            latest = λ u p. elim (cases_Bool (precedes v.0 u)) [
              | inr q ↦ q
              | inl q ↦ absurd (
                  let m : v.0.name.tag < u.name.tag =
                  unplaced_order v.0 u v.1.2 p.0.2 (v.1.1 ∙ sym p.0.1) q in
                  let never : None ≡ Some (put_at u x) =
                  sym (l.latest u.name.tag (omega (arith, m, v.2)) p.1) ∙ a.all u x p.0 in
                  cc)
            ];
          },
          v.2,
          v.3,
        )

    none_told : (t : Trace) (h below x : ℕ) (waiting : ℕ → ℕ → Option ℕ) → AreWaiting t h waiting
        → ((tag : ℕ) → tag < below → waiting tag x ≡ None) → (v : Op) → IsWaitingBelow t h below x v → ⊥
    none_told t h below x waiting a none v p =
        let never : None ≡ Some (put_at v x) = sym (none v.name.tag p.1) ∙ a.all v x p.0 in cc
