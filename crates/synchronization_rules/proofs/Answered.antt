-- What the marks answer, rule by rule.
use Rattle.std.proofs.Common.{ℕ, ◌<◌, ◌≤◌, ◌≡◌, ◌⊎◌, inl, inr, Bool, true, false, nat_lt, cond, Option, Some, None}
use Rattle.std.proofs.Common.{refl, sym, ap, subst, ◌∙◌, arith}
use Rattle.std.specs.Option.{option_map}
use Rattle.std.specs.List.{Contains}
use Rattle.std.proofs.lemmas.Bool.{false≢true, both_ways}
use Rattle.std.proofs.lemmas.Bool.Decides.{nat_tests}
use Rattle.std.proofs.lemmas.List.Elements.{Contains-append_left}
use Rattle.tandem_base.specs.declared.mark.Mark.{Mark}
use Rattle.tandem_base.specs.declared.names.OpName.{OpName}
use Rattle.tandem_base.specs.declared.names.Place.{Place}
use Rattle.tandem_base.specs.declared.names.Position.{Position}
use Rattle.tandem_base.specs.FirstFault.{◌or_else◌}
use Rattle.rv_decode.specs.declared.instruction.Insn.{Insn}
use Rattle.rv_decode.specs.declared.instruction.Insn.TheVariants.{Lr}
use Rattle.rv_decode.specs.Kinds.{is_lr, is_sc}
use Rattle.rvwmo_model.specs.declared.instructions.Retired.{Retired}
use Rattle.rvwmo_model.specs.declared.operations.Op.{Op}
use Rattle.rvwmo_model.specs.declared.operations.OpKind.{OpKind}
use Rattle.rvwmo_model.specs.declared.operations.OpKind.TheVariants as kind
use Rattle.rvwmo_model.specs.declared.preserved.Rule.TheVariants.{R4, R5, R6, R7, R8}
use Rattle.rvwmo_model.specs.declared.traces.Trace.{Trace}
use Rattle.rvwmo_model.specs.Annotations.{is_annotated, has_rcsc}
use Rattle.rvwmo_model.specs.Order.{Standing, stands_before, kind_loads, kind_stores, op_loads, op_stores, standing}
use Rattle.rvwmo_model.specs.Order.{everything}
use Rattle.rvwmo_model.specs.ProgramOrder.{insn_of, is_one}
use Rattle.rvwmo_model.specs.Rules.{Broken, Reserves}
use Rattle.rvwmo_model.specs.Sources.{later}
use Rattle.rvwmo_model.proofs.Tested.{one_some}
use Rattle.growth_laws.specs.Kinds.{WellKinded, kind_of_insn}
use Rattle.growth_laws.proofs.Facts.{load_placed}
use Rattle.growth_laws.proofs.Insns.{insn_is, more_new}
use Rattle.window_laws.specs.Latest.{IsLatestIfAny, first_there}
use Rattle.window_laws.specs.Tables.{untimed}
use Rattle.window_laws.proofs.Latests.{latest_same}
use Rattle.rule_laws.specs.Above.{Over, if_over, later_of}
use Rattle.rule_laws.specs.AnswerLaws.{WaitsFenced}
use Rattle.rule_laws.specs.Fences.{Class, loading, storing, kind_in, FenceAfter, IsUnderTag, fenced_by}
use Rattle.rule_laws.specs.MarkedOps.{IsMarked, IsFenced}
use Rattle.rule_laws.specs.Named.{NamesFirst}
use Rattle.rule_laws.specs.OpenLrs.{IsOpen}
use Rattle.rule_laws.specs.Own.{IsOwn, IsOwnPerformed, IsOwnWaiting}
use Rattle.rule_laws.proofs.Answered.{running_answers}
use Rattle.rule_laws.proofs.Candidates.{own_older}
use Rattle.rule_laws.proofs.FenceTags.{fence_by_tag}
use Rattle.rule_laws.proofs.FirstTold.{first_is_performed}
use Rattle.rule_laws.proofs.LatestOver.{mark_over, mark_either, over_later}
use Rattle.store_buffer.specs.Stores.{StoreList}
use Rattle.store_buffer.specs.Waiting.{waiting_below}
use Rattle.synchronization_rules.specs.declared.operation.MarkedOp.{MarkedOp}
use Rattle.synchronization_rules.specs.Marks.{HartTable, is_rcsc_op, later_of_marks, named_past, later_tag, fence_for}
use Rattle.synchronization_rules.specs.Marks.{fenced_for, fence_order_of, waiting_under}
use Rattle.synchronization_rules.specs.Asked.{mark_told, op_told, IsOfLatest, AreMarksOf, AreStoresWaiting}
use Rattle.synchronization_rules.specs.Asked.{IsSynchronized}
use Rattle.synchronization_rules.proofs.Told.{made, told_is, IsPlacedIn, IsPlacedIfAny, names_past, later_of_told}
use Rattle.synchronization_rules.proofs.Waits.{WaitsUnder, waiting_found}

abbrev name_if_any : Option Op → Option OpName
name_if_any m = option_map (λ (v : Op). v.name) m

some_kind : (k : OpKind) → (kind_loads k ≡ true) ⊎ (kind_stores k ≡ true)
some_kind kind.Load = inl refl
some_kind kind.Store = inr refl
some_kind kind.Both = inl refl

-- the operation of an LR loads
lr_insn : (i : Insn) (stored : Bool) (k : OpKind) → is_lr i ≡ true → kind_of_insn i stored ≡ Some k
    → kind_loads k ≡ true
lr_insn (Lr wide aq rl rd rs1) stored k a e = let c : kind.Load ≡ k = cc in ap kind_loads (sym c)
lr_insn _ stored k a e = absurd (false≢true a)

lr_kind : (t : Trace) (v : Op) → WellKinded t → Contains t.ops v → is_one is_lr (insn_of t v) ≡ true
    → op_loads v ≡ true
lr_kind t v k h e =
    let w = one_some is_lr (insn_of t v) e in lr_insn w.0.insn w.0.stored v.kind w.2 (k.kinds v w.0 h w.1)

-- ---- the tags of FENCEs

under_later : (tag : ℕ) (m n : Option ℕ) → IsUnderTag tag (later_tag m n) → IsUnderTag tag m ⊎ IsUnderTag tag n
under_later tag None n u = inr u
under_later tag (Some m) None u = inl u
under_later tag (Some m) (Some n) u = at (nat_lt m n) u
  where
    at : (c : Bool) → IsUnderTag tag (cond c (Some n) (Some m)) → (tag < m) ⊎ (tag < n)
    at true l = inr l
    at false l = inl l

later_under : (tag : ℕ) (m n : Option ℕ) → IsUnderTag tag m ⊎ IsUnderTag tag n → IsUnderTag tag (later_tag m n)
later_under tag None n (inl u) = absurd u
later_under tag None n (inr u) = u
later_under tag (Some m) None (inl u) = u
later_under tag (Some m) None (inr u) = absurd u
later_under tag (Some m) (Some n) e = at (nat_lt m n) refl e
  where
    at : (c : Bool) → nat_lt m n ≡ c → (tag < m) ⊎ (tag < n) → IsUnderTag tag (cond c (Some n) (Some m))
    at true q (inl l) = let g : m < n = grind (arith, nat_tests) in omega (arith, l, g)
    at true q (inr l) = l
    at false q (inl l) = l
    at false q (inr l) = let g : n ≤ m = grind (arith, nat_tests) in omega (arith, l, g)

under_cond : (tag : ℕ) (c : Bool) (m : Option ℕ) → IsUnderTag tag (cond c m None) → (c ≡ true) × IsUnderTag tag m
under_cond tag true m u = (refl, u)
under_cond tag false m u = absurd u

cond_under : (tag : ℕ) (c : Bool) (m : Option ℕ) → c ≡ true → IsUnderTag tag m → IsUnderTag tag (cond c m None)
cond_under tag true m e u = u
cond_under tag false m e u = absurd (false≢true e)

-- below the tag for a kind are the stores that a FENCE orders before a class of it
fence_to : (kind : OpKind) (m : HartTable) (tag : ℕ) → IsUnderTag tag (fence_for kind m)
    → (d : Class) × (kind_in d kind ≡ true) × IsUnderTag tag (fence_order_of storing d m).fence
fence_to kind m tag u =
    elim (under_later tag (cond (kind_loads kind) m.store_load.fence None)
    (cond (kind_stores kind) m.store_store.fence None) u) [
      | inl e ↦ let u = under_cond tag (kind_loads kind) m.store_load.fence e in (loading, u.0, u.1)
      | inr e ↦ let u = under_cond tag (kind_stores kind) m.store_store.fence e in (storing, u.0, u.1)
    ]

fence_from : (kind : OpKind) (m : HartTable) (tag : ℕ) (d : Class) → kind_in d kind ≡ true
    → IsUnderTag tag (fence_order_of storing d m).fence → IsUnderTag tag (fence_for kind m)
fence_from kind m tag loading e u =
    later_under tag (cond (kind_loads kind) m.store_load.fence None) (cond (kind_stores kind) m.store_store.fence None)
    (inl (cond_under tag (kind_loads kind) m.store_load.fence e u))
fence_from kind m tag storing e u =
    later_under tag (cond (kind_loads kind) m.store_load.fence None) (cond (kind_stores kind) m.store_store.fence None)
    (inr (cond_under tag (kind_stores kind) m.store_store.fence e u))

-- ---- the later of two marks, after a standing

over_later_of : (q : Standing) (m n : Option Op) → if_over q (later_of m n) ≡ later_of (if_over q m) (if_over q n)
over_later_of q m None = refl
over_later_of q m (Some n) = over_later q m n ∙ at (stands_before q (standing n))
  where
    at : (c : Bool) → cond c (later (if_over q m) n) (if_over q m) ≡ later_of (if_over q m) (cond c (Some n) None)
    at true = refl
    at false = refl

over_cond : (q : Standing) (c : Bool) (m : Option Op) → if_over q (cond c m None) ≡ cond c (if_over q m) None
over_cond q true m = refl
over_cond q false m = refl

cond_told : (c : Bool) (m : Option Op) → mark_told (cond c m None) ≡ cond c (mark_told m) None
cond_told true m = refl
cond_told false m = refl

cond_placed : (t : Trace) (c : Bool) (m : Option Op) → IsPlacedIfAny t m → IsPlacedIfAny t (cond c m None)
cond_placed t true m h = h
cond_placed t false m h = λ v e. absurd (cc)

later_of_placed : (t : Trace) (m n : Option Op) → IsPlacedIfAny t m → IsPlacedIfAny t n
    → IsPlacedIfAny t (later_of m n)
later_of_placed t m None hm hn = hm
later_of_placed t None (Some n) hm hn = hn
later_of_placed t (Some m) (Some n) hm hn = at (stands_before (standing m) (standing n))
  where
    at : (c : Bool) → IsPlacedIfAny t (cond c (Some n) (Some m))
    at true = hn
    at false = hm

-- the marks of FENCEs that count for a kind, each after a standing
fenced_over : (q : Standing) (marks : Class → Class → Option Op) (kind : OpKind)
    → fenced_by (λ c d. if_over q (marks c d)) kind ≡ if_over q (fenced_by marks kind)
fenced_over q marks kind =
    sym (over_later_of q (cond (kind_loads kind) (later_of (marks loading loading) (marks storing loading)) None)
    (cond (kind_stores kind) (later_of (marks loading storing) (marks storing storing)) None)
    ∙ ap (λ (z : Option Op). later_of z
    (if_over q (cond (kind_stores kind) (later_of (marks loading storing) (marks storing storing)) None)))
    (one (kind_loads kind) (marks loading loading) (marks storing loading))
    ∙ ap (λ (z : Option Op). later_of
    (cond (kind_loads kind) (later_of (if_over q (marks loading loading)) (if_over q (marks storing loading))) None) z)
    (one (kind_stores kind) (marks loading storing) (marks storing storing)))
  where
    one : (c : Bool) (m n : Option Op)
        → if_over q (cond c (later_of m n) None) ≡ cond c (later_of (if_over q m) (if_over q n)) None
    one c m n = over_cond q c (later_of m n) ∙ ap (λ (z : Option Op). cond c z None) (over_later_of q m n)

-- ---- the answers

module _ (t t' : Trace) (r : Retired) (b : Op) (m : HartTable) (op : MarkedOp) (a : IsSynchronized t t' r b m op) where
  abbrev H : ℕ
  H = b.name.hart

  own : (b.name.hart ≡ r.hart) × (b.name.tag ≡ r.tag)
  own = a.retires.retires.are_of.own b a.retires.here

  marks : AreMarksOf t H m
  marks = subst (λ (h : ℕ). AreMarksOf t h m) (sym own.0) a.marks

  is : (p : Place) × (b.place ≡ Some p) × (made b p ≡ op)
  is = told_is b op a.told

  here : Contains (everything t') b
  here = Contains-append_left t'.ops t'.early b (a.retires.retires.added b a.retires.here)

  placed : (v : Op) → IsOwnPerformed t H v → IsPlacedIn t' v
  placed v p = (Contains-append_left t'.ops t'.early v (a.retires.retires.ops_on v p.0.0), p.1)

  placed_if_any : (P : Op → Type 0) (f : Option Op) → ((v : Op) → P v → IsOwnPerformed t H v) → IsLatestIfAny P f
      → IsPlacedIfAny t' f
  placed_if_any P None on l v e = absurd (cc)
  placed_if_any P (Some u) on l v e =
      let c : u ≡ v = cc in subst (λ (z : Op). IsPlacedIn t' z) c (placed u (on u l.here))

  named : (f : Option Op) → IsPlacedIfAny t' f
      → named_past op.place (mark_told f) ≡ name_if_any (if_over (standing b) f)
  named f h =
      ap (λ (o : MarkedOp). named_past o.place (mark_told f)) (sym is.2)
      ∙ names_past t' a.positioned b is.0 f here is.1 h

  -- the latest of those after b, with the name of its mark
  abbrev IsNamedOver : (Op → Type 0) → Option Mark → Type 0
  IsNamedOver P mark = (f : Option Op) × IsLatestIfAny (Over P (standing b)) f
      × (named_past op.place mark ≡ name_if_any f)

  named_over : (P : Op → Type 0) (mark : Option Mark) → ((v : Op) → P v → IsOwnPerformed t H v) → IsOfLatest P mark
      → IsNamedOver P mark
  named_over P mark on l = (
    if_over (standing b) l.op,
    mark_over P l.op (standing b) l.latest,
    ap (named_past op.place) l.told ∙ named l.op (placed_if_any P l.op on l.latest),
  )

  pub by_acquire : NamesFirst R5 t' b (named_past op.place m.acquires)
  by_acquire =
      let f = named_over (IsMarked t H (λ v. is_annotated v.acquire)) m.acquires (λ v p. p.0) marks.acquires in
      (f.0, running_answers.rule5 t t' r b f.0 a.kinded a.retires f.1, f.2)

  pub by_rcsc : NamesFirst R7 t' b (cond (is_rcsc_op op) (named_past op.place m.rcsc) None)
  by_rcsc =
      let f = named_over (IsMarked t H has_rcsc) m.rcsc (λ v p. p.0) marks.rcsc in (
        cond (has_rcsc b) f.0 None,
        running_answers.rule7 t t' r b f.0 a.kinded a.retires f.1,
        ap (λ (o : MarkedOp). cond (is_rcsc_op o) (named_past op.place m.rcsc) None) (sym is.2)
            ∙ ap (λ (n : Option OpName). cond (has_rcsc b) n None) f.2 ∙ both (has_rcsc b) f.0,
      )
    where
      both : (c : Bool) (f : Option Op) → cond c (name_if_any f) None ≡ name_if_any (cond c f None)
      both true f = refl
      both false f = refl

  -- ---- rule 8

  sc_of : is_one is_sc (insn_of t' b) ≡ is_sc r.insn
  sc_of = ap (is_one is_sc) (insn_is t' r b (more_new t t' r a.retires.retires.keeps) own)

  open_placed : (v : Op) → IsOpen t H v → IsOwnPerformed t H v
  open_placed v p = (p.0, load_placed t v a.kinded p.0.0 (lr_loads v p))
    where
      lr_loads : (v : Op) → IsOpen t H v → op_loads v ≡ true
      lr_loads v p = lr_kind t v a.kinded p.0.0 p.1.0

  pub by_pair : NamesFirst R8 t' b (cond (is_sc r.insn) (named_past op.place m.open_lr) None)
  by_pair = at (is_sc r.insn) refl
    where
      at : (c : Bool) → is_sc r.insn ≡ c → NamesFirst R8 t' b (cond c (named_past op.place m.open_lr) None)
      at true e =
          let f = named_over (IsOpen t H) m.open_lr open_placed marks.open_lr in (
            f.0,
            first_is_performed R8 t t' r b f.0 a.kinded a.retires
                (λ d. elim d [ inl x ↦ cc | inr y ↦ elim y [ inl x ↦ cc | inr x ↦ cc ] ])
                (latest_same (Over (IsOpen t H) (standing b))
                (Over (λ v. IsOwnPerformed t H v × ((is_one is_sc (insn_of t' b) ≡ true)
                × ((is_one is_lr (insn_of t v) ≡ true) × ((k : ℕ) → v.name.tag < k → Reserves t H k → ⊥))))
                (standing b)) f.0
                (λ v p. ((open_placed v p.0, (sc_of ∙ e, p.0.1)), p.1))
                (λ v p. ((p.0.0.0, p.0.1.1), p.1)) f.1),
            f.2,
          )
      at false e = (
        None,
        first_is_performed R8 t t' r b None a.kinded a.retires
            (λ d. elim d [ inl x ↦ cc | inr y ↦ elim y [ inl x ↦ cc | inr x ↦ cc ] ])
            (λ v p. both_ways _ (sc_of ∙ e) p.0.1.0),
        refl,
      )

  -- ---- rules 4 and 6

  module _ (stores : StoreList) (w : AreStoresWaiting t r.hart stores) where
    stores_wait : AreStoresWaiting t H stores
    stores_wait = subst (λ (h : ℕ). AreStoresWaiting t h stores) (sym own.0) w

    -- the first there is, by name
    first_named : (u f : Option Op) → name_if_any (first_there u f) ≡ (name_if_any u) or_else (name_if_any f)
    first_named None f = refl
    first_named (Some u) f = refl

    pub by_release : NamesFirst R6 t' b (cond (is_annotated op.release)
        (waiting_below stores.hart stores.stores op.name.tag None
        or_else named_past op.place (later_of_marks m.loads m.stores)) None)
    by_release = (
      cond (is_annotated b.release) (first_there u.0 g) None,
      running_answers.rule6 t t' r b u.0 g a.kinded a.retires waits latest,
      ap (λ (o : MarkedOp). cond (is_annotated o.release) (waiting_below stores.hart stores.stores o.name.tag None
          or_else named_past op.place (later_of_marks m.loads m.stores)) None) (sym is.2)
          ∙ ap (λ (n : Option OpName). cond (is_annotated b.release)
          (n or_else named_past op.place (later_of_marks m.loads m.stores)) None) u.2
          ∙ ap (λ (n : Option OpName). cond (is_annotated b.release) (name_if_any u.0 or_else n) None) name
          ∙ both (is_annotated b.release) u.0 g,
    )
      where
        u : (first : Option Op) × IsLatestIfAny (WaitsUnder t H stores a.kinded stores_wait b.name.tag) first
            × (waiting_below stores.hart stores.stores b.name.tag None ≡ option_map (λ (v : Op). v.name) first)
        u = waiting_found t H stores a.kinded stores_wait b.name.tag

        -- what waits is of an instruction before
        waits : IsLatestIfAny (IsOwnWaiting t H) u.0
        waits = latest_same (WaitsUnder t H stores a.kinded stores_wait b.name.tag) (IsOwnWaiting t H) u.0
            (λ v p. p.0)
            (λ v p. (p, own_older t t' r a.retires.new a.kinded a.retires.retires v b p.0.0 a.retires.here p.0.1)) u.1

        all : Option Op
        all = later_of marks.loads.op marks.stores.op

        g : Option Op
        g = if_over (standing b) all

        latest_all : IsLatestIfAny (IsOwnPerformed t H) all
        latest_all = latest_same (λ v. IsMarked t H op_loads v ⊎ IsMarked t H op_stores v) (IsOwnPerformed t H) all
            (λ v p. elim p [ inl q ↦ q.0 | inr q ↦ q.0 ])
            (λ v p. elim (some_kind v.kind) [ inl e ↦ inl (p, e) | inr e ↦ inr (p, e) ])
            (mark_either (IsMarked t H op_loads) (IsMarked t H op_stores) marks.loads.op marks.stores.op
            marks.loads.latest marks.stores.latest)

        latest : IsLatestIfAny (Over (IsOwnPerformed t H) (standing b)) g
        latest = mark_over (IsOwnPerformed t H) all (standing b) latest_all

        name : named_past op.place (later_of_marks m.loads m.stores) ≡ name_if_any g
        name =
            ap (λ (z : Option Mark). named_past op.place (later_of_marks z m.stores)) marks.loads.told
            ∙ ap (λ (z : Option Mark). named_past op.place (later_of_marks (mark_told marks.loads.op) z))
            marks.stores.told
            ∙ ap (named_past op.place) (sym (later_of_told t' a.positioned marks.loads.op marks.stores.op
            (placed_if_any (IsMarked t H op_loads) marks.loads.op (λ v p. p.0) marks.loads.latest)
            (placed_if_any (IsMarked t H op_stores) marks.stores.op (λ v p. p.0) marks.stores.latest)))
            ∙ named all (placed_if_any (IsOwnPerformed t H) all (λ v p. p) latest_all)

        both : (c : Bool) (x y : Option Op)
            → cond c (name_if_any x or_else name_if_any y) None ≡ name_if_any (cond c (first_there x y) None)
        both true x y = sym (first_named x y)
        both false x y = refl

    to_fenced : (v : Op) → IsOwnWaiting t H v → IsUnderTag v.name.tag (fence_for b.kind m) → WaitsFenced t b v
    to_fenced v o u =
        let d = fence_to b.kind m v.name.tag u in (
          o,
          (
            d.0,
            d.1,
            (fence_by_tag t H storing d.0 (fence_order_of storing d.0 m).fence v.name.tag
                (marks.fences storing d.0)).1 d.2,
          ),
        )

    from_fenced : (v : Op) → WaitsFenced t b v → IsUnderTag v.name.tag (fence_for b.kind m)
    from_fenced v p =
        fence_from b.kind m v.name.tag p.1.0 p.1.1 ((fence_by_tag t H storing p.1.0 (fence_order_of storing p.1.0
        m).fence
        v.name.tag (marks.fences storing p.1.0)).0 p.1.2)

    waiting_fenced : (o : Option ℕ) → fence_for b.kind m ≡ o
        → (u : Option Op) × IsLatestIfAny (WaitsFenced t b) u × (waiting_under stores o ≡ name_if_any u)
    waiting_fenced None e =
        (None, (λ v p. subst (IsUnderTag v.name.tag) e (from_fenced v p)), refl)
    waiting_fenced (Some f) e =
        let u = waiting_found t H stores a.kinded stores_wait f in (
          u.0,
          latest_same (WaitsUnder t H stores a.kinded stores_wait f) (WaitsFenced t b) u.0
              (λ v p. to_fenced v p.0 (subst (IsUnderTag v.name.tag) (sym e) p.1))
              (λ v p. (p.0, subst (IsUnderTag v.name.tag) e (from_fenced v p))) u.1,
          u.2,
        )

    abbrev fenced_op : Class → Class → Option Op
    fenced_op c d = (marks.fenced c d).op

    fenced_placed : (c d : Class) → IsPlacedIfAny t' (fenced_op c d)
    fenced_placed c d = placed_if_any (IsFenced t H c d) (fenced_op c d) (λ v p. p.0) (marks.fenced c d).latest

    -- the marks of the class d
    class_placed : (d : Class) → IsPlacedIfAny t' (later_of (fenced_op loading d) (fenced_op storing d))
    class_placed d =
        later_of_placed t' (fenced_op loading d) (fenced_op storing d) (fenced_placed loading d)
        (fenced_placed storing d)

    class_told : (d : Class) (c : Bool)
        → cond c (later_of_marks (fence_order_of loading d m).latest (fence_order_of storing d m).latest) None
        ≡ mark_told (cond c (later_of (fenced_op loading d) (fenced_op storing d)) None)
    class_told d c =
        ap (λ (z : Option Mark). cond c (later_of_marks z (fence_order_of storing d m).latest) None)
        (marks.fenced loading d).told
        ∙ ap (λ (z : Option Mark). cond c (later_of_marks (mark_told (fenced_op loading d)) z) None)
        (marks.fenced storing d).told
        ∙ ap (λ (z : Option Mark). cond c z None)
        (sym (later_of_told t' a.positioned (fenced_op loading d) (fenced_op storing d) (fenced_placed loading d)
        (fenced_placed storing d)))
        ∙ sym (cond_told c (later_of (fenced_op loading d) (fenced_op storing d)))

    fenced_told : fenced_for b.kind m ≡ mark_told (fenced_by fenced_op b.kind)
    fenced_told =
        ap (λ (z : Option Mark). later_of_marks z
        (cond (kind_stores b.kind) (later_of_marks m.load_store.latest m.store_store.latest) None))
        (class_told loading (kind_loads b.kind))
        ∙ ap (λ (z : Option Mark). later_of_marks
        (mark_told (cond (kind_loads b.kind) (later_of (fenced_op loading loading) (fenced_op storing loading))
        None)) z)
        (class_told storing (kind_stores b.kind))
        ∙ sym (later_of_told t' a.positioned
        (cond (kind_loads b.kind) (later_of (fenced_op loading loading) (fenced_op storing loading)) None)
        (cond (kind_stores b.kind) (later_of (fenced_op loading storing) (fenced_op storing storing)) None)
        (cond_placed t' (kind_loads b.kind) (later_of (fenced_op loading loading) (fenced_op storing loading))
        (class_placed loading))
        (cond_placed t' (kind_stores b.kind) (later_of (fenced_op loading storing) (fenced_op storing storing))
        (class_placed storing)))

    fenced_by_placed : IsPlacedIfAny t' (fenced_by fenced_op b.kind)
    fenced_by_placed =
        later_of_placed t'
        (cond (kind_loads b.kind) (later_of (fenced_op loading loading) (fenced_op storing loading)) None)
        (cond (kind_stores b.kind) (later_of (fenced_op loading storing) (fenced_op storing storing)) None)
        (cond_placed t' (kind_loads b.kind) (later_of (fenced_op loading loading) (fenced_op storing loading))
        (class_placed loading))
        (cond_placed t' (kind_stores b.kind) (later_of (fenced_op loading storing) (fenced_op storing storing))
        (class_placed storing))

    pub by_fence : NamesFirst R4 t' b
        (waiting_under stores (fence_for op.kind m) or_else named_past op.place (fenced_for op.kind m))
    by_fence =
        subst (λ (o : MarkedOp). NamesFirst R4 t' b
        (waiting_under stores (fence_for o.kind m) or_else named_past op.place (fenced_for o.kind m))) is.2 (
          first_there u.0 g,
          running_answers.rule4 t t' r b u.0 (λ c d. if_over (standing b) (fenced_op c d)) a.kinded a.retires u.1
              (λ c d. mark_over (IsFenced t H c d) (fenced_op c d) (standing b) (marks.fenced c d).latest),
          ap (λ (n : Option OpName). n or_else named_past op.place (fenced_for b.kind m)) u.2
              ∙ ap (λ (n : Option OpName). name_if_any u.0 or_else n) name ∙ sym (first_named u.0 g),
        )
      where
        u : (u : Option Op) × IsLatestIfAny (WaitsFenced t b) u
            × (waiting_under stores (fence_for b.kind m) ≡ name_if_any u)
        u = waiting_fenced (fence_for b.kind m) refl

        g : Option Op
        g = fenced_by (λ c d. if_over (standing b) (fenced_op c d)) b.kind

        name : named_past op.place (fenced_for b.kind m) ≡ name_if_any g
        name =
            ap (named_past op.place) fenced_told ∙ named (fenced_by fenced_op b.kind) fenced_by_placed
            ∙ ap name_if_any (sym (fenced_over (standing b) fenced_op b.kind))
