-- How a growth changes what the marks of a hart stand for.
use Rattle.std.proofs.Common.{ℕ, ◌<◌, ◌≡◌, ◌⊎◌, ◌&&◌, ◌||◌, inl, inr, Bool, true, false, List, [], ◌∷◌, nat_lt, cond}
use Rattle.std.proofs.Common.{Option, Some, None, refl, sym, ap, subst, ◌∙◌, arith}
use Rattle.std.specs.Prelude.{◌≢◌}
use Rattle.std.specs.List.{Contains, filter}
use Rattle.std.specs.Option.{option_map}
use Rattle.std.proofs.lemmas.Bool.{both_ways, and_from, false≢true}
use Rattle.std.proofs.lemmas.Bool.Decides.{nat_tests}
use Rattle.std.proofs.lemmas.List.Elements.{Contains-append_left}
use Rattle.tandem_base.specs.declared.mark.Mark.{Mark}
use Rattle.tandem_base.specs.declared.names.Place.{Place}
use Rattle.rv_decode.specs.declared.instruction.Insn.{Insn}
use Rattle.rv_decode.specs.declared.instruction.Insn.TheVariants.{Lr}
use Rattle.rv_decode.specs.Kinds.{is_lr, is_sc, is_amo_or_sc}
use Rattle.rvwmo_model.specs.declared.operations.OpKind.TheVariants as kind
use Rattle.rvwmo_model.specs.declared.instructions.Retired.{Retired}
use Rattle.rvwmo_model.specs.declared.operations.Op.{Op}
use Rattle.rvwmo_model.specs.declared.traces.Trace.{Trace}
use Rattle.rvwmo_model.specs.Annotations.{is_annotated, has_rcsc}
use Rattle.rvwmo_model.specs.InForm.{IsPlaced}
use Rattle.rvwmo_model.specs.Order.{kind_loads, kind_stores, op_loads, op_stores, everything}
use Rattle.rvwmo_model.specs.Sources.{later, latest_from}
use Rattle.growth_laws.specs.Kinds.{WellKinded}
use Rattle.growth_laws.specs.Growth.{Same, AddEarly, AddInsn, Adds, adds_loads, adds_store, adds_atomic, adds_nothing}
use Rattle.growth_laws.specs.Growth.{PerformsPart}
use Rattle.growth_laws.specs.Laws.{nothing_yet}
use Rattle.growth_laws.specs.Kinds.{kind_of_insn}
use Rattle.growth_laws.proofs.Operations.{part_ops}
use Rattle.growth_laws.proofs.PlainStores.{store_lr}
use Rattle.rvwmo_model.proofs.Membership.{head_in}
use Rattle.window_laws.specs.Latest.{IsLatestIfAny}
use Rattle.window_laws.specs.Tables.{ArePositioned}
use Rattle.rule_laws.specs.Fences.{Class, loading, storing, kind_in, class_orders, IsUnderTag, FenceAfter}
use Rattle.rule_laws.specs.Fences.{IsLatestFence}
use Rattle.rule_laws.specs.MarkedOps.{IsMarked, IsFenced}
use Rattle.rule_laws.specs.OpenLrs.{IsOpen}
use Rattle.rule_laws.specs.Own.{IsOwnPerformed}
use Rattle.rule_laws.proofs.Answered.{marks_start, running_marks, fenced_marks}
use Rattle.rule_laws.proofs.FenceTags.{fence_by_tag}
use Rattle.rule_laws.proofs.OpenLrKept.{open_lr_goes_on}
use Rattle.synchronization_rules.specs.declared.fences.FenceOrder.{FenceOrder}
use Rattle.synchronization_rules.specs.declared.operation.MarkedOp.{MarkedOp}
use Rattle.synchronization_rules.specs.Asked.{op_told, and_told, ops_told, mark_told, IsOfLatest, AreMarksOf}
use Rattle.synchronization_rules.specs.Laws.{HartMarksGoOn}
use Rattle.synchronization_rules.specs.Marks.{HartTable, fence_order_of, is_rcsc_op, op_mark, raised, with_op, with_ops}
use Rattle.synchronization_rules.specs.Marks.{with_fence, with_fences, with_lr, marks_after_retire, is_before_fence}
use Rattle.synchronization_rules.specs.Marks.{
  with_store_part,
  with_parts,
  after_performed,
  first_mark,
  later_with,
  no_hart_marks,
}
use Rattle.synchronization_rules.proofs.FenceGrown.{fences_kept, fences_other, fences_new, fence_none, all_or_none}
use Rattle.synchronization_rules.proofs.Told.{made, mark_at, told_is, IsPlacedIn, IsPlacedIfAny, noted, noted_told}
use Rattle.synchronization_rules.proofs.Told.{raised_told, passed_told, none_told, later_told, told_at, mark_is}

-- ---- what a table has after several operations

loads_after : (os : List MarkedOp) (m : HartTable)
    → (with_ops os m).loads ≡ noted (λ o. kind_loads o.kind) os m.loads
loads_after [] m = refl
loads_after (o ∷ os) m = loads_after os (with_op o m)

stores_after : (os : List MarkedOp) (m : HartTable)
    → (with_ops os m).stores ≡ noted (λ o. kind_stores o.kind) os m.stores
stores_after [] m = refl
stores_after (o ∷ os) m = stores_after os (with_op o m)

acquires_after : (os : List MarkedOp) (m : HartTable)
    → (with_ops os m).acquires ≡ noted (λ o. is_annotated o.acquire) os m.acquires
acquires_after [] m = refl
acquires_after (o ∷ os) m = acquires_after os (with_op o m)

rcsc_after : (os : List MarkedOp) (m : HartTable) → (with_ops os m).rcsc ≡ noted is_rcsc_op os m.rcsc
rcsc_after [] m = refl
rcsc_after (o ∷ os) m = rcsc_after os (with_op o m)

lr_after : (os : List MarkedOp) (m : HartTable) → (with_ops os m).open_lr ≡ m.open_lr
lr_after [] m = refl
lr_after (o ∷ os) m = lr_after os (with_op o m)

order_noted : (c d : Class) (o : MarkedOp) (m : HartTable) → fence_order_of c d (with_op o m) ≡ fence_order_of c d m
order_noted loading loading o m = refl
order_noted loading storing o m = refl
order_noted storing loading o m = refl
order_noted storing storing o m = refl

order_after : (c d : Class) (os : List MarkedOp) (m : HartTable)
    → fence_order_of c d (with_ops os m) ≡ fence_order_of c d m
order_after c d [] m = refl
order_after c d (o ∷ os) m = order_after c d os (with_op o m) ∙ order_noted c d o m

-- what the first class of an order has come to
abbrev running : Class → HartTable → Option Mark
running loading m = m.loads
running storing m = m.stores

order_fenced : (c d : Class) (tag : ℕ) (i : Insn) (os : List MarkedOp) (m : HartTable)
    → fence_order_of c d (with_lr i os (with_fences tag i m))
    ≡ with_fence (class_orders c d i) tag (running c m) (fence_order_of c d m)
order_fenced loading loading tag i os m = refl
order_fenced loading storing tag i os m = refl
order_fenced storing loading tag i os m = refl
order_fenced storing storing tag i os m = refl

order_retired : (c d : Class) (tag : ℕ) (i : Insn) (os : List MarkedOp) (m : HartTable)
    → fence_order_of c d (marks_after_retire tag i os m)
    ≡ with_fence (class_orders c d i) tag (running c m) (fence_order_of c d m)
order_retired c d tag i os m =
    order_after c d os (with_lr i os (with_fences tag i m)) ∙ order_fenced c d tag i os m

order_parts : (c d : Class) (o : MarkedOp) (m : HartTable)
    → fence_order_of c d (with_parts o m) ≡ with_store_part (kind_in c o.kind) o (fence_order_of c d m)
order_parts loading loading o m = refl
order_parts loading storing o m = refl
order_parts storing loading o m = refl
order_parts storing storing o m = refl

order_performed : (c d : Class) (o : MarkedOp) (m : HartTable)
    → fence_order_of c d (after_performed o m) ≡ with_store_part (kind_in c o.kind) o (fence_order_of c d m)
order_performed c d o m = order_noted c d o (with_parts o m) ∙ order_parts c d o m

-- ---- LRs

atomic_lr : (i : Insn) → is_amo_or_sc i ≡ true → is_lr i ≡ false
atomic_lr (Lr wide aq rl rd rs1) e = absurd (false≢true e)
atomic_lr _ e = refl

lr_kind : (i : Insn) (stored : Bool) → is_lr i ≡ true → kind_of_insn i stored ≡ Some kind.Load
lr_kind (Lr wide aq rl rd rs1) stored e = refl
lr_kind _ stored e = absurd (false≢true e)

or_false : (x y : Bool) → x ≡ false → y ≡ false → (x || y) ≡ false
or_false true y e f = absurd (false≢true (sym e))
or_false false y e f = f

-- ---- a mark that stays

stays : (P P' : Op → Type 0) (mark : Option Mark) → ((f : Option Op) → IsLatestIfAny P f → IsLatestIfAny P' f)
    → IsOfLatest P mark → IsOfLatest P' mark
stays P P' mark on l = record { op = l.op; latest = on l.op l.latest; told = l.told }

-- where neither operations nor FENCEs change
all_stay : (t t' : Trace) (h : ℕ) (m : HartTable)
    → ((test : Op → Bool) (f : Option Op) → IsLatestIfAny (IsMarked t h test) f
    → IsLatestIfAny (IsMarked t' h test) f)
    → ((c d : Class) (f : Option Op) → IsLatestIfAny (IsFenced t h c d) f → IsLatestIfAny (IsFenced t' h c d) f)
    → ((c d : Class) → IsLatestFence t' h c d (fence_order_of c d m).fence)
    → ((f : Option Op) → IsLatestIfAny (IsOpen t h) f → IsLatestIfAny (IsOpen t' h) f)
    → AreMarksOf t h m → AreMarksOf t' h m
all_stay t t' h m run fence tags lr a = record {
  loads = stays (IsMarked t h op_loads) (IsMarked t' h op_loads) m.loads (run op_loads) a.loads;
  stores = stays (IsMarked t h op_stores) (IsMarked t' h op_stores) m.stores (run op_stores) a.stores;
  acquires = stays (IsMarked t h (λ v. is_annotated v.acquire)) (IsMarked t' h (λ v. is_annotated v.acquire)) m.acquires
      (run (λ v. is_annotated v.acquire)) a.acquires;
  rcsc = stays (IsMarked t h has_rcsc) (IsMarked t' h has_rcsc) m.rcsc (run has_rcsc) a.rcsc;
  fences = tags;
  fenced = λ c d. stays (IsFenced t h c d) (IsFenced t' h c d) (fence_order_of c d m).latest (fence c d) (a.fenced c d);
  open_lr = stays (IsOpen t h) (IsOpen t' h) m.open_lr lr a.open_lr;
}

-- the operation of a mark was performed in the grown trace
placed_on : (t t' : Trace) (h : ℕ) (P : Op → Type 0) (f : Option Op)
    → ((v : Op) → Contains t.ops v → IsPlaced v → Contains t'.ops v) → ((v : Op) → P v → IsOwnPerformed t h v)
    → IsLatestIfAny P f → IsPlacedIfAny t' f
placed_on t t' h P None on own l v e = absurd (cc)
placed_on t t' h P (Some u) on own l v e =
    let c : u ≡ v = cc in
    let o = own u l.here in
    subst (λ (z : Op). IsPlacedIn t' z) c (Contains-append_left t'.ops t'.early u (on u o.0.0 o.1), o.1)

-- ---- an instruction of the hart

module _ (t t' : Trace) (r : Retired) (new : List Op) (m : HartTable) (k : WellKinded t) (order : ArePositioned t')
    (s : AddInsn t t' r new) (a : AreMarksOf t r.hart m) where
  abbrev H : ℕ
  H = r.hart

  new_in : ((v : Op) → Contains new v → IsPlaced v) → (v : Op) → Contains new v → IsPlacedIn t' v
  new_in placed v i = (Contains-append_left t'.ops t'.early v (s.added v i), placed v i)

  run_grown : (test : Op → Bool) (told : MarkedOp → Bool) → ((v : Op) (p : Place) → told (made v p) ≡ test v)
      → (mark : Option Mark) → IsOfLatest (IsMarked t H test) mark
      → IsOfLatest (IsMarked t' H test) (noted told (ops_told new) mark)
  run_grown test told agree mark l = elim (all_or_none t t' r new k s) [
    | inl placed ↦ record {
      op = latest_from l.op (filter test new);
      latest = running_marks.retired t t' r new test l.op k s placed l.latest;
      told = ap (noted told (ops_told new)) l.told ∙ noted_told t' order test told agree new l.op (new_in placed)
          (placed_on t t' H (IsMarked t H test) l.op (λ v i p. s.ops_on v i) (λ v p. p.0) l.latest);
    }
    | inr none ↦ record {
      op = l.op;
      latest = running_marks.other t t' r new H test l.op k s (inr none) l.latest;
      told = ap (λ (os : List MarkedOp). noted told os mark) (none_told new none) ∙ l.told;
    }
  ]

  -- a mark of what the class has come to
  running_latest : (c : Class) → IsOfLatest (IsMarked t H (λ v. kind_in c v.kind)) (running c m)
  running_latest loading = a.loads
  running_latest storing = a.stores

  fence_grown : (c d : Class)
      → IsLatestFence t' H c d (fence_order_of c d (marks_after_retire r.tag r.insn (ops_told new) m)).fence
  fence_grown c d =
      subst (λ (o : FenceOrder). IsLatestFence t' H c d o.fence)
      (sym (order_retired c d r.tag r.insn (ops_told new) m)) (at (class_orders c d r.insn) refl)
    where
      at : (z : Bool) → class_orders c d r.insn ≡ z
          → IsLatestFence t' H c d (with_fence z r.tag (running c m) (fence_order_of c d m)).fence
      at true e = fences_new t t' r new k s c d e
      at false e = fences_other t t' r new k s H c d (fence_order_of c d m).fence (inr e) (a.fences c d)

  fenced_grown : (c d : Class)
      → IsOfLatest (IsFenced t' H c d) (fence_order_of c d (marks_after_retire r.tag r.insn (ops_told new) m)).latest
  fenced_grown c d =
      subst (λ (o : FenceOrder). IsOfLatest (IsFenced t' H c d) o.latest)
      (sym (order_retired c d r.tag r.insn (ops_told new) m)) (at (class_orders c d r.insn) refl)
    where
      at : (z : Bool) → class_orders c d r.insn ≡ z
          → IsOfLatest (IsFenced t' H c d) (with_fence z r.tag (running c m) (fence_order_of c d m)).latest
      at true e =
          let l = running_latest c in
          record {
            op = l.op;
            latest = fenced_marks.fence t t' r new c d l.op k s e (fence_none t t' r new k s c d e) l.latest;
            told = l.told;
          }
      at false e =
          stays (IsFenced t H c d) (IsFenced t' H c d) (fence_order_of c d m).latest
          (λ f l. fenced_marks.other t t' r new H c d f k s (inr e) l) (a.fenced c d)

  -- an LR has one operation
  one_op : is_lr r.insn ≡ true → (o : Op) × (new ≡ o ∷ []) × IsPlaced o
  one_op e = at s.adds
    where
      at : Adds t t' r new → (o : Op) × (new ≡ o ∷ []) × IsPlaced o
      at (adds_loads l) =
          let o = l.reserves e in
          (o.0, o.1, l.placed o.0 (subst (λ (xs : List Op). Contains xs o.0) (sym o.1) (head_in o.0 [])))
      at (adds_store o l) = absurd (both_ways _ (store_lr r.insn l.stores) e)
      at (adds_atomic i o l) = absurd (both_ways _ (atomic_lr r.insn l.atomic) e)
      at (adds_nothing l) = absurd (let q = sym (lr_kind r.insn r.stored e) ∙ l.nothing in cc)

  first_told : (o : Op) → new ≡ o ∷ [] → IsPlaced o → first_mark (ops_told new) ≡ mark_told (Some o)
  first_told o e p =
      ap (λ (xs : List Op). first_mark (ops_told xs)) e
      ∙ ap (λ (x : Option MarkedOp). first_mark (and_told x [])) (told_at o p.0 p.1)
      ∙ sym (mark_is o p.0 p.1)

  lr_grown : IsOfLatest (IsOpen t' H) (marks_after_retire r.tag r.insn (ops_told new) m).open_lr
  lr_grown =
      subst (IsOfLatest (IsOpen t' H))
      (sym (lr_after (ops_told new) (with_lr r.insn (ops_told new) (with_fences r.tag r.insn m))))
      (at (is_lr r.insn) refl (is_sc r.insn) refl)
    where
      at : (x : Bool) → is_lr r.insn ≡ x → (y : Bool) → is_sc r.insn ≡ y
          → IsOfLatest (IsOpen t' H) (cond x (first_mark (ops_told new)) (cond y None m.open_lr))
      at true e y f =
          let o = one_op e in
          record {
            op = Some o.0;
            latest = open_lr_goes_on.lr t t' r o.0 k (subst (AddInsn t t' r) o.1 s) e;
            told = first_told o.0 o.1 o.2;
          }
      at false e true f = record { op = None; latest = open_lr_goes_on.sc t t' r new k s f; told = refl }
      at false e false f =
          stays (IsOpen t H) (IsOpen t' H) m.open_lr
          (λ g l. open_lr_goes_on.other t t' r new H g k s (inr (or_false (is_lr r.insn) (is_sc r.insn) e f)) l)
          a.open_lr

  pub retired : AreMarksOf t' H (marks_after_retire r.tag r.insn (ops_told new) m)
  retired =
      let table = with_lr r.insn (ops_told new) (with_fences r.tag r.insn m) in
      record {
        loads = subst (IsOfLatest (IsMarked t' H op_loads)) (sym (loads_after (ops_told new) table))
            (run_grown op_loads (λ o. kind_loads o.kind) (λ v p. refl) m.loads a.loads);
        stores = subst (IsOfLatest (IsMarked t' H op_stores)) (sym (stores_after (ops_told new) table))
            (run_grown op_stores (λ o. kind_stores o.kind) (λ v p. refl) m.stores a.stores);
        acquires = subst (IsOfLatest (IsMarked t' H (λ v. is_annotated v.acquire)))
            (sym (acquires_after (ops_told new) table))
            (run_grown (λ v. is_annotated v.acquire) (λ o. is_annotated o.acquire) (λ v p. refl) m.acquires a.acquires);
        rcsc = subst (IsOfLatest (IsMarked t' H has_rcsc)) (sym (rcsc_after (ops_told new) table))
            (run_grown has_rcsc is_rcsc_op (λ v p. refl) m.rcsc a.rcsc);
        fences = fence_grown;
        fenced = fenced_grown;
        open_lr = lr_grown;
      }

-- ---- a part of a store of the hart

module _ (t t' : Trace) (o n : Op) (rest : Option Op) (op : MarkedOp) (m : HartTable) (k : WellKinded t)
    (order : ArePositioned t') (s : PerformsPart t t' o n rest) (e : op_told n ≡ Some op)
    (a : AreMarksOf t n.name.hart m) where
  abbrev G : ℕ
  G = n.name.hart

  is : (p : Place) × (n.place ≡ Some p) × (made n p ≡ op)
  is = told_is n op e

  in_all : Contains (everything t') n
  in_all = Contains-append_left t'.ops t'.early n s.added

  still_placed : (P : Op → Type 0) (f : Option Op) → ((v : Op) → P v → IsOwnPerformed t G v) → IsLatestIfAny P f
      → IsPlacedIfAny t' f
  still_placed P f = placed_on t t' G P f (part_ops t t' o n rest s).stays

  part_run : (test : Op → Bool) (told : MarkedOp → Bool) → ((v : Op) (p : Place) → told (made v p) ≡ test v)
      → (mark : Option Mark) → IsOfLatest (IsMarked t G test) mark
      → IsOfLatest (IsMarked t' G test) (raised (told op) mark (op_mark op))
  part_run test told agree mark l =
      subst (λ (z : MarkedOp). IsOfLatest (IsMarked t' G test) (raised (told z) mark (op_mark z))) is.2
      (at (test n) refl)
    where
      at : (z : Bool) → test n ≡ z
          → IsOfLatest (IsMarked t' G test) (raised (told (made n is.0)) mark (mark_at n is.0))
      at true q = record {
        op = later l.op n;
        latest = running_marks.performed t t' o n rest test l.op s q l.latest;
        told = ap (λ (x : Option Mark). raised (told (made n is.0)) x (mark_at n is.0)) l.told
            ∙ raised_told t' order test told agree l.op n is.0
            (still_placed (IsMarked t G test) l.op (λ v p. p.0) l.latest) in_all is.1 q;
      }
      at false q = record {
        op = l.op;
        latest = running_marks.passed t t' o n rest G test l.op s (inr q) l.latest;
        told = ap (λ (x : Option Mark). raised (told (made n is.0)) x (mark_at n is.0)) l.told
            ∙ passed_told t' order test told agree l.op n is.0 q;
      }

  under_of : (f : Option ℕ) (tag : ℕ) → is_before_fence tag f ≡ true → IsUnderTag tag f
  under_of None tag q = absurd (false≢true q)
  under_of (Some f) tag q = grind (arith, nat_tests)

  of_under : (f : Option ℕ) (tag : ℕ) → IsUnderTag tag f → is_before_fence tag f ≡ true
  of_under None tag q = absurd q
  of_under (Some f) tag q = grind (arith, nat_tests)

  part_fenced : (c d : Class) → IsOfLatest (IsFenced t' G c d) (fence_order_of c d (after_performed op m)).latest
  part_fenced c d =
      subst (λ (z : FenceOrder). IsOfLatest (IsFenced t' G c d) z.latest) (sym (order_performed c d op m))
      (subst (λ (z : MarkedOp). IsOfLatest (IsFenced t' G c d)
      (raised (kind_in c z.kind && is_before_fence z.name.tag (fence_order_of c d m).fence) (fence_order_of c d
      m).latest
      (op_mark z))) is.2
      (at (kind_in c n.kind) refl (is_before_fence n.name.tag (fence_order_of c d m).fence) refl))
    where
      l : IsOfLatest (IsFenced t G c d) (fence_order_of c d m).latest
      l = a.fenced c d

      by : (FenceAfter t G c d n.name.tag → IsUnderTag n.name.tag (fence_order_of c d m).fence)
          × (IsUnderTag n.name.tag (fence_order_of c d m).fence → FenceAfter t G c d n.name.tag)
      by = fence_by_tag t G c d (fence_order_of c d m).fence n.name.tag (a.fences c d)

      at : (x : Bool) → kind_in c n.kind ≡ x → (y : Bool)
          → is_before_fence n.name.tag (fence_order_of c d m).fence ≡ y
          → IsOfLatest (IsFenced t' G c d)
          (raised (kind_in c n.kind && is_before_fence n.name.tag (fence_order_of c d m).fence) (fence_order_of c d
          m).latest
          (mark_at n is.0))
      at true q true f = record {
        op = later l.op n;
        latest = fenced_marks.performed t t' o n rest c d l.op s q
            (by.1 (under_of (fence_order_of c d m).fence n.name.tag f)) l.latest;
        told = ap (λ (z : Bool). raised z (fence_order_of c d m).latest (mark_at n is.0)) (and_from _ _ q f)
            ∙ ap (λ (x : Option Mark). later_with x (mark_at n is.0)) l.told
            ∙ sym (later_told t' order l.op n is.0
            (still_placed (IsFenced t G c d) l.op (λ v p. p.0) l.latest) in_all is.1);
      }
      at false q y f = record {
        op = l.op;
        latest = fenced_marks.passed t t' o n rest G c d l.op s (inr (inl q)) l.latest;
        told = ap (λ (z : Bool). raised (z && is_before_fence n.name.tag (fence_order_of c d m).fence)
            (fence_order_of c d m).latest (mark_at n is.0)) q ∙ l.told;
      }
      at true q false f = record {
        op = l.op;
        latest = fenced_marks.passed t t' o n rest G c d l.op s
            (inr (inr (λ u. both_ways _ f (of_under (fence_order_of c d m).fence n.name.tag (by.0 u))))) l.latest;
        told = ap (λ (z : Bool). raised z (fence_order_of c d m).latest (mark_at n is.0))
            (ap (λ (z : Bool). z && is_before_fence n.name.tag (fence_order_of c d m).fence) q ∙ f) ∙ l.told;
      }

  part_fences : (c d : Class) → IsLatestFence t' G c d (fence_order_of c d (after_performed op m)).fence
  part_fences c d =
      subst (λ (z : FenceOrder). IsLatestFence t' G c d z.fence) (sym (order_performed c d op m))
      (fences_kept t t' G c d (fence_order_of c d m).fence s.keeps (a.fences c d))

  pub performed : AreMarksOf t' G (after_performed op m)
  performed = record {
    loads = part_run op_loads (λ o. kind_loads o.kind) (λ v p. refl) m.loads a.loads;
    stores = part_run op_stores (λ o. kind_stores o.kind) (λ v p. refl) m.stores a.stores;
    acquires = part_run (λ v. is_annotated v.acquire) (λ o. is_annotated o.acquire) (λ v p. refl) m.acquires a.acquires;
    rcsc = part_run has_rcsc is_rcsc_op (λ v p. refl) m.rcsc a.rcsc;
    fences = part_fences;
    fenced = part_fenced;
    open_lr = stays (IsOpen t G) (IsOpen t' G) m.open_lr
        (λ f l. open_lr_goes_on.performed t t' o n rest G f k s l) a.open_lr;
  }

-- ---- the law

no_run : (granule h : ℕ) (test : Op → Bool) → IsOfLatest (IsMarked (nothing_yet granule) h test) None
no_run granule h test = record { op = None; latest = marks_start.running granule h test; told = refl }

no_fences : (granule h : ℕ) (c d : Class)
    → IsLatestFence (nothing_yet granule) h c d (fence_order_of c d no_hart_marks).fence
no_fences granule h loading loading = λ n. refl
no_fences granule h loading storing = λ n. refl
no_fences granule h storing loading = λ n. refl
no_fences granule h storing storing = λ n. refl

no_fenced : (granule h : ℕ) (c d : Class)
    → IsOfLatest (IsFenced (nothing_yet granule) h c d) (fence_order_of c d no_hart_marks).latest
no_fenced granule h c d = record {
  op = None;
  latest = marks_start.fenced granule h c d;
  told = none c d;
}
  where
    none : (c d : Class) → (fence_order_of c d no_hart_marks).latest ≡ None
    none loading loading = refl
    none loading storing = refl
    none storing loading = refl
    none storing storing = refl

pub marks_go_on : HartMarksGoOn
marks_go_on = record {
  start = λ granule h. record {
    loads = no_run granule h op_loads;
    stores = no_run granule h op_stores;
    acquires = no_run granule h (λ v. is_annotated v.acquire);
    rcsc = no_run granule h has_rcsc;
    fences = no_fences granule h;
    fenced = no_fenced granule h;
    open_lr = record { op = None; latest = open_lr_goes_on.start granule h; told = refl };
  };
  nothing = λ t t' h m s a. all_stay t t' h m (λ test f l. running_marks.nothing t t' h test f s l)
      (λ c d f l. fenced_marks.nothing t t' h c d f s l)
      (λ c d. fences_kept t t' h c d (fence_order_of c d m).fence s.keeps (a.fences c d))
      (λ f l. open_lr_goes_on.nothing t t' h f s l) a;
  early = λ t t' e h m s a. all_stay t t' h m (λ test f l. running_marks.early t t' e h test f s l)
      (λ c d f l. fenced_marks.early t t' e h c d f s l)
      (λ c d. fences_kept t t' h c d (fence_order_of c d m).fence s.keeps (a.fences c d))
      (λ f l. open_lr_goes_on.early t t' e h f s l) a;
  retired = λ t t' r new m k order s a. retired t t' r new m k order s a;
  others = λ t t' r new h m k s d a.
      all_stay t t' h m (λ test f l. running_marks.other t t' r new h test f k s (inl d) l)
      (λ x y f l. fenced_marks.other t t' r new h x y f k s (inl d) l)
      (λ x y. fences_other t t' r new k s h x y (fence_order_of x y m).fence (inl d) (a.fences x y))
      (λ f l. open_lr_goes_on.other t t' r new h f k s (inl d) l) a;
  performed = λ t t' o n rest op m k order s e a. performed t t' o n rest op m k order s e a;
  elsewhere = λ t t' o n rest h m k s d a.
      all_stay t t' h m (λ test f l. running_marks.passed t t' o n rest h test f s (inl d) l)
      (λ x y f l. fenced_marks.passed t t' o n rest h x y f s (inl d) l)
      (λ x y. fences_kept t t' h x y (fence_order_of x y m).fence s.keeps (a.fences x y))
      (λ f l. open_lr_goes_on.performed t t' o n rest h f k s l) a;
}
