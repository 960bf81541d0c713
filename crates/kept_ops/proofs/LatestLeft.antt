-- The latest operations of a list, once some are let go, and in look-ups.
use Rattle.std.proofs.Common.{ℕ, ◌≡◌, ◌&&◌, inl, inr, not, Bool, true, false, Option, None, Some, cond}
use Rattle.std.proofs.Common.{Contains}
use Rattle.std.proofs.Common.{List, [], ◌∷◌, refl, ap, subst, ◌∙◌, arith}
use Rattle.std.specs.List.{filter}
use Rattle.std.proofs.lemmas.Bool.{both_ways}
use Rattle.std.proofs.lemmas.Bool.Decides.{nat_tests}
use Rattle.slab.proofs.SlabLemmas.{Contains-cons, Contains-cons_cases}
use Rattle.tandem_base.specs.declared.extent.Extent.{Extent}
use Rattle.tandem_base.specs.declared.names.Origin.{Origin}
use Rattle.tandem_base.specs.declared.names.Position.{Position}
use Rattle.tandem_base.specs.Extents.{is_among}
use Rattle.tandem_base.specs.Places.{comes_before}
use Rattle.rvwmo_model.specs.Tests.{same_origin}
use Rattle.kept_ops.specs.declared.operation.KeptOp.{KeptOp}
use Rattle.kept_ops.specs.Arrivals.{stays}
use Rattle.kept_ops.specs.Marks.{ByteMarks, marks_closed, staying, marks_staying}
use Rattle.kept_ops.specs.Marks.{IsLatestThat, is_other, AreLatest, no_marks, since_closed, over, other_than}
use Rattle.kept_ops.specs.Marks.{loads_from_elsewhere, passes_over}
use Rattle.kept_ops.specs.Operations.{came_after, loads_at, stores_at, source_at}
use Rattle.kept_ops.specs.Tables.{op_stays}
use Rattle.kept_ops.proofs.Latest.{swapped, same_both, same_turned, elsewhere, neither, and_left, stays_behind}

-- ---- those up to a place are let go

in_filter : (p : KeptOp → Bool) (xs : List KeptOp) (v : KeptOp) → Contains (filter p xs) v
    → Contains xs v × (p v ≡ true)
in_filter p [] v i = absurd (omega (arith, i.1))
in_filter p (y ∷ xs) v i = by (p y) refl i (λ j. in_filter p xs v j)
  where
    by : (b : Bool) → p y ≡ b → Contains (cond b (y ∷ filter p xs) (filter p xs)) v
        → (Contains (filter p xs) v → Contains xs v × (p v ≡ true)) → Contains (y ∷ xs) v × (p v ≡ true)
    by true e i rec = elim (Contains-cons_cases y v (filter p xs) i) [
      | inl s ↦ ((0, omega arith, s), subst (λ (z : KeptOp). p z ≡ true) s e)
      | inr j ↦
          let r = rec j in
          (Contains-cons y v xs r.0, r.1)
    ]
    by false e i rec =
        let r = rec i in
        (Contains-cons y v xs r.0, r.1)

filter_has : (p : KeptOp → Bool) (xs : List KeptOp) (v : KeptOp) → Contains xs v → p v ≡ true → Contains (filter p xs) v
filter_has p [] v i t = absurd (omega (arith, i.1))
filter_has p (y ∷ xs) v i t = by (p y) refl (λ j. filter_has p xs v j t)
  where
    by : (b : Bool) → p y ≡ b → (Contains xs v → Contains (filter p xs) v)
        → Contains (cond b (y ∷ filter p xs) (filter p xs)) v
    by true e rec = elim (Contains-cons_cases y v xs i) [
      | inl s ↦ (0, omega arith, s)
      | inr j ↦ Contains-cons y v (filter p xs) (rec j)
    ]
    by false e rec = elim (Contains-cons_cases y v xs i) [
      | inl s ↦ absurd (both_ways (p v) (subst (λ (z : KeptOp). p z ≡ false) s e) t)
      | inr j ↦ rec j
    ]

module _ (oldest : Option Position) (ops : List KeptOp) where
  -- where the latest doesn't stay, none does
  none_stays : (test : KeptOp → Bool) (m v : KeptOp) → IsLatestThat test ops (Some m) → stays oldest m.place ≡ false
      → Contains ops v → op_stays oldest v ≡ true → test v ≡ false
  none_stays test m v h e i s = by (test v) refl
    where
      by : (b : Bool) → test v ≡ b → test v ≡ false
      by true q = absurd (both_ways (stays oldest m.place) e (stays_behind oldest v.place m.place s (h.2 v i q)))
      by false q = q

  pub latest_staying : (test : KeptOp → Bool) (m : Option KeptOp) → IsLatestThat test ops m
      → IsLatestThat test (filter (op_stays oldest) ops) (staying oldest m)
  latest_staying test None h = λ v i. h v (in_filter (op_stays oldest) ops v i).0
  latest_staying test (Some m) h = by (stays oldest m.place) refl
    where
      by : (b : Bool) → stays oldest m.place ≡ b
          → IsLatestThat test (filter (op_stays oldest) ops) (cond b (Some m) None)
      by true e = (
        filter_has (op_stays oldest) ops m h.0 e,
        h.1,
        λ v i q. h.2 v
            (in_filter (op_stays oldest) ops v i).0 q,
      )
      by false e = λ v i. (
          let f = in_filter (op_stays oldest) ops v i in
          none_stays test m v h e f.0 f.1
          )

  others_staying : (x : ℕ) (load other : Option KeptOp) → IsLatestThat (loads_at x) ops load
      → IsLatestThat (is_other x load) ops other
      → IsLatestThat (is_other x (staying oldest load)) (filter (op_stays oldest) ops) (staying oldest other)
  others_staying x None other h i = latest_staying (is_other x None) other i
  others_staying x (Some m) other h i = by (stays oldest m.place) refl other i
    where
      by : (b : Bool) → stays oldest m.place ≡ b → (other : Option KeptOp)
          → IsLatestThat (is_other x (Some m)) ops other
          → IsLatestThat (is_other x (cond b (Some m) None)) (filter (op_stays oldest) ops) (staying oldest other)
      by true e other i = latest_staying (is_other x (Some m)) other i
      by false e None i = λ v j. refl
      by false e (Some n) i = gone (stays oldest n.place) refl
        where
          gone : (b : Bool) → stays oldest n.place ≡ b
              → IsLatestThat (is_other x None) (filter (op_stays oldest) ops) (cond b (Some n) None)
          gone true f =
              let loads : loads_at x n ≡ true =
              and_left (loads_at x n) (not (same_origin (source_at x m) (source_at x n))) i.1 in
              absurd (both_ways (loads_at x n) (none_stays (loads_at x) m n h e i.0 f) loads)
          gone false f = λ v j. refl

pub latest_pruned : (oldest : Option Position) (x : ℕ) (ops since : List KeptOp) (marks : ByteMarks)
    → AreLatest x ops since marks
    → AreLatest x (filter (op_stays oldest) ops) (filter (op_stays oldest) since) (marks_staying oldest marks)
latest_pruned oldest x ops since marks h = record {
  store = latest_staying oldest ops (stores_at x) marks.store h.store;
  load = latest_staying oldest since (loads_at x) marks.load h.load;
  other = others_staying oldest since x marks.load marks.other h.load h.other;
}

-- ---- a store retires

pub latest_closed : (extent : Extent) (x : ℕ) (ops since : List KeptOp) (marks : ByteMarks)
    → AreLatest x ops since marks
    → AreLatest x ops (since_closed extent x since) (marks_closed extent x marks)
latest_closed extent x ops since marks h = by (is_among extent.addr extent.len x)
  where
    by : (b : Bool) → AreLatest x ops (cond b [] since)
        (cond b (record { store = marks.store; load = None; other = None }) marks)
    by true = record {
      store = h.store;
      load = λ v i. absurd (omega (arith, i.1));
      other = λ v i. refl;
    }
    by false = h

-- ---- nothing is kept

pub latest_of_none : (x : ℕ) → AreLatest x [] [] no_marks
latest_of_none x = record {
  store = λ v i. absurd (omega (arith, i.1));
  load = λ v i. absurd (omega (arith, i.1));
  other = λ v i. refl;
}

-- ---- the look-ups

and_both : (a b : Bool) → a ≡ true → b ≡ true → (a && b) ≡ true
and_both true true p q = refl
and_both true false p q = cc
and_both false b p q = cc

-- what isn't before the latest isn't after a place that the latest isn't after
not_over : (place m v : Position) → comes_before place m ≡ false → comes_before m v ≡ false → comes_before place v
    ≡ false
not_over place m v p q = grind (arith, nat_tests, p, q)

pub latest_over : (test : KeptOp → Bool) (ops : List KeptOp) (place : Position) (m : Option KeptOp)
    → IsLatestThat test ops m → IsLatestThat (passes_over test place) ops (over place m)
latest_over test ops place None h = λ v i. neither (test v) (came_after place v) (h v i)
latest_over test ops place (Some m) h = by (came_after place m) refl
  where
    none : (v : KeptOp) (b : Bool) → test v ≡ b → Contains ops v → came_after place m ≡ false
        → (test v && came_after place v) ≡ false
    none v false q i e = neither (test v) (came_after place v) q
    none v true q i e =
        ap (λ (a : Bool). a && came_after place v) q ∙ not_over place m.place v.place e (h.2 v i q)

    by : (b : Bool) → came_after place m ≡ b
        → IsLatestThat (passes_over test place) ops (cond b (Some m) None)
    by true e = (
      h.0,
      and_both (test m) (came_after place m) h.1 e,
      λ v i q. h.2 v i
          (and_left (test v) (came_after place v) q),
    )
    by false e = λ v i. none v (test v) refl i e

pub latest_from_elsewhere : (x : ℕ) (ops since : List KeptOp) (marks : ByteMarks) (source : Option Origin)
    → AreLatest x ops since marks
    → IsLatestThat (loads_from_elsewhere x source) since (other_than x source marks.load marks.other)
latest_from_elsewhere x ops since marks source h = at marks.load marks.other h.load h.other
  where
    at : (load other : Option KeptOp) → IsLatestThat (loads_at x) since load
        → IsLatestThat (is_other x load) since other
        → IsLatestThat (loads_from_elsewhere x source) since (other_than x source load other)
    at None None l o = λ v i. neither (loads_at x v) (not (same_origin (source_at x v) source)) (l v i)
    at None (Some n) l o = absurd (both_ways false refl o.1)
    at (Some m) other l o = by (same_origin (source_at x m) source) refl
      where
        by : (b : Bool) → same_origin (source_at x m) source ≡ b
            → IsLatestThat (loads_from_elsewhere x source) since (cond b other (Some m))
        by true e = swapped (is_other x (Some m)) (loads_from_elsewhere x source) since other
            (λ v. ap (λ (t : Bool). loads_at x v && not t)
            (same_both (source_at x m) source (source_at x v) e ∙ same_turned source (source_at x v))) o
        by false e = (
          l.0,
          elsewhere (loads_at x m) (same_origin (source_at x m) source) l.1 e,
          λ v i q. l.2 v i (and_left (loads_at x v) (not (same_origin (source_at x v) source)) q),
        )
