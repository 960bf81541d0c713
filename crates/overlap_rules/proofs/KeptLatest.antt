-- What the table of kept operations finds of a byte.
use Rattle.std.proofs.Common.{ℕ, ◌+◌, ◌-◌, ◌≡◌, ◌&&◌, not, Bool, true, false, List, Option, Some, None, refl, sym}
use Rattle.std.proofs.Common.{ap, subst, ◌∙◌, arith, slice_index_or}
use Rattle.std.specs.Prelude.{◌≢◌}
use Rattle.std.specs.List.{Contains}
use Rattle.std.proofs.lemmas.Bool.{both_ways, and_parts, and_from}
use Rattle.std.proofs.lemmas.Bool.Decides.{nat_tests}
use Rattle.tandem_base.specs.declared.extent.Extent.{Extent}
use Rattle.tandem_base.specs.declared.names.Origin.{Origin}
use Rattle.tandem_base.specs.declared.names.Place.{Place}
use Rattle.tandem_base.specs.Extents.{is_among}
use Rattle.rvwmo_model.specs.declared.operations.Op.{Op}
use Rattle.rvwmo_model.specs.declared.operations.OpKind.{OpKind}
use Rattle.rvwmo_model.specs.declared.traces.Trace.{Trace}
use Rattle.rvwmo_model.specs.Order.{performed, stands_before, standing, standing_of, precedes, kind_loads, kind_stores}
use Rattle.rvwmo_model.specs.Order.{op_loads, has_byte, reads, writes}
use Rattle.rvwmo_model.specs.Sources.{origin}
use Rattle.rvwmo_model.specs.Tests.{same_origin}
use Rattle.rvwmo_model.proofs.Tested.{same_origin_is}
use Rattle.growth_laws.proofs.Facts.{load_placed}
use Rattle.kept_ops.specs.declared.operation.KeptOp.{KeptOp}
use Rattle.kept_ops.specs.Marks.{IsLatestThat, loads_from_elsewhere, passes_over}
use Rattle.kept_ops.specs.Operations.{came_after, holds_byte, loads_at, stores_at, source_at}
use Rattle.kept_ops.specs.Tables.{KeptTable, marks_at}
use Rattle.kept_ops.proofs.LatestLeft.{latest_over, latest_from_elsewhere}
use Rattle.store_buffer.specs.Stores.{StoreList}
use Rattle.window_laws.specs.Keeping.{IsRecent, IsKeptAs}
use Rattle.window_laws.specs.Latest.{IsLatestIfAny}
use Rattle.rule_laws.specs.Above.{Over}
use Rattle.rule_laws.specs.Own.{IsOwnPerformed}
use Rattle.rule_laws.specs.Sourced.{IsOwnStored}
use Rattle.rule_laws.specs.TwoMarks.{LoadsLast, LoadsOther}
use Rattle.rule_laws.proofs.LatestOver.{over_both}
use Rattle.overlap_rules.specs.Answers.{mark_of_op, found_op, kept_store, kept_load, kept_other}
use Rattle.overlap_rules.specs.Found.{IsMarkOf, TellsOp, MarksLatest}
use Rattle.overlap_rules.specs.Questions.{IsAskedBy}
use Rattle.overlap_rules.specs.Since.{AreLoadsSince}
use Rattle.overlap_rules.proofs.MarkTold.{same_order}

-- ---- what is kept has the bytes of its operation

pub kept_holds : (t : Trace) (v : Op) (m : KeptOp) (x : ℕ) → IsKeptAs t v m → holds_byte x m ≡ has_byte x v
kept_holds t v m x k = rw (k.extent, k.mask) refl

pub kept_loads : (t : Trace) (v : Op) (m : KeptOp) (x : ℕ) → IsKeptAs t v m → loads_at x m ≡ reads x v
kept_loads t v m x k =
    ap (λ (z : Bool). kind_loads m.kind && z) (kept_holds t v m x k)
    ∙ ap (λ (z : OpKind). kind_loads z && has_byte x v) k.kind

pub kept_stores : (t : Trace) (v : Op) (m : KeptOp) (x : ℕ) → IsKeptAs t v m → stores_at x m ≡ writes x v
kept_stores t v m x k =
    ap (λ (z : Bool). kind_stores m.kind && z) (kept_holds t v m x k)
    ∙ ap (λ (z : OpKind). kind_stores z && has_byte x v) k.kind

-- an address inside is its distance behind the base
pub behind_base : (base size x : ℕ) → is_among base size x ≡ true → base + (x - base) ≡ x
behind_base base size x e = grind (arith, nat_tests, e)

-- the byte is inside the extent
pub byte_within : (x : ℕ) (v : Op) → has_byte x v ≡ true → is_among v.extent.addr v.extent.len x ≡ true
byte_within x v e = (and_parts (is_among v.extent.addr v.extent.len x) _ e).0

pub kept_source_of : (t : Trace) (v : Op) (m : KeptOp) (x : ℕ) → IsKeptAs t v m → reads x v ≡ true
    → source_at x m ≡ origin t v x
kept_source_of t v m x k q =
    let there : v.extent.addr + (x - v.extent.addr) ≡ x =
    behind_base v.extent.addr v.extent.len x (byte_within x v (and_parts (op_loads v) (has_byte x v) q).1) in
    ap (λ (e : Extent). slice_index_or m.sources (x - e.addr) None) k.extent
    ∙ k.sources (x - v.extent.addr) (ap (λ (y : ℕ). reads y v) there ∙ q)
    ∙ ap (origin t v) there

-- ---- the latest of what is kept

-- m is of the list, passes the test, and is what v is kept as
pub record IsKeptIn (t : Trace) (ops : List KeptOp) (test : KeptOp → Bool) (v : Op) (m : KeptOp) : Type 0 where
  pub listed : Contains ops m
  pub passes : test m ≡ true
  pub old : Contains t.ops v
  pub is : IsKeptAs t v m

abbrev pub TellsKept : Trace → List KeptOp → (KeptOp → Bool) → Option Op → Option KeptOp → Type 0
TellsKept t ops test None None = Unit {0}
TellsKept t ops test None (Some m) = ⊥
TellsKept t ops test (Some v) None = ⊥
TellsKept t ops test (Some v) (Some m) = IsKeptIn t ops test v m

-- what is found is what the latest that has a property is kept as
pub record KeptLatest (t : Trace) (ops : List KeptOp) (test : KeptOp → Bool) (P : Op → Type 0) (found : Option KeptOp)
    : Type 0 where
  pub op : Option Op
  pub latest : IsLatestIfAny P op
  pub told : TellsKept t ops test op found

kept_mark : (t : Trace) (ops : List KeptOp) (test : KeptOp → Bool) (v : Op) (m : KeptOp) → IsKeptIn t ops test v m
    → IsMarkOf t v (mark_of_op m)
kept_mark t ops test v m k = record { here = k.old; name = k.is.name; place = k.is.place }

kept_told : (t : Trace) (ops : List KeptOp) (test : KeptOp → Bool) (v : Option Op) (m : Option KeptOp)
    → TellsKept t ops test v m → TellsOp t v (found_op m)
kept_told t ops test None None k = tt
kept_told t ops test None (Some m) k = absurd k
kept_told t ops test (Some v) None k = absurd k
kept_told t ops test (Some v) (Some m) k = kept_mark t ops test v m k

-- its mark tells that latest
pub kept_marks : (t : Trace) (ops : List KeptOp) (test : KeptOp → Bool) (P : Op → Type 0) (found : Option KeptOp)
    → KeptLatest t ops test P found → MarksLatest t P (found_op found)
kept_marks t ops test P found k =
    record { op = k.op; latest = k.latest; told = kept_told t ops test k.op found k.told }

module _ (t t' : Trace) (b : Op) (fresh : KeptOp) (stores : StoreList) (kept : KeptTable)
    (a : IsAskedBy t t' b fresh stores kept) where
  abbrev H : ℕ
  H = b.name.hart

  pub stays_on : (o : Op) → Contains t.ops o → Contains t'.ops o
  stays_on = a.new.retires.ops_on

  pub fresh_mark : IsMarkOf t' b (mark_of_op fresh)
  fresh_mark = record { here = a.new.retires.added b a.new.here; name = a.told.name; place = a.told.place }

  pub oldest_below : stands_before (standing b) (performed a.oldest) ≡ false
  unfolding stands_before
  oldest_below = let p = a.new.performed in rw p.1 (a.since p.0 p.1)

  -- what was performed after b is recent
  pub is_recent : (v : Op) → IsOwnPerformed t H v → precedes b v ≡ true → IsRecent t H (Some a.oldest) v
  unfolding stands_before
  is_recent v own q =
      let p = own.1 in
      let e : stands_before (performed a.oldest) (standing_of v.name (Some p.0)) ≡ true =
      subst (λ (z : Option Place). stands_before (performed a.oldest) (standing_of v.name z) ≡ true) p.1
      (over_both (performed a.oldest) (standing b) (standing v) oldest_below q) in
      (own.0.0, own.0.1, (p.0, p.1, e))

  -- the mark of what is kept, in both traces
  mark_in : (v : Op) (m : KeptOp) → Contains t.ops v → IsKeptAs t v m → IsMarkOf t' v (mark_of_op m)
  mark_in v m i k = record { here = stays_on v i; name = k.name; place = k.place }

  pub comes_after : (v : Op) (m : KeptOp) → Contains t.ops v → IsKeptAs t v m
      → precedes b v ≡ came_after fresh.place m
  comes_after v m i k = same_order t' b v (mark_of_op fresh) (mark_of_op m) a.positioned fresh_mark (mark_in v m i k)

  -- what is found is the latest, where the list has what has the property
  module _ (ops : List KeptOp) (test : KeptOp → Bool) (P : Op → Type 0)
      (each : (m : KeptOp) → Contains ops m → test m ≡ true → (v : Op) × P v × IsKeptIn t ops test v m)
      (all : (v : Op) → P v → (m : KeptOp) × IsKeptIn t ops test v m) where
    latest_kept : (found : Option KeptOp) → IsLatestThat test ops found → KeptLatest t ops test P found
    latest_kept None h = record {
      op = None;
      latest = λ v p. (let m = all v p in both_ways (test m.0) (h m.0 m.1.listed) m.1.passes);
      told = tt;
    }
    latest_kept (Some m) h =
        let e = each m h.0 h.1 in record {
          op = Some e.0;
          latest = record {
            here = e.1;
            latest = λ u p. (let n = all u p in
                same_order t' e.0 u (mark_of_op m) (mark_of_op n.0) a.positioned (mark_in e.0 m e.2.old e.2.is)
                (mark_in u n.0 n.1.old n.1.is) ∙ h.2 n.0 n.1.listed n.1.passes);
          };
          told = e.2;
        }

  -- ---- the last store

  abbrev pub StoredOver : ℕ → Op → Type 0
  StoredOver x v = Over (IsOwnStored t H x) (standing b) v

  abbrev pub stores_over : ℕ → KeptOp → Bool
  stores_over x o = passes_over (stores_at x) fresh.place o

  pub store_latest : (x : ℕ) → KeptLatest t kept.ops (stores_over x) (StoredOver x) (kept_store kept x fresh.place)
  store_latest x =
      latest_kept kept.ops (stores_over x) (StoredOver x) each all (kept_store kept x fresh.place)
      (latest_over (stores_at x) kept.ops fresh.place (marks_at kept x).store (a.keeps.loads x).1.store)
    where
      each : (m : KeptOp) → Contains kept.ops m → stores_over x m ≡ true
          → (v : Op) × StoredOver x v × IsKeptIn t kept.ops (stores_over x) v m
      each m i q =
          let e = a.keeps.ops.each m i in
          let p = and_parts (stores_at x m) (came_after fresh.place m) q in
          let w : writes x e.0 ≡ true = sym (kept_stores t e.0 m x e.2) ∙ p.0 in
          let c : precedes b e.0 ≡ true = comes_after e.0 m e.1.0 e.2 ∙ p.1 in (
            e.0,
            ((((e.1.0, e.1.1), (e.1.2.0, e.1.2.1)), w), c),
            record { listed = i; passes = q; old = e.1.0; is = e.2 },
          )

      all : (v : Op) → StoredOver x v → (m : KeptOp) × IsKeptIn t kept.ops (stores_over x) v m
      all v p =
          let m = a.keeps.ops.all v (is_recent v p.0.0 p.1) in
          let s : stores_at x m.0 ≡ true = kept_stores t v m.0 x m.2 ∙ p.0.1 in
          let c : came_after fresh.place m.0 ≡ true = sym (comes_after v m.0 p.0.0.0.0 m.2) ∙ p.1 in
          (m.0, record { listed = m.1; passes = and_from _ _ s c; old = p.0.0.0.0; is = m.2 })

  -- ---- the last loads

  abbrev pub since_of : ℕ → List KeptOp
  since_of x = (a.keeps.loads x).0

  are_since : (x : ℕ) → AreLoadsSince t H (Some a.oldest) x (since_of x)
  are_since x = (a.keeps.loads x).2

  pub last_placed : (x : ℕ) (v : Op) → LoadsLast t H x v → IsOwnPerformed t H v
  last_placed x v p = (p.0, load_placed t v a.kinded p.0.0 (and_parts (op_loads v) (has_byte x v) p.1).0)

  abbrev pub LoadedOver : ℕ → Op → Type 0
  LoadedOver x v = Over (LoadsLast t H x) (standing b) v

  abbrev pub loads_over : ℕ → KeptOp → Bool
  loads_over x o = passes_over (loads_at x) fresh.place o

  pub load_latest : (x : ℕ) → KeptLatest t (since_of x) (loads_over x) (LoadedOver x) (kept_load kept x fresh.place)
  load_latest x =
      latest_kept (since_of x) (loads_over x) (LoadedOver x) each all (kept_load kept x fresh.place)
      (latest_over (loads_at x) (since_of x) fresh.place (marks_at kept x).load (a.keeps.loads x).1.load)
    where
      each : (m : KeptOp) → Contains (since_of x) m → loads_over x m ≡ true
          → (v : Op) × LoadedOver x v × IsKeptIn t (since_of x) (loads_over x) v m
      each m i q =
          let p = and_parts (loads_at x m) (came_after fresh.place m) q in
          let e = (are_since x).each m i p.0 in
          let c : precedes b e.0 ≡ true = comes_after e.0 m e.1.0.0 e.2 ∙ p.1 in
          (e.0, (e.1.1, c), record { listed = i; passes = q; old = e.1.0.0; is = e.2 })

      all : (v : Op) → LoadedOver x v → (m : KeptOp) × IsKeptIn t (since_of x) (loads_over x) v m
      all v p =
          let m = (are_since x).all v (is_recent v (last_placed x v p.0) p.1, p.0) in
          let s : loads_at x m.0 ≡ true = kept_loads t v m.0 x m.2 ∙ p.0.1 in
          let c : came_after fresh.place m.0 ≡ true = sym (comes_after v m.0 p.0.0.0 m.2) ∙ p.1 in
          (m.0, record { listed = m.1; passes = and_from _ _ s c; old = p.0.0.0; is = m.2 })

  -- with another source
  module _ (x : ℕ) (s : Option Origin) where
    abbrev pub ElsewhereOver : Op → Type 0
    ElsewhereOver v = Over (LoadsOther t H x s) (standing b) v

    abbrev pub elsewhere_over : KeptOp → Bool
    elsewhere_over o = passes_over (loads_from_elsewhere x s) fresh.place o

    differs : (m : KeptOp) (v : Op) → IsKeptAs t v m → reads x v ≡ true → not (same_origin (source_at x m) s) ≡ true
        → origin t v x ≢ s
    differs m v k q n e = at (same_origin (source_at x m) s) n
        ((same_origin_is (source_at x m) s).1 (kept_source_of t v m x k q ∙ e))
      where
        at : (z : Bool) → not z ≡ true → z ≡ true → ⊥
        at true f g = cc
        at false f g = cc

    tells_apart : (m : KeptOp) (v : Op) → IsKeptAs t v m → reads x v ≡ true → origin t v x ≢ s
        → not (same_origin (source_at x m) s) ≡ true
    tells_apart m v k q n = at (same_origin (source_at x m) s) refl
      where
        at : (z : Bool) → same_origin (source_at x m) s ≡ z → not (same_origin (source_at x m) s) ≡ true
        at true f = absurd (n (sym (kept_source_of t v m x k q) ∙ (same_origin_is (source_at x m) s).0 f))
        at false f = ap not f

    pub other_latest : KeptLatest t (since_of x) elsewhere_over ElsewhereOver (kept_other kept x s fresh.place)
    other_latest =
        latest_kept (since_of x) elsewhere_over ElsewhereOver each all (kept_other kept x s fresh.place)
        (latest_over (loads_from_elsewhere x s) (since_of x) fresh.place _
        (latest_from_elsewhere x kept.ops (since_of x) (marks_at kept x) s (a.keeps.loads x).1))
      where
        each : (m : KeptOp) → Contains (since_of x) m → elsewhere_over m ≡ true
            → (v : Op) × ElsewhereOver v × IsKeptIn t (since_of x) elsewhere_over v m
        each m i q =
            let p = and_parts (loads_from_elsewhere x s m) (came_after fresh.place m) q in
            let l = and_parts (loads_at x m) (not (same_origin (source_at x m) s)) p.0 in
            let e = (are_since x).each m i l.0 in
            let c : precedes b e.0 ≡ true = comes_after e.0 m e.1.0.0 e.2 ∙ p.1 in (
              e.0,
              ((e.1.1, differs m e.0 e.2 e.1.1.1 l.1), c),
              record { listed = i; passes = q; old = e.1.0.0; is = e.2 },
            )

        all : (v : Op) → ElsewhereOver v → (m : KeptOp) × IsKeptIn t (since_of x) elsewhere_over v m
        all v p =
            let m = (are_since x).all v (is_recent v (last_placed x v p.0.0) p.1, p.0.0) in
            let l : loads_at x m.0 ≡ true = kept_loads t v m.0 x m.2 ∙ p.0.0.1 in
            let n = tells_apart m.0 v m.2 p.0.0.1 p.0.1 in
            let c : came_after fresh.place m.0 ≡ true = sym (comes_after v m.0 p.0.0.0.0 m.2) ∙ p.1 in (
              m.0,
              record {
                listed = m.1;
                passes = and_from _ _ (and_from _ _ l n) c;
                old = p.0.0.0.0;
                is = m.2;
              },
            )
