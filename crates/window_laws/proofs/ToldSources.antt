-- What tables tell of the source of a byte.
use Rattle.std.proofs.Common.{ℕ, ◌≡◌, true, false, List, Option, Some, None, option_map, refl, sym, ap}
use Rattle.std.proofs.Common.{◌∙◌, arith}
use Rattle.std.proofs.lemmas.Bool.Decides.{nat_tests}
use Rattle.std.specs.List.{Contains}
use Rattle.std.proofs.lemmas.List.Elements.{Contains-append_left}
use Rattle.tandem_base.specs.declared.names.Place.{Place}
use Rattle.tandem_base.specs.declared.names.Position.{Position}
use Rattle.tandem_base.specs.Places.{earlier, comes_before}
use Rattle.rvwmo_model.specs.declared.instructions.Retired.{Retired}
use Rattle.rvwmo_model.specs.declared.operations.Op.{Op}
use Rattle.rvwmo_model.specs.declared.traces.Trace.{Trace}
use Rattle.rvwmo_model.specs.Order.{precedes, writes, everything, put_at}
use Rattle.rvwmo_model.specs.Sources.{source, byte_from}
use Rattle.byte_memory.specs.declared.writer.Writer.{Writer}
use Rattle.kept_ops.specs.declared.operation.KeptOp.{KeptOp}
use Rattle.kept_ops.specs.Operations.{stores_at}
use Rattle.window_laws.specs.declared.source.ByteSource.{ByteSource}
use Rattle.window_laws.specs.Latest.{IsLatestIfAny}
use Rattle.window_laws.specs.Tables.{untimed, ArePositioned, writer_from, source_told}
use Rattle.window_laws.specs.Captures.{IsStoredBefore, TellsByte}
use Rattle.window_laws.specs.Waiting.{IsWaitingBelow}
use Rattle.window_laws.specs.Keeping.{IsStoredAfter, IsKeptAs, AreKeptOps}
use Rattle.window_laws.specs.SourceLaws.{IsNewAt}
use Rattle.window_laws.specs.ToldSources.{IsKeptAfter, IsLatestKept, waiting_source, kept_source}
use Rattle.window_laws.specs.ToldSources.{memory_source, SourcesAreTold}
use Rattle.window_laws.proofs.Placed.{by_place}
use Rattle.window_laws.proofs.SplitSources.{splits}
use Rattle.window_laws.proofs.WaitingGrown.{waiting_is_told}

place_after : (place oldest p : Place) → earlier place oldest ≡ false → earlier place p ≡ true → earlier oldest p ≡ true
place_after place oldest p a b = grind (arith, nat_tests, a, b)

kept_writes : (t : Trace) (o : Op) (m : KeptOp) (x : ℕ) → IsKeptAs t o m → writes x o ≡ stores_at x m
kept_writes t o m x a = rw (a.kind, a.extent, a.mask) refl

kept_at : (t : Trace) (o : Op) (m : KeptOp) (p : Place) → IsKeptAs t o m → o.place ≡ Some p → m.place ≡ untimed p
kept_at t o m p w e = let same : Some m.place ≡ Some (untimed p) = w.place ∙ ap (option_map untimed) e in cc

-- ---- the latest kept store

module _ (t t' : Trace) (r : Retired) (b : Op) (place oldest : Place) (x : ℕ) (kept : List KeptOp)
    (n : IsNewAt t t' r b place) (order : ArePositioned t') (open_since : earlier place oldest ≡ false)
    (a : AreKeptOps t r.hart (Some oldest) kept) where
  abbrev After : Op → Type 0
  After v = IsStoredAfter t r.hart place x v

  in_all : (v : Op) → Contains t.ops v → Contains (everything t') v
  in_all v i = Contains-append_left t'.ops t'.early v (n.retires.ops_on v i)

  b_in : Contains (everything t') b
  b_in = Contains-append_left t'.ops t'.early b (n.retires.added b n.here)

  -- a store after the place is kept
  after_kept : (v : Op) → After v → (m : KeptOp) × IsKeptAfter kept (untimed place) x m × IsKeptAs t v m
  after_kept v p =
      let q = p.0.2 in
      let m = a.all v (p.0.0, p.0.1, (q.0, q.1, place_after place oldest q.0 open_since q.2)) in (
        m.0,
        record {
          here = m.1;
          stores = sym (kept_writes t v m.0 x m.2) ∙ p.1;
          after = ap (comes_before (untimed place)) (kept_at t v m.0 q.0 m.2 q.1)
              ∙ sym (order b v place q.0 b_in (in_all v p.0.0) n.performed q.1) ∙ q.2;
        },
        m.2,
      )

  -- and what is kept after it is one
  kept_is_after : (m : KeptOp) → IsKeptAfter kept (untimed place) x m → (v : Op) × After v × IsKeptAs t v m
  kept_is_after m c =
      let o = a.each m c.here in
      let q = o.1.2 in
      let e = kept_at t o.0 m q.0 o.2 q.1 in (
        o.0,
        (
          (
            o.1.0,
            o.1.1,
            (
              q.0,
              q.1,
              order b o.0 place q.0 b_in (in_all o.0 o.1.0) n.performed q.1
                  ∙ ap (comes_before (untimed place)) (sym e) ∙ c.after,
            ),
          ),
          kept_writes t o.0 m x o.2 ∙ c.stores,
        ),
        o.2,
      )

  none_after : ((m : KeptOp) → IsKeptAfter kept (untimed place) x m → ⊥) → IsLatestIfAny After None
  none_after none v p = let m = after_kept v p in none m.0 m.1

  latest_after : (m : KeptOp) → IsLatestKept kept (untimed place) x m
      → (v : Op) × IsLatestIfAny After (Some v) × IsKeptAs t v m
  latest_after m l =
      let v = kept_is_after m l.kept_after in
      (v.0, record { here = v.1; latest = no_later v.0 v.1 v.2 }, v.2)
    where
      no_later : (v : Op) → After v → IsKeptAs t v m → (u : Op) → After u → precedes v u ≡ false
      no_later v p w u q =
          let k = after_kept u q in
          let pv = p.0.2 in
          let pu = q.0.2 in
          by_place v u pv.0 pu.0 pv.1 pu.1
          ∙ order v u pv.0 pu.0 (in_all v p.0.0) (in_all u q.0.0) pv.1 pu.1
          ∙ sym (ap (λ (z : Position). comes_before z (untimed pu.0)) (kept_at t v m pv.0 w pv.1))
          ∙ sym (ap (comes_before m.place) (kept_at t u k.0 pu.0 k.2 pu.1))
          ∙ l.latest k.0 k.1

-- ---- sources as they are told

source_eq : (a b : ByteSource) → a.writer ≡ b.writer → a.place ≡ b.place → a.byte ≡ b.byte → a ≡ b
source_eq a b p q r = λ i. record { writer = p i; place = q i; byte = r i }

told_waiting : (initial : ℕ → ℕ) (t : Trace) (h below x tag value : ℕ) (v : Op) → IsWaitingBelow t h below x v
    → v.name.tag ≡ tag → put_at v x ≡ value → source_told initial (Some v) x ≡ waiting_source h tag value
told_waiting initial t h below x tag value v p e f =
    source_eq (source_told initial (Some v) x) (waiting_source h tag value) (rw (p.0.1, e) refl)
    (ap (option_map untimed) p.0.2) f

told_kept : (initial : ℕ → ℕ) (t : Trace) (x : ℕ) (v : Op) (m : KeptOp) → IsKeptAs t v m
    → source_told initial (Some v) x ≡ kept_source m x
told_kept initial t x v m a =
    source_eq (source_told initial (Some v) x) (kept_source m x) (rw a.name refl) (sym a.place)
    (rw (a.put, a.extent) refl)

told_memory : (initial : ℕ → ℕ) (P : Op → Type 0) (x : ℕ) (last : Option Writer) (value : ℕ)
    → ((v : Op) → P v → (p : Place) × (v.place ≡ Some p)) → (h : TellsByte initial P x last value)
    → source_told initial h.store x ≡ memory_source last value
told_memory initial P x last value placed h = at h.store h.latest h.told h.byte
  where
    at : (s : Option Op) → IsLatestIfAny P s → last ≡ writer_from s → value ≡ byte_from initial s x
        → source_told initial s x ≡ memory_source last value
    at None l e f = source_eq (source_told initial None x) (memory_source last value) (rw e refl) (rw e refl) (sym f)
    at (Some v) l e f =
        let p = placed v l.here in
        let w : last ≡ Some (record { hart = v.name.hart; tag = v.name.tag; place = untimed p.0 }) =
        e ∙ ap (option_map (λ (q : Place). record { hart = v.name.hart; tag = v.name.tag; place = untimed q })) p.1 in
        source_eq (source_told initial (Some v) x) (memory_source last value) (rw w refl)
        (ap (option_map untimed) p.1 ∙ rw w refl) (sym f)

told_as : (initial : ℕ → ℕ) (x : ℕ) (s m : Option Op) (k : ByteSource) → s ≡ m → source_told initial m x ≡ k
    → source_told initial s x ≡ k
told_as initial x s m k e f = ap (λ (o : Option Op). source_told initial o x) e ∙ f

pub sources_are_told : SourcesAreTold
sources_are_told = record {
  waiting = λ initial t t' r b place x tag value waiting k n a l. (
      let v = waiting_is_told.some t r.hart r.tag x tag value waiting a l in
      told_as initial x (source t' b x) (Some v.0) (waiting_source r.hart tag value)
      (splits t t' r n.new k n.retires b n.here place n.performed x (Some v.0) None None v.1
      (λ e. absurd (let c : Some v.0 ≡ None = e in cc)) (λ e f. absurd (let c : Some v.0 ≡ None = e in cc)))
      (told_waiting initial t r.hart r.tag x tag value v.0 v.1.here v.2 v.3));
  kept = λ initial t t' r b place oldest x waiting kept m k n order since a none c l. (
      let v = latest_after t t' r b place oldest x kept n order since c m l in
      told_as initial x (source t' b x) (Some v.0) (kept_source m x)
      (splits t t' r n.new k n.retires b n.here place n.performed x None (Some v.0) None
      (waiting_is_told.none t r.hart r.tag x waiting a none) (λ e. v.1)
      (λ e f. absurd (let c : Some v.0 ≡ None = f in cc)))
      (told_kept initial t x v.0 m v.2));
  captured = λ initial t t' r b place oldest x waiting kept last value k n order since a none c bare h.
      told_as initial x (source t' b x) h.store (memory_source last value)
      (splits t t' r n.new k n.retires b n.here place n.performed x None None h.store
      (waiting_is_told.none t r.hart r.tag x waiting a none)
      (λ e. none_after t t' r b place oldest x kept n order since c bare) (λ e f. h.latest))
      (told_memory initial (IsStoredBefore t place x) x last value (λ v p. (p.2.0, p.2.1)) h);
}
