-- The atomicity of an SC with its LR.
use Rattle.std.proofs.Common.{ℕ, ◌+◌, ◌-◌, ◌/◌, ◌<◌, ◌≤◌, ◌≡◌, ◌≢◌, inl, inr, Bool, true, false, cond}
use Rattle.std.proofs.Common.{Option, Some, None, option_map, refl, sym, ap, subst, ◌∙◌, arith}
use Rattle.std.proofs.lemmas.Bool.{both_ways, and_parts, cases_Bool, cases_lt, or_left}
use Rattle.std.proofs.lemmas.List.Elements.{Contains-append_left}
use Rattle.std.specs.List.{Contains}
use Rattle.tandem_base.specs.declared.extent.Extent.{Extent}
use Rattle.tandem_base.specs.declared.names.Origin.{Origin}
use Rattle.tandem_base.specs.declared.names.Place.{Place}
use Rattle.tandem_base.specs.declared.names.Position.{Position}
use Rattle.tandem_base.specs.Extents.{is_among}
use Rattle.tandem_base.specs.Places.{comes_before}
use Rattle.rv_decode.specs.Kinds.{is_lr}
use Rattle.rvwmo_model.specs.Atomicity.{IsPair, IsCoveredBy, IsTornAt, WritesBlock, IntrudesBlock}
use Rattle.rvwmo_model.specs.declared.operations.Op.{Op}
use Rattle.rvwmo_model.specs.declared.traces.Trace.{Trace}
use Rattle.rvwmo_model.specs.InsnKinds.{has_stored}
use Rattle.rvwmo_model.specs.Order.{everything, standing, op_loads, has_byte, reads, writes, precedes}
use Rattle.rvwmo_model.specs.ProgramOrder.{insn_of, is_one}
use Rattle.rvwmo_model.specs.Report.{IsTorn, TornBy, byte, block}
use Rattle.rvwmo_model.specs.Sources.{source, key_of}
use Rattle.rvwmo_model.proofs.Extents.{bounds_of}
use Rattle.rvwmo_model.proofs.LookUp.{found_in}
use Rattle.rvwmo_model.proofs.Orders.{not_before_trans}
use Rattle.rvwmo_model.proofs.Tested.{one_some}
use Rattle.growth_laws.proofs.Quiet.{sources_rest}
use Rattle.byte_memory.specs.Captures.{block_base, capture_size}
use Rattle.byte_memory.specs.declared.capture.Foreign.{Foreign}
use Rattle.byte_memory.specs.declared.capture.StoreCapture.{StoreCapture}
use Rattle.byte_memory.specs.declared.writer.Writer.{Writer}
use Rattle.window_laws.specs.Captures.{IsForeignStore, TellsForeignIfAny}
use Rattle.window_laws.specs.declared.source.ByteSource.{ByteSource}
use Rattle.window_laws.specs.Tables.{untimed, source_told}
use Rattle.window_laws.proofs.Placed.{by_place, before_from}
use Rattle.amo_pairing.specs.Breaches.{lies_in, origin_of_writer, store_blamed, blamed_at}
use Rattle.amo_pairing.specs.Breaches.{block_answer, answer_by, NoneBlamed, IsFirstBlamed, IsFirstBreach}
use Rattle.amo_pairing.specs.Breaches.{IsScJudgedIn, IsScJudged, foreign_seen}
use Rattle.amo_pairing.specs.declared.reservation.Breach.{Breach}
use Rattle.amo_pairing.specs.declared.reservation.Reservation.{Reservation}
use Rattle.amo_pairing.specs.declared.sc.Sc.{Sc}
use Rattle.amo_pairing.specs.declared.sc.Sc.TheVariants as sc
use Rattle.amo_pairing.specs.Reservations.{IsOpenLr, IsOfOpenLr, IsReservationOf}
use Rattle.amo_pairing.specs.ScAnswers.{IsScMore, IsScAsked, SaysAtomicity}
use Rattle.amo_pairing.proofs.Blocks.{base_low, base_high, block_on, block_back}
use Rattle.amo_pairing.proofs.Foreigners.{writer_at, writer_is, foreign_told}
use Rattle.amo_pairing.proofs.Opens.{open_once}
use Rattle.amo_pairing.proofs.Pairs.{lies_bounds, lies_covered, open_pair}
use Rattle.amo_pairing.proofs.Stayed.{lr_of, lr_reads, lr_is_placed, byte_in, told_same}
use Rattle.amo_pairing.proofs.Blamed.{added, opened, more as more_of, hart_w as hart_of, fore_on as on_of}
use Rattle.amo_pairing.proofs.Blamed.{from_foreign, Shows, Verdict, verdict}

module _ (initial : ℕ → ℕ) (t t' : Trace) (w : Op) (held : Option Reservation) (h : ℕ) (extent : Extent)
    (seen : StoreCapture) (a : IsScAsked initial t t' w held h extent seen) where
  more : IsScMore t t' a.r w
  more = more_of initial t t' w held h extent seen a

  hart_w : w.name.hart ≡ h
  hart_w = hart_of initial t t' w held h extent seen a

  fore_on : (v : Op) → v.name.hart ≢ h → Contains (everything t) v → Contains (everything t') v
  fore_on = on_of initial t t' w held h extent seen a

  abbrev Shown : Op → ℕ → Type 0
  Shown l x = Shows initial t t' w held h extent seen a l x

  abbrev Judges : Op → ℕ → Option Origin → Type 0
  Judges l x b = Verdict initial t t' w held h extent seen a l x b

  module _ (l : Op) (o : IsOfOpenLr t h l) (kept : Reservation) (r : IsReservationOf initial t l kept) where
    pub pair : IsPair t' l w
    pair =
        open_pair t t' a.r w more l o.here (o.hart ∙ sym a.one_hart)
        (subst (λ (g : ℕ). IsOpenLr t g l.name.tag) (sym a.one_hart) o.latest)

    -- no other LR is in a pair with the SC
    pub pair_once : (n : Op) → IsPair t' n w → n ≡ l
    pair_once n p =
        let v = one_some is_lr (insn_of t l) (lr_of t h l o) in
        let f = found_in t.insns l.name.hart l.name.tag v.0 v.1 in
        let one = a.kinded.form.single v.0 f.0 (or_left (is_one is_lr (Some v.0)) (has_stored (Some v.0)) v.2) in
        let tag = open_once t h n.name.tag l.name.tag (opened initial t t' w held h extent seen a n p) o.latest in
        let hart = sym p.one_hart ∙ hart_w ∙ sym o.hart in
        one.3 n there (hart ∙ sym f.1, tag ∙ sym f.2) ∙ sym (one.3 l o.here (sym f.1, sym f.2))
      where
        there : Contains t.ops n
        there = elim (more.ops_back n p.lr_in) [
          | inl same ↦ absurd (let b = p.in_order in omega (arith, ap (λ (z : Op). z.name.tag) same))
          | inr i ↦ i
        ]

    -- so its bytes are among those of the LR
    pub lies : lies_in extent kept.extent ≡ true
    lies =
        let p = (added initial t t' w held h extent seen a).1.pair a.conditional in
        let c = subst (λ (z : Op). IsCoveredBy w z) (pair_once p.0 p.1) p.2 in
        let q = lies_covered w l a.whole c in
        subst (λ (z : Extent). lies_in z kept.extent ≡ true) a.one_extent
        (subst (λ (z : Extent). lies_in w.extent z ≡ true) (sym r.extent) q)

    bounds : (l.extent.addr ≤ extent.addr) × (extent.addr + extent.len ≤ l.extent.addr + l.extent.len)
    bounds = lies_bounds extent l.extent (subst (λ (z : Extent). lies_in extent z ≡ true) r.extent lies)

    reads_bounds : (y : ℕ) → reads y l ≡ true → (l.extent.addr ≤ y) × (y < l.extent.addr + l.extent.len)
    reads_bounds y q =
        let b = (and_parts (op_loads l) (has_byte y l) q).1 in
        bounds_of l.extent y (and_parts (is_among l.extent.addr l.extent.len y) _ b).0

    byte_verdict : (k : ℕ) → k < l.extent.len → Judges l (l.extent.addr + k) (blamed_at kept h seen k)
    byte_verdict k less =
        let x = l.extent.addr + k in
        let st = source_told initial (source t' l x) x in
        let told = r.sources k less
        ∙ sym (told_same initial t t' l x (sources_rest t t' l x a.kinded
        (inr (inr (a.r, a.new.new, a.new.retires))) o.here (lr_reads t h l x a.kinded o (byte_in l k less)))) in
        let same : blamed_at kept h seen k ≡ store_blamed st (untimed a.place) (foreign_seen seen h x) =
        ap (λ (z : ByteSource). store_blamed z seen.seen.place (foreign_seen seen h (kept.extent.addr + k))) told
        ∙ ap (λ (z : Position). store_blamed st z (foreign_seen seen h (kept.extent.addr + k))) a.captured.seen.taken
        ∙ ap (λ (z : Extent). store_blamed st (untimed a.place) (foreign_seen seen h (z.addr + k))) r.extent in
        let low : seen.seen.base ≤ x = subst (λ (b : ℕ). b ≤ x) (sym a.captured.seen.base)
        (base_low extent l.extent o.aligned bounds.0 bounds.1 x (omega arith)) in
        let high : x < seen.seen.base + capture_size extent =
        subst (λ (b : ℕ). x < b + capture_size extent) (sym a.captured.seen.base)
        (base_high extent l.extent o.aligned bounds.0 bounds.1 x (omega arith)) in
        subst (λ (b : Option Origin). Judges l x b) (sym same)
        (verdict initial t t' w held h extent seen a l x (foreign_seen seen h x)
        (foreign_told initial t a.place extent h t.granule seen h x a.captured low high))

    -- where no store is blamed, the pair is atomic
    not_torn : (k y : ℕ) → k < l.extent.len → l.extent.addr + k ≡ y → blamed_at kept h seen k ≡ None
        → IsTornAt t' l w y → ⊥
    not_torn k y less e b torn = elim (byte_verdict k less) [
      | inl v ↦ (let c : Some (key_of v.0) ≡ None = sym v.1 ∙ b in cc)
      | inr v ↦ v.1 (subst (λ (z : ℕ). Shown l z) (sym e) torn.1)
    ]

    -- ---- the lowest byte that shows it

    by_byte : (b : Breach) → IsFirstBlamed kept h seen b → SaysAtomicity t' w (sc.Atomicity b.at b.store)
    by_byte b f = elim (byte_verdict b.byte less) [
      | inr v ↦ absurd (let c : Some b.store ≡ None = sym f.blamed ∙ v.0 in cc)
      | inl v ↦
          let c : Some (key_of v.0) ≡ Some b.store = sym v.1 ∙ f.blamed in
          let key : key_of v.0 ≡ b.store = cc in (
            l,
            v.0,
            record { pair = pair; torn = inl (l.extent.addr + b.byte, torn v.3) },
            subst (λ (z : ℕ). TornBy t' l w z v.0) (sym here)
                (byte (l.extent.addr + b.byte) v.0 (record { here = torn v.3; lowest = lowest }) v.2),
            key,
          )
    ]
      where
        less : b.byte < l.extent.len
        less = subst (λ (z : Extent). b.byte < z.len) r.extent f.inside

        here : b.at ≡ l.extent.addr + b.byte
        here = f.here ∙ ap (λ (z : Extent). z.addr + b.byte) r.extent

        torn : Shown l (l.extent.addr + b.byte) → IsTornAt t' l w (l.extent.addr + b.byte)
        torn sh = (
          lr_reads t h l (l.extent.addr + b.byte) a.kinded o (byte_in l b.byte less),
          sh,
        )

        lowest : (y : ℕ) → IsTornAt t' l w y → l.extent.addr + b.byte ≤ y
        lowest y q = elim (cases_lt y (l.extent.addr + b.byte)) [
          | inr m ↦ m
          | inl below ↦ absurd (
              let i = reads_bounds y q.0 in
              let k = y - l.extent.addr in
              let smaller : k < b.byte = omega (arith, i.0, below) in
              let inside : k < l.extent.len = omega (arith, i.0, i.1) in
              let there : l.extent.addr + k ≡ y = omega (arith, i.0) in
              not_torn k y inside there (f.first k smaller) q)
        ]

    -- ---- the block

    no_torn_byte : NoneBlamed kept h seen → (y : ℕ) → IsTornAt t' l w y → ⊥
    no_torn_byte none y q =
        let b = reads_bounds y q.0 in
        let k = y - l.extent.addr in
        let less : k < l.extent.len = omega (arith, b.0, b.1) in
        not_torn k y less (omega (arith, b.0)) (none k (subst (λ (z : Extent). k < z.len) (sym r.extent) less)) q

    fine : ((y : ℕ) → IsTornAt t' l w y → ⊥) → ((v : Op) → IntrudesBlock t' l w v → ⊥) → IsTorn t' w → ⊥
    fine none free torn =
        let same = pair_once torn.0 torn.1.pair in
        elim torn.1.torn [
          | inl z ↦ none z.0 (subst (λ (n : Op). IsTornAt t' n w z.0) same z.1)
          | inr z ↦ free z.0 (subst (λ (n : Op). IntrudesBlock t' n w z.0) same z.1)
        ]

    -- v is a store of another hart to the block before the SC
    abbrev Near : Op → Type 0
    Near v = IsForeignStore t a.place h (block_base extent.addr t.granule) t.granule v

    granule : t'.granule ≡ t.granule
    granule = a.new.retires.keeps.granule

    among : (v : Op) (y : ℕ) → WritesBlock t' l v y
        → is_among (block_base extent.addr t.granule) t.granule y ≡ true
    among v y q =
        block_back extent l.extent o.aligned bounds.0 bounds.1 t.granule y a.kinded.form.granule
        (subst (λ (g : ℕ). 0 < g) granule q.1.0)
        (subst (λ (g : ℕ). y / g ≡ l.extent.addr / g) granule q.1.1)

    near : (v : Op) → IntrudesBlock t' l w v → Near v
    near v i = (
      i.stores.0,
      among v i.stores.0 i.stores.1,
      from_foreign initial t t' w held h extent seen a i.stores.0 v i.store_in i.stores.1.0 i.other i.before,
    )

    writes_there : (v : Op) (y : ℕ) → is_among (block_base extent.addr t.granule) t.granule y ≡ true
        → writes y v ≡ true → WritesBlock t' l v y
    writes_there v y q e =
        let b = block_on extent l.extent o.aligned bounds.0 bounds.1 t.granule y a.kinded.form.granule q in (
          e,
          (
            subst (λ (g : ℕ). 0 < g) (sym granule) b.0,
            subst (λ (g : ℕ). y / g ≡ l.extent.addr / g) (sym granule) b.1,
          ),
        )

    by_block : ((y : ℕ) → IsTornAt t' l w y → ⊥) → (found : Option Foreign)
        → TellsForeignIfAny t a.place h (block_base extent.addr t.granule) t.granule found
        → SaysAtomicity t' w (block_answer kept.place found)
    by_block none None free = λ torn. fine none (λ v i. free v (near v i)) torn
    by_block none (Some f) tells = elim (cases_Bool (precedes l tells.store)) [
      | inl d ↦ subst (λ (z : Bool). SaysAtomicity t' w
          (cond z (sc.Atomicity f.at (origin_of_writer f.writer)) sc.Fine)) (sym (order ∙ d)) (
            l,
            tells.store,
            record { pair = pair; torn = inr (tells.store, broken d) },
            block f.at tells.store none
                (record { here = broken d; latest = λ u i. tells.latest.latest u (near u i) })
                (record {
                  here = writes_there tells.store f.at tells.lowest.here.0 tells.lowest.here.1;
                  lowest = λ y q. tells.lowest.lowest y (among tells.store y q, q.0);
                }),
            ap origin_of_writer (sym writer),
          )
      | inr d ↦ subst (λ (z : Bool). SaysAtomicity t' w
          (cond z (sc.Atomicity f.at (origin_of_writer f.writer)) sc.Fine)) (sym (order ∙ d))
          (λ torn. fine none (λ v i. both_ways _
          (not_before_trans (standing l) (standing tells.store) (standing v) d (tells.latest.latest v (near v i)))
          i.after) torn)
    ]
      where
        p : Near tells.store
        p = tells.latest.here

        placed : (q : Place) × (tells.store.place ≡ Some q)
        placed = (p.2.0.2.0, p.2.0.2.1)

        writer : f.writer ≡ writer_at tells.store placed.0
        writer =
            let c : Some f.writer ≡ Some (writer_at tells.store placed.0) =
            sym tells.told ∙ writer_is tells.store placed.0 placed.1 in
            cc

        lr_place : (q : Place) × (l.place ≡ Some q)
        lr_place = lr_is_placed t h l a.kinded o

        kept_place : kept.place ≡ untimed lr_place.0
        kept_place =
            let c : Some kept.place ≡ Some (untimed lr_place.0) = r.place ∙ ap (option_map untimed) lr_place.1 in
            cc

        order : comes_before kept.place f.writer.place ≡ precedes l tells.store
        order =
            ap (λ (z : Position). comes_before z f.writer.place) kept_place
            ∙ ap (λ (z : Writer). comes_before (untimed lr_place.0) z.place) writer
            ∙ sym (a.positioned l tells.store lr_place.0 placed.0 (Contains-append_left t'.ops t'.early l pair.lr_in)
            (fore_on tells.store p.2.1 p.2.0.0) lr_place.1 placed.1)
            ∙ sym (by_place l tells.store lr_place.0 placed.0 lr_place.1 placed.1)

        broken : precedes l tells.store ≡ true → IntrudesBlock t' l w tells.store
        broken d = record {
          store_in = fore_on tells.store p.2.1 p.2.0.0;
          stores = (f.at, writes_there tells.store f.at tells.lowest.here.0 tells.lowest.here.1);
          other = λ e. p.2.1 (e ∙ hart_w);
          after = d;
          before = before_from tells.store w a.place a.new.performed p.2.0.2;
        }

    by_found : (found : Option Breach) → IsFirstBreach kept h seen found
        → SaysAtomicity t' w (answer_by found (block_answer kept.place seen.foreign))
    by_found None none = by_block (no_torn_byte none) seen.foreign a.captured.foreign
    by_found (Some b) f = by_byte b f

    pub says_atomicity : (answer : Sc) → IsScJudged kept h extent seen answer → SaysAtomicity t' w answer
    says_atomicity answer = at (lies_in extent kept.extent) refl
      where
        at : (b : Bool) → lies_in extent kept.extent ≡ b → IsScJudgedIn b kept h seen answer → SaysAtomicity t' w answer
        at false q e = absurd (both_ways _ q lies)
        at true q e = subst (λ (z : Sc). SaysAtomicity t' w z) (sym e.2) (by_found e.0 e.1)
