-- Rule 1 by what waits and what the bytes answer.
use Rattle.std.proofs.Common.{ℕ, ◌+◌, ◌≤◌, ◌<◌, ◌≡◌, inl, inr, Bool, true, false, cond, List, find, Option, Some, None}
use Rattle.std.proofs.Common.{option_map, refl, sym, ap, subst, ◌∙◌, arith}
use Rattle.std.proofs.lemmas.Bool.{both_ways, and_parts, and_from}
use Rattle.tandem_base.specs.declared.extent.Extent.{Extent}
use Rattle.tandem_base.specs.declared.mark.Mark.{Mark}
use Rattle.tandem_base.specs.declared.names.OpName.{OpName}
use Rattle.tandem_base.specs.Extents.{is_among}
use Rattle.rvwmo_model.specs.declared.operations.Op.{Op}
use Rattle.rvwmo_model.specs.declared.preserved.Rule.TheVariants.{R1}
use Rattle.rvwmo_model.specs.declared.traces.Trace.{Trace}
use Rattle.rvwmo_model.specs.Order.{standing, kind_stores, op_stores, has_byte, writes}
use Rattle.rvwmo_model.specs.InForm.{IsPlaced}
use Rattle.rvwmo_model.specs.Legal.{Legal}
use Rattle.growth_laws.proofs.Facts.{plain_kind}
use Rattle.growth_laws.proofs.Places.{place_cases, placed_first}
use Rattle.kept_ops.specs.declared.operation.KeptOp.{KeptOp}
use Rattle.kept_ops.specs.Operations.{stores_at}
use Rattle.kept_ops.specs.Tables.{KeptTable}
use Rattle.store_buffer.specs.declared.store.Store.{Store}
use Rattle.store_buffer.specs.Stores.{StoreList, store_of_tag}
use Rattle.store_buffer.specs.Waiting.{waiting_below, waiting_name}
use Rattle.window_laws.specs.declared.source.ByteSource.{ByteSource}
use Rattle.window_laws.specs.Waiting.{IsWaiting}
use Rattle.window_laws.proofs.Latests.{latest_same}
use Rattle.rule_laws.specs.Above.{Over, later_of}
use Rattle.rule_laws.specs.Firsts.{IsFirstOver}
use Rattle.rule_laws.specs.Named.{NamesFirst}
use Rattle.rule_laws.specs.Own.{IsOwn, IsOwnPerformed, IsOwnWaiting}
use Rattle.rule_laws.proofs.Candidates.{latest_by_tag, own_older}
use Rattle.rule_laws.proofs.FirstTold.{first_is_latest}
use Rattle.rule_laws.proofs.LatestOver.{mark_first}
use Rattle.rule_laws.proofs.OverlapRule.{overlap_byte}
use Rattle.overlap_rules.specs.declared.asked.Question.TheVariants as question
use Rattle.overlap_rules.specs.Answers.{found_op, kept_store, kept_load, overlap_at, answer_at}
use Rattle.overlap_rules.specs.Found.{MarksLatest, later_found, latest_found}
use Rattle.overlap_rules.specs.Questions.{IsAskedBy}
use Rattle.overlap_rules.proofs.KeptLatest.{kept_stores, kept_marks, stays_on, byte_within}
use Rattle.overlap_rules.proofs.KeptLatest.{StoredOver, stores_over, store_latest}
use Rattle.overlap_rules.proofs.KeptLatest.{LoadedOver, loads_over, load_latest, since_of}
use Rattle.overlap_rules.proofs.MarkTold.{later_told, none_told, told_same, named_latest}
use Rattle.overlap_rules.proofs.Naming.{by_address}
use Rattle.overlap_rules.proofs.WaitingOver.{is_over, found_newer, found_waits, named_waiting}

module _ (t t' : Trace) (b : Op) (fresh : KeptOp) (stores : StoreList) (kept : KeptTable)
    (a : IsAskedBy t t' b fresh stores kept) where
  abbrev H : ℕ
  H = b.name.hart

  -- v is an operation of the hart that waits, and has a byte that b stores to
  abbrev pub WaitsOver : Op → Type 0
  WaitsOver v = IsOwnWaiting t H v × ((x : ℕ) × (has_byte x v ≡ true) × (writes x b ≡ true))

  -- v has byte x, which b stores to, and was performed after b
  abbrev pub PerformedOver : ℕ → Op → Type 0
  PerformedOver x v = (writes x b ≡ true) × Over (λ u. IsOwnPerformed t H u × (has_byte x u ≡ true)) (standing b) v

  -- ---- where nothing waits over b

  module _ (initial : ℕ → ℕ) (legal : Legal initial t) (none : (v : Op) → WaitsOver v → ⊥) where
    placed_over : (x : ℕ) → writes x b ≡ true → (v : Op) → IsOwn t H v → has_byte x v ≡ true → IsPlaced v
    placed_over x w v own h = elim (place_cases v) [ inl p ↦ p | inr e ↦ absurd (none v ((own, e), (x, h, w))) ]

    overlap_told : (x : ℕ) → MarksLatest t (PerformedOver x) (overlap_at fresh kept x)
    overlap_told x = at (stores_at x fresh) refl
      where
        st : MarksLatest t (StoredOver t t' b fresh stores kept a x) (found_op (kept_store kept x fresh.place))
        st = kept_marks t kept.ops (stores_over t t' b fresh stores kept a x) (StoredOver t t' b fresh stores kept a x)
            (kept_store kept x fresh.place) (store_latest t t' b fresh stores kept a x)

        ld : MarksLatest t (LoadedOver t t' b fresh stores kept a x) (found_op (kept_load kept x fresh.place))
        ld = kept_marks t (since_of t t' b fresh stores kept a x) (loads_over t t' b fresh stores kept a x)
            (LoadedOver t t' b fresh stores kept a x) (kept_load kept x fresh.place)
            (load_latest t t' b fresh stores kept a x)

        both : writes x b ≡ true → MarksLatest t (Over (λ u. IsOwnPerformed t H u × (has_byte x u ≡ true)) (standing b))
            (later_found (found_op (kept_store kept x fresh.place)) (found_op (kept_load kept x fresh.place)))
        both w = record {
          op = later_of st.op ld.op;
          latest = overlap_byte t t' a.r a.new.new a.kinded a.new.retires b a.new.here a.new.performed initial legal x
              st.op ld.op (placed_over x w) st.latest ld.latest;
          told = later_told t t' (stays_on t t' b fresh stores kept a) a.positioned st.op ld.op
              (found_op (kept_store kept x fresh.place)) (found_op (kept_load kept x fresh.place)) st.told ld.told;
        }

        at : (z : Bool) → stores_at x fresh ≡ z
            → MarksLatest t (PerformedOver x)
            (cond z (later_found (found_op (kept_store kept x fresh.place)) (found_op (kept_load kept x fresh.place)))
            None)
        at true e =
            let w : writes x b ≡ true = sym (kept_stores t' b fresh x a.told) ∙ e in
            told_same t (Over (λ u. IsOwnPerformed t H u × (has_byte x u ≡ true)) (standing b)) (PerformedOver x)
            (later_found (found_op (kept_store kept x fresh.place)) (found_op (kept_load kept x fresh.place)))
            (λ v p. (w, p)) (λ v p. p.1) (both w)
        at false e = none_told t (PerformedOver x)
            (λ v p. both_ways (writes x b) (sym (kept_stores t' b fresh x a.told) ∙ e) p.0)

    pub names_performed_over : (sources : List ByteSource)
        → NamesFirst R1 t' b
        (option_map (λ m. m.name)
        (latest_found (answer_at question.Overlap fresh sources stores.stores kept) fresh.extent.len))
    names_performed_over sources =
        let h : MarksLatest t (λ v. (x : ℕ) × PerformedOver x v)
        (latest_found (answer_at question.Overlap fresh sources stores.stores kept) fresh.extent.len) =
        by_address t t' b fresh stores kept a PerformedOver (answer_at question.Overlap fresh sources stores.stores
        kept)
        (λ x v p. (and_parts (op_stores b) (has_byte x b) p.0).1) (λ k l. overlap_told (fresh.extent.addr + k)) in
        let n = named_latest t (λ v. (x : ℕ) × PerformedOver x v)
        (latest_found (answer_at question.Overlap fresh sources stores.stores kept) fresh.extent.len) h in (
          n.0,
          first_is_latest R1 t t' a.r b n.0 a.kinded a.new
              (mark_first (IsFirstOver R1 t t' b) None n.0 (λ v p. none v ((p.0.0.0, p.1), p.0.0.1))
              (λ e. latest_same (λ v. (x : ℕ) × PerformedOver x v) (λ v. IsFirstOver R1 t t' b v × IsPlaced v) n.0
              (λ v p. (((p.1.1.0.0.0, (p.0, p.1.1.0.1, p.1.0)), p.1.1.1), p.1.1.0.0.1))
              (λ v p. (p.0.0.1.0, (p.0.0.1.2, (((p.0.0.0, p.1), p.0.0.1.1), p.0.1)))) n.1)),
          n.2,
        )

  -- ---- what waits over b

  over_here : (x : ℕ) → writes x b ≡ true → is_among fresh.extent.addr fresh.extent.len x ≡ true
  over_here x w = subst (λ (z : Extent). is_among z.addr z.len x ≡ true) (sym a.told.extent)
      (byte_within x b (and_parts (op_stores b) (has_byte x b) w).1)

  older_tag : (v : Op) → IsOwn t H v → v.name.tag < fresh.name.tag
  older_tag v o = subst (λ (n : OpName). v.name.tag < n.tag) (sym a.told.name)
      (own_older t t' a.r a.new.new a.kinded a.new.retires v b o.0 a.new.here o.1)

  -- what waits is a store
  is_waiting : (v : Op) (x : ℕ) → IsOwnWaiting t H v → has_byte x v ≡ true → IsWaiting t H x v
  is_waiting v x w h =
      let s : op_stores v ≡ true =
      ap kind_stores (plain_kind t v a.kinded w.0.0 (a.kinded.unperformed v w.0.0 w.1)) in
      (w.0.0, w.0.1, w.1, and_from _ _ s h)

  abbrev pub passes_over_b : Store → Bool
  passes_over_b = is_over t a.kinded H a.oldest stores a.waiting fresh.name.tag fresh.extent

  newer_over : (v : Op) → WaitsOver v
      → (s : Store) × (find passes_over_b stores.stores ≡ Some s) × (v.name.tag ≤ s.tag)
  newer_over v w = found_newer t a.kinded H a.oldest stores a.waiting fresh.name.tag fresh.extent v w.1.0
      (is_waiting v w.1.0 w.0 w.1.1) (older_tag v w.0.0) (over_here w.1.0 w.1.2)

  pub none_over : find passes_over_b stores.stores ≡ None → (v : Op) → WaitsOver v → ⊥
  none_over e v w =
      let n = newer_over v w in
      let c : Some n.0 ≡ None = sym n.1 ∙ e in
      cc

  pub names_waiting : (s : Store) → op_stores b ≡ true → find passes_over_b stores.stores ≡ Some s
      → NamesFirst R1 t' b (Some (waiting_name stores.hart s))
  names_waiting s stores_it e = (
    Some f.0,
    first_is_latest R1 t t' a.r b (Some f.0) a.kinded a.new
        (mark_first (IsFirstOver R1 t t' b) (Some f.0) None
        (latest_same WaitsOver (λ v. IsFirstOver R1 t t' b v × (v.place ≡ None)) (Some f.0)
        (λ v q. (((q.0.0, q.1), placed_first b v a.new.performed q.0.1), q.0.1))
        (λ v p. ((p.0.0.0, p.1), p.0.0.1)) (latest_by_tag WaitsOver H f.0 (λ u q. (q.0.1, q.0.0.1)) here most))
        (λ g. absurd (cc))),
    ap (λ (n : OpName). Some n) (named_waiting t a.kinded H a.oldest stores a.waiting f.0 s f.1 f.2 f.3 f.5),
  )
    where
      f : (v : Op) × (x : ℕ) × IsWaiting t H x v × (v.name.tag ≡ s.tag)
          × (is_among fresh.extent.addr fresh.extent.len x ≡ true) × (store_of_tag s.tag stores.stores ≡ Some s)
      f = found_waits t a.kinded H a.oldest stores a.waiting fresh.name.tag fresh.extent s e

      whole_at : (x : ℕ) → is_among fresh.extent.addr fresh.extent.len x ≡ true → has_byte x b ≡ true
      whole_at x i = a.whole stores_it x (subst (λ (z : Extent). is_among z.addr z.len x ≡ true) a.told.extent i)

      here : WaitsOver f.0
      here = (
        ((f.2.0, f.2.1), f.2.2),
        (
          f.1,
          (and_parts (op_stores f.0) (has_byte f.1 f.0) f.2.3).1,
          and_from _ _ stores_it (whole_at f.1 f.4),
        ),
      )

      most : (u : Op) → WaitsOver u → u.name.tag ≤ f.0.name.tag
      most u q =
          let n = newer_over u q in
          let same : n.0 ≡ s = (let c : Some n.0 ≡ Some s = sym n.1 ∙ e in cc) in
          let l : u.name.tag ≤ n.0.tag = n.2 in
          omega (arith, l, ap (λ (z : Store). z.tag) same, f.3)

  -- ---- the answers

  pub names_found : (name : OpName) → kind_stores fresh.kind ≡ true
      → Some name ≡ waiting_below stores.hart stores.stores fresh.name.tag (Some fresh.extent)
      → NamesFirst R1 t' b (Some name)
  names_found name q e = at (find passes_over_b stores.stores) refl e
    where
      at : (o : Option Store) → find passes_over_b stores.stores ≡ o
          → Some name ≡ option_map (waiting_name stores.hart) o → NamesFirst R1 t' b (Some name)
      at None f g = absurd (cc)
      at (Some s) f g =
          subst (λ (o : Option OpName). NamesFirst R1 t' b o) (sym g)
          (names_waiting s (ap kind_stores (sym a.told.kind) ∙ q) f)

  pub names_else : (initial : ℕ → ℕ) → Legal initial t
      → None ≡ waiting_below stores.hart stores.stores fresh.name.tag (Some fresh.extent)
      → (sources : List ByteSource)
      → NamesFirst R1 t' b
      (option_map (λ m. m.name)
      (latest_found (answer_at question.Overlap fresh sources stores.stores kept) fresh.extent.len))
  names_else initial legal e sources = at (find passes_over_b stores.stores) refl e
    where
      at : (o : Option Store) → find passes_over_b stores.stores ≡ o
          → None ≡ option_map (waiting_name stores.hart) o
          → NamesFirst R1 t' b (option_map (λ m. m.name)
          (latest_found (answer_at question.Overlap fresh sources stores.stores kept) fresh.extent.len))
      at None f g = names_performed_over initial legal (none_over f) sources
      at (Some s) f g = absurd (cc)
