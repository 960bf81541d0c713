-- The loads of a byte since a store to it retired, while a trace grows.
use Rattle.std.proofs.Common.{ℕ, ◌+◌, ◌≡◌, ◌⊎◌, inl, inr, true, false, List, [], ◌∷◌, Option, Some, None, option_map}
use Rattle.std.proofs.Common.{refl, sym, ap, subst, ◌∙◌}
use Rattle.std.specs.List.{Contains, filter}
use Rattle.std.proofs.lemmas.Bool.{both_ways, and_parts}
use Rattle.std.proofs.lemmas.List.Elements.{Contains-append_cases, Contains-append_left, Contains-append_right}
use Rattle.tandem_base.specs.declared.names.Place.{Place}
use Rattle.tandem_base.specs.Places.{earlier, comes_before}
use Rattle.rv_decode.specs.Kinds.{is_amo_or_sc}
use Rattle.rvwmo_model.specs.declared.instructions.Retired.{Retired}
use Rattle.rvwmo_model.specs.declared.operations.Op.{Op}
use Rattle.rvwmo_model.specs.declared.traces.Trace.{Trace}
use Rattle.rvwmo_model.specs.Order.{op_loads, op_stores, has_byte, reads, writes}
use Rattle.rvwmo_model.specs.ProgramOrder.{is_one}
use Rattle.rvwmo_model.specs.Sources.{origin}
use Rattle.rvwmo_model.specs.InForm.{IsPlaced}
use Rattle.rvwmo_model.proofs.Membership.{nothing_in, first_in, tail_in, in_cases, in_filter, from_filter}
use Rattle.growth_laws.specs.Kinds.{WellKinded}
use Rattle.growth_laws.specs.Growth.{SameMembers, AddInsn, Growth, grow_same, grow_early, grow_insn}
use Rattle.growth_laws.specs.Growth.{grow_stores, no_growth, more_growth}
use Rattle.growth_laws.proofs.Chains.{stable_sources}
use Rattle.growth_laws.proofs.Comings.{chain_insns}
use Rattle.growth_laws.proofs.Facts.{load_placed}
use Rattle.growth_laws.proofs.Growths.{growth_chain}
use Rattle.growth_laws.proofs.Quiet.{sources_rest}
use Rattle.kept_ops.specs.declared.operation.KeptOp.{KeptOp}
use Rattle.kept_ops.specs.Operations.{loads_at}
use Rattle.kept_ops.specs.Tables.{IsWith, op_stays}
use Rattle.window_laws.specs.Keeping.{IsRecent, IsKeptAs}
use Rattle.window_laws.specs.Tables.{untimed}
use Rattle.rule_laws.specs.ByteMarkLaws.{NoneStores, IsLoadIn}
use Rattle.rule_laws.specs.TwoMarks.{LoadsLast}
use Rattle.rule_laws.proofs.KeptTwo.{last_after, last_old, last_new, stores_last}
use Rattle.overlap_rules.specs.Since.{IsRecentLoad, AreLoadsSince}
use Rattle.overlap_rules.specs.SinceLaws.{IsKeptRecent, LoadsSinceGoOn}

-- ---- one more in the list

module _ (m : KeptOp) (old new : List KeptOp) (w : IsWith m old new) where
  with_on : (o : KeptOp) → Contains old o → Contains new o
  with_on o i = subst (λ (l : List KeptOp). Contains l o) (sym w.is)
      (elim (Contains-append_cases w.front w.back o (subst (λ (l : List KeptOp). Contains l o) w.was i)) [
        | inl f ↦ Contains-append_left w.front (m ∷ w.back) o f
        | inr b ↦ Contains-append_right w.front (m ∷ w.back) o (tail_in m w.back o b)
      ])

  with_it : Contains new m
  with_it = subst (λ (l : List KeptOp). Contains l m) (sym w.is)
      (Contains-append_right w.front (m ∷ w.back) m (first_in m w.back m refl))

  with_back : (o : KeptOp) → Contains new o → (o ≡ m) ⊎ Contains old o
  with_back o i =
      elim (Contains-append_cases w.front (m ∷ w.back) o (subst (λ (l : List KeptOp). Contains l o) w.is i)) [
        | inl f ↦ inr (subst (λ (l : List KeptOp). Contains l o) (sym w.was) (Contains-append_left w.front w.back o f))
        | inr b ↦ elim (in_cases m w.back o b) [
          | inl e ↦ inl e
          | inr r ↦ inr (subst (λ (l : List KeptOp). Contains l o) (sym w.was)
              (Contains-append_right w.front w.back o r))
        ]
      ]

-- ---- what was there stays

recent_in : (t t' : Trace) (h : ℕ) (oldest : Option Place) (o : Op) → Contains t'.ops o → IsRecent t h oldest o
    → IsRecent t' h oldest o
recent_in t t' h None o i r = absurd r
recent_in t t' h (Some q) o i r = (i, r.1, r.2)

module _ (t t' : Trace) (h x : ℕ) (oldest : Option Place) (k : WellKinded t) (g : Growth t t')
    (rest : (o : Op) (y : ℕ) → Contains t.ops o → reads y o ≡ true → origin t' o y ≡ origin t o y) where
  still_kept : (o : Op) (m : KeptOp) → Contains t.ops o → IsPlaced o → IsKeptAs t o m → IsKeptAs t' o m
  still_kept o m i p a = record {
    name = a.name;
    place = a.place;
    kind = a.kind;
    extent = a.extent;
    mask = a.mask;
    put = a.put;
    atomic = a.atomic
        ∙ ap (is_one is_amo_or_sc) (sym (chain_insns t t' (growth_chain t t' k g) o i p o.name.tag (inr refl)));
    sources = λ n q. a.sources n q ∙ sym (rest o (o.extent.addr + n) i q);
  }

  placed_load : (v : Op) → LoadsLast t h x v → IsPlaced v
  placed_load v p = load_placed t v k p.0.0 (and_parts (op_loads v) (has_byte x v) p.1).0

  -- an old load and what it is kept as, in the new trace
  load_on : (v : Op) (m : KeptOp) → IsRecentLoad t h oldest x v → LoadsLast t' h x v → IsKeptAs t v m
      → IsRecentLoad t' h oldest x v × IsKeptAs t' v m
  load_on v m p l a =
      ((recent_in t t' h oldest v l.0.0 p.0, l), still_kept v m p.1.0.0 (placed_load v p.1) a)

  same_loads : (since : List KeptOp) → ((v : Op) → LoadsLast t h x v → LoadsLast t' h x v)
      → ((v : Op) → LoadsLast t' h x v → LoadsLast t h x v) → AreLoadsSince t h oldest x since
      → AreLoadsSince t' h oldest x since
  same_loads since on back s = record {
    each = λ m i q. (let e = s.each m i q in let n = load_on e.0 m e.1 (on e.0 e.1.1) e.2 in (e.0, n.0, n.1));
    all = λ v p. (let l = back v p.1 in
        let o : IsRecentLoad t h oldest x v = (recent_in t' t h oldest v l.0.0 p.0, l) in
        let m = s.all v o in
        (m.0, m.1, (load_on v m.0 o p.1 m.2).1));
  }

members_on : (t t' : Trace) (h x : ℕ) → SameMembers t.ops t'.ops → (v : Op) → LoadsLast t h x v → LoadsLast t' h x v
members_on t t' h x ops v p = ((ops.on v p.0.0, p.0.1), p.1, λ o own l. p.2 o (ops.back o own.0, own.1) l)

members_back : (t t' : Trace) (h x : ℕ) → SameMembers t.ops t'.ops → (v : Op) → LoadsLast t' h x v → LoadsLast t h x v
members_back t t' h x ops v p = ((ops.back v p.0.0, p.0.1), p.1, λ o own l. p.2 o (ops.on o own.0, own.1) l)

-- ---- an instruction more

module _ (t t' : Trace) (r : Retired) (new : List Op) (h x : ℕ) (oldest : Option Place) (k : WellKinded t)
    (s : AddInsn t t' r new) where
  insn_rests : (o : Op) (y : ℕ) → Contains t.ops o → reads y o ≡ true → origin t' o y ≡ origin t o y
  insn_rests o y i q = (sources_rest t t' o y k (inr (inr (r, new, s))) i q).store

  -- two new operations with byte x are one
  same_new : (v c : Op) → Contains new v → Contains new c → has_byte x v ≡ true → has_byte x c ≡ true → v ≡ c
  same_new v c i j p q = s.are_of.disjoint v c x i j p q

  byte_loaded : (v : Op) → reads x v ≡ true → has_byte x v ≡ true
  byte_loaded v q = (and_parts (op_loads v) (has_byte x v) q).1

  noted_load : (since longer : List KeptOp) (c : Op) (m : KeptOp) → NoneStores new h x → IsLoadIn new h x c
      → IsKeptRecent t' h oldest c m → IsWith m since longer → AreLoadsSince t h oldest x since
      → AreLoadsSince t' h oldest x longer
  noted_load since longer c m none load kept w a = record { each = each; all = all }
    where
      it : IsRecentLoad t' h oldest x c × IsKeptAs t' c m
      it = ((kept.0, last_new t t' r new k s h x c load), kept.1)

      each : (o : KeptOp) → Contains longer o → loads_at x o ≡ true
          → (v : Op) × IsRecentLoad t' h oldest x v × IsKeptAs t' v o
      each o i q = elim (with_back m since longer w o i) [
        | inl e ↦ (c, it.0, subst (λ (z : KeptOp). IsKeptAs t' c z) (sym e) it.1)
        | inr j ↦
            let e = a.each o j q in
            let n = load_on t t' h x oldest k (grow_insn r new s) insn_rests e.0 o e.1
            (last_old t t' r new k s h x e.0 e.1.1 none) e.2 in
            (e.0, n.0, n.1)
      ]

      all : (v : Op) → IsRecentLoad t' h oldest x v → (o : KeptOp) × Contains longer o × IsKeptAs t' v o
      all v p = elim (last_after t t' r new k s h x v p.1) [
        | inl y ↦
            let o : IsRecentLoad t h oldest x v = (recent_in t' t h oldest v y.0.0.0 p.0, y.0) in
            let n = a.all v o in (
              n.0,
              with_on m since longer w n.0 n.1,
              (load_on t t' h x oldest k (grow_insn r new s) insn_rests v n.0 o p.1 n.2).1,
            )
        | inr y ↦
            let same : c ≡ v = same_new c v load.0 y.0 (byte_loaded c load.2) (byte_loaded v y.2) in
            (m, with_it m since longer w, subst (λ (z : Op). IsKeptAs t' z m) same it.1)
      ]

  cleared_loads : (c : Op) → Contains new c → c.name.hart ≡ h → writes x c ≡ true → op_loads c ≡ false
      → AreLoadsSince t' h oldest x []
  cleared_loads c i e q n = record {
    each = λ m j w. absurd (nothing_in m j);
    all = λ v p. elim (last_after t t' r new k s h x v p.1) [
      | inl y ↦ absurd (both_ways (writes x c) (y.1 c i e) q)
      | inr y ↦ absurd (
          let same : c ≡ v = same_new c v i y.0 (and_parts (op_stores c) (has_byte x c) q).1 (byte_loaded v y.2) in
          both_ways (op_loads v) (subst (λ (z : Op). op_loads z ≡ false) same n)
          (and_parts (op_loads v) (has_byte x v) y.2).0)
    ];
  }

  atomic_load : (longer : List KeptOp) (c : Op) (m : KeptOp) → IsLoadIn new h x c → writes x c ≡ true
      → IsKeptRecent t' h oldest c m → IsWith m [] longer → AreLoadsSince t' h oldest x longer
  atomic_load longer c m load q kept w = record {
    each = λ o i z. elim (with_back m [] longer w o i) [
      | inl e ↦ (
        c,
        (kept.0, last_new t t' r new k s h x c load),
        subst (λ (y : KeptOp). IsKeptAs t' c y) (sym e) kept.1,
      )
      | inr j ↦ absurd (nothing_in o j)
    ];
    all = λ v p. elim (last_after t t' r new k s h x v p.1) [
      | inl y ↦ absurd (both_ways (writes x c) (y.1 c load.0 load.1) q)
      | inr y ↦
          let same : c ≡ v = same_new c v load.0 y.0 (byte_loaded c load.2) (byte_loaded v y.2) in
          (m, with_it m [] longer w, subst (λ (z : Op). IsKeptAs t' z m) same kept.1)
    ];
  }

-- ---- a later place

module _ (t : Trace) (h x : ℕ) (before oldest : Option Place) (k : WellKinded t)
    (inside : (o : Op) → IsRecent t h oldest o → IsRecent t h before o)
    (order : (o : Op) (p q : Place) → IsRecent t h before o → o.place ≡ Some p → oldest ≡ Some q
    → earlier q p ≡ comes_before (untimed q) (untimed p)) where
  at_place : (o : Op) (m : KeptOp) (p : Place) → IsKeptAs t o m → o.place ≡ Some p → m.place ≡ untimed p
  at_place o m p w e =
      let same : Some m.place ≡ Some (untimed p) = w.place ∙ ap (option_map untimed) e in
      cc

  is_left : (q : Option Place) → oldest ≡ q → (o : Op) (m : KeptOp) → IsRecentLoad t h before x o → IsKeptAs t o m
      → op_stays (option_map untimed q) m ≡ true → IsRecent t h q o
  is_left None f o m r w s = absurd (let c : false ≡ true = s in cc)
  is_left (Some q) f o m r w s =
      let p = load_placed t o k r.1.0.0 (and_parts (op_loads o) (has_byte x o) r.1.1).0 in
      let e : m.place ≡ untimed p.0 = at_place o m p.0 w p.1 in (
        r.1.0.0,
        r.1.0.1,
        (p.0, p.1, order o p.0 q r.0 p.1 f ∙ ap (comes_before (untimed q)) (sym e) ∙ s),
      )

  stays_left : (q : Option Place) → oldest ≡ q → (o : Op) (m : KeptOp) → IsRecent t h before o → IsRecent t h q o
      → IsKeptAs t o m → op_stays (option_map untimed q) m ≡ true
  stays_left None f o m r s w = absurd s
  stays_left (Some q) f o m r s w =
      let e : m.place ≡ untimed s.2.0 = at_place o m s.2.0 w s.2.1 in
      ap (comes_before (untimed q)) e ∙ sym (order o s.2.0 q r s.2.1 f) ∙ s.2.2

  narrowed_loads : (since : List KeptOp) → AreLoadsSince t h before x since
      → AreLoadsSince t h oldest x (filter (op_stays (option_map untimed oldest)) since)
  narrowed_loads since a = record {
    each = λ m i q. (let f = from_filter (op_stays (option_map untimed oldest)) since m i in
        let e = a.each m f.0 q in
        (e.0, (is_left oldest refl e.0 m e.1 e.2 f.1, e.1.1), e.2));
    all = λ v p. (let r = inside v p.0 in let m = a.all v (r, p.1) in (
      m.0,
      in_filter (op_stays (option_map untimed oldest)) since m.0 m.1 (stays_left oldest refl v m.0 r p.0 m.2),
      m.2,
    ));
  }

pub loads_since_go_on : LoadsSinceGoOn
loads_since_go_on = record {
  start = λ granule h x oldest. record {
    each = λ m i q. absurd (nothing_in m i);
    all = λ v p. absurd (nothing_in v p.1.0.0);
  };
  narrows = λ t h x before oldest since k inside order a. narrowed_loads t h x before oldest k inside order since a;
  others = λ t h x oldest since longer m w n a. record {
    each = λ o i q. elim (with_back m since longer w o i) [
      | inl e ↦ absurd (both_ways (loads_at x m) n (subst (λ (z : KeptOp). loads_at x z ≡ true) e q))
      | inr j ↦ a.each o j q
    ];
    all = λ v p. (let f = a.all v p in (f.0, with_on m since longer w f.0 f.1, f.2));
  };
  nothing = λ t t' h x oldest since k s a.
      same_loads t t' h x oldest k (grow_same s) (λ o y i q. (sources_rest t t' o y k (inl s) i q).store) since
      (members_on t t' h x s.ops) (members_back t t' h x s.ops) a;
  early = λ t t' e h x oldest since k s a.
      same_loads t t' h x oldest k (grow_early e s)
      (λ o y i q. (sources_rest t t' o y k (inr (inl (e, s))) i q).store) since (members_on t t' h x s.ops)
      (members_back t t' h x s.ops) a;
  rests = λ t t' r new h x oldest since k s none noload a.
      same_loads t t' h x oldest k (grow_insn r new s) (insn_rests t t' r new h x oldest k s) since
      (λ v p. last_old t t' r new k s h x v p none)
      (λ v p. elim (last_after t t' r new k s h x v p) [ inl y ↦ y.0 | inr y ↦ absurd (noload v y) ]) a;
  noted = λ t t' r new h x oldest since longer c m k s none load kept w a.
      noted_load t t' r new h x oldest k s since longer c m none load kept w a;
  cleared = λ t t' r new h x oldest c k s i e q n. cleared_loads t t' r new h x oldest k s c i e q n;
  atomic = λ t t' r new h x oldest longer c m k s load q kept w.
      atomic_load t t' r new h x oldest k s longer c m load q kept w;
  stores = λ initial t t' g parts h x oldest since k s legal a.
      same_loads t t' h x oldest k (grow_stores g parts s)
      (λ o y i q. elim (stable_sources t t' o y k (more_growth t t t' (no_growth t) (grow_stores g parts s)) i q) [
        | inl e ↦ e
        | inr b ↦ absurd (legal.ordered _ b.0 b.1 b.2)
      ]) since
      (λ v p. (stores_last g t t' parts h x k s v).0 p) (λ v p. (stores_last g t t' parts h x k s v).1 p) a;
}
