-- Kept operations while a trace grows.
use Rattle.std.proofs.Common.{ℕ, ◌+◌, ◌≡◌, ◌≢◌, inl, inr, true, false, List, [], Option, Some, None, option_map}
use Rattle.std.proofs.Common.{refl, sym, ap}
use Rattle.std.proofs.Common.{◌∙◌, arith}
use Rattle.std.specs.List.{Contains}
use Rattle.std.proofs.lemmas.List.Kept.{AllPairs-filter}
use Rattle.tandem_base.specs.declared.names.Place.{Place}
use Rattle.tandem_base.specs.Places.{earlier, comes_before}
use Rattle.rv_decode.specs.Kinds.{is_amo_or_sc}
use Rattle.rvwmo_model.specs.declared.operations.Op.{Op}
use Rattle.rvwmo_model.specs.declared.traces.Trace.{Trace}
use Rattle.rvwmo_model.specs.Order.{reads}
use Rattle.rvwmo_model.specs.ProgramOrder.{is_one}
use Rattle.rvwmo_model.specs.Sources.{origin}
use Rattle.rvwmo_model.specs.InForm.{IsPlaced}
use Rattle.rvwmo_model.proofs.Membership.{nothing_in, in_filter, from_filter}
use Rattle.growth_laws.specs.Kinds.{WellKinded}
use Rattle.growth_laws.specs.Growth.{Performs, Growth, grow_same, grow_early, grow_insn, grow_stores}
use Rattle.growth_laws.specs.Growth.{no_growth, more_growth}
use Rattle.growth_laws.specs.Laws.{nothing_yet}
use Rattle.growth_laws.proofs.Places.{not_both}
use Rattle.growth_laws.proofs.Quiet.{sources_rest}
use Rattle.growth_laws.proofs.Growths.{growth_chain}
use Rattle.growth_laws.proofs.Chains.{chain_stays, stable_sources}
use Rattle.growth_laws.proofs.Comings.{chain_insns}
use Rattle.growth_laws.proofs.Parts.{Stems, stems_old, stems_part, stems_left, performs_back, performs_hart}
use Rattle.kept_ops.specs.declared.operation.KeptOp.{KeptOp}
use Rattle.kept_ops.specs.Tables.{op_stays}
use Rattle.window_laws.specs.Tables.{untimed}
use Rattle.window_laws.specs.Keeping.{IsRecent, IsKeptAs, AreKeptOps}
use Rattle.window_laws.specs.KeepingLaws.{KeepingStarts, KeepingStays, KeepingNarrows}

pub keeping_starts : KeepingStarts
keeping_starts granule h oldest = record {
  each = λ m c. absurd (nothing_in m c);
  all = at oldest;
  once = λ i j d l w. absurd (omega arith);
}
  where
    at : (oldest : Option Place) (o : Op) → IsRecent (nothing_yet granule) h oldest o
        → (m : KeptOp) × Contains [] m × IsKeptAs (nothing_yet granule) o m
    at None o r = absurd r
    at (Some q) o r = absurd (nothing_in o r.0)

-- what is recent is an operation of the hart that was performed
recent_parts : (t : Trace) (h : ℕ) (oldest : Option Place) (o : Op) → IsRecent t h oldest o
    → Contains t.ops o × (o.name.hart ≡ h) × IsPlaced o
recent_parts t h None o r = absurd r
recent_parts t h (Some q) o r = (r.0, r.1, (r.2.0, r.2.1))

recent_in : (t t' : Trace) (h : ℕ) (oldest : Option Place) (o : Op) → Contains t'.ops o → IsRecent t h oldest o
    → IsRecent t' h oldest o
recent_in t t' h None o i r = absurd r
recent_in t t' h (Some q) o i r = (i, r.1, r.2)

-- under a growth that moves no source and adds nothing recent, what is kept is right as before
module _ (t t' : Trace) (h : ℕ) (oldest : Option Place) (kept : List KeptOp) (k : WellKinded t) (g : Growth t t')
    (rest : (o : Op) (x : ℕ) → Contains t.ops o → reads x o ≡ true → origin t' o x ≡ origin t o x)
    (back : (o : Op) → IsRecent t' h oldest o → Contains t.ops o) where
  kept_as : (o : Op) (m : KeptOp) → Contains t.ops o → IsPlaced o → IsKeptAs t o m → IsKeptAs t' o m
  kept_as o m i p a = record {
    name = a.name;
    place = a.place;
    kind = a.kind;
    extent = a.extent;
    mask = a.mask;
    put = a.put;
    atomic = a.atomic
        ∙ ap (is_one is_amo_or_sc) (sym (chain_insns t t' (growth_chain t t' k g) o i p o.name.tag (inr refl)));
    sources = λ n q. a.sources n q ∙ sym (rest o (o.extent.addr + n) i q);
  }

  on : (o : Op) → IsRecent t h oldest o → IsRecent t' h oldest o
  on o r =
      let p = recent_parts t h oldest o r in
      recent_in t t' h oldest o (chain_stays t t' o (growth_chain t t' k g) p.0 p.2) r

  pub kept_on : AreKeptOps t h oldest kept → AreKeptOps t' h oldest kept
  kept_on a = record {
    each = λ m c. (let o = a.each m c in let p = recent_parts t h oldest o.0 o.1 in
        (o.0, on o.0 o.1, kept_as o.0 m p.0 p.2 o.2));
    all = λ o r. (let i = back o r in let p = recent_parts t' h oldest o r in
        let m = a.all o (recent_in t' t h oldest o i r) in
        (m.0, m.1, kept_as o m.0 i p.2 m.2));
    once = a.once;
  }

pub keeping_stays : KeepingStays
keeping_stays = record {
  nothing = λ t t' h oldest kept k s.
      kept_on t t' h oldest kept k (grow_same s)
      (λ o x i q. (sources_rest t t' o x k (inl s) i q).store)
      (λ o r. s.ops.back o (recent_parts t' h oldest o r).0);
  early = λ t t' e h oldest kept k s.
      kept_on t t' h oldest kept k (grow_early e s)
      (λ o x i q. (sources_rest t t' o x k (inr (inl (e, s))) i q).store)
      (λ o r. s.ops.back o (recent_parts t' h oldest o r).0);
  insn = λ t t' r new h oldest kept k s none.
      kept_on t t' h oldest kept k (grow_insn r new s)
      (λ o x i q. (sources_rest t t' o x k (inr (inr (r, new, s))) i q).store)
      (λ o c. elim (s.ops_back o (recent_parts t' h oldest o c).0) [
        | inl m ↦ absurd (none o m c)
        | inr i ↦ i
      ]);
  stores = λ t t' g h parts oldest kept k s d quiet.
      kept_on t t' h oldest kept k (grow_stores g parts s)
      (λ o x i q. elim (stable_sources t t' o x k (more_growth t t t' (no_growth t) (grow_stores g parts s)) i q) [
        | inl e ↦ e
        | inr b ↦ absurd (quiet b)
      ])
      (λ o c. stores_back t t' g h parts oldest s d o c);
}
  where
    stores_back : (t t' : Trace) (g h : ℕ) (parts : List Op) (oldest : Option Place) → Performs g t parts t' → g ≢ h
        → (o : Op) → IsRecent t' h oldest o → Contains t.ops o
    stores_back t t' g h parts oldest s d o c = at (performs_back g t t' parts s o p.0)
      where
        p : Contains t'.ops o × (o.name.hart ≡ h) × IsPlaced o
        p = recent_parts t' h oldest o c

        at : Stems t parts o → Contains t.ops o
        at (stems_old i q) = i
        at (stems_part m q above v w) = absurd (d (sym (performs_hart g t t' parts s o m) ∙ p.1))
        at (stems_left e v w) = absurd (not_both o p.2 e)

-- ---- a later place

-- the places of what is kept compare with the oldest one as tables compare them
abbrev Ordered : Trace → ℕ → Option Place → Option Place → Type 0
Ordered t h before oldest = (o : Op) (p q : Place) → IsRecent t h before o → o.place ≡ Some p → oldest ≡ Some q
    → earlier q p ≡ comes_before (untimed q) (untimed p)

pub keeping_narrows : KeepingNarrows
keeping_narrows t h before oldest kept a inside order = record {
  each = λ m c. (let f = from_filter (op_stays (option_map untimed oldest)) kept m c in
      let o = a.each m f.0 in
      (o.0, recent_left oldest o.0 m o.1 o.2 f.1 order, o.2));
  all = λ o r. (let m = a.all o (inside o r) in (
    m.0,
    in_filter (op_stays (option_map untimed oldest)) kept m.0 m.1 (stays_left oldest o m.0 (inside o r) r m.2 order),
    m.2,
  ));
  once = AllPairs-filter (λ (m n : KeptOp). m.name ≢ n.name) (op_stays (option_map untimed oldest)) kept a.once;
}
  where
    at_place : (o : Op) (m : KeptOp) (p : Place) → IsKeptAs t o m → o.place ≡ Some p → m.place ≡ untimed p
    at_place o m p w e =
        let same : Some m.place ≡ Some (untimed p) = w.place ∙ ap (option_map untimed) e in
        cc

    recent_left : (oldest : Option Place) (o : Op) (m : KeptOp) → IsRecent t h before o → IsKeptAs t o m
        → op_stays (option_map untimed oldest) m ≡ true → Ordered t h before oldest → IsRecent t h oldest o
    recent_left None o m r w s order = absurd (let c : false ≡ true = s in cc)
    recent_left (Some q) o m r w s order =
        let p = recent_parts t h before o r in
        let e : m.place ≡ untimed p.2.0 = at_place o m p.2.0 w p.2.1 in (
          p.0,
          p.1,
          (
            p.2.0,
            p.2.1,
            order o p.2.0 q r p.2.1 refl ∙ ap (comes_before (untimed q)) (sym e) ∙ s,
          ),
        )

    stays_left : (oldest : Option Place) (o : Op) (m : KeptOp) → IsRecent t h before o → IsRecent t h oldest o
        → IsKeptAs t o m → Ordered t h before oldest → op_stays (option_map untimed oldest) m ≡ true
    stays_left None o m r s w order = absurd s
    stays_left (Some q) o m r s w order =
        let e : m.place ≡ untimed s.2.0 = at_place o m s.2.0 w s.2.1 in
        ap (comes_before (untimed q)) e ∙ sym (order o s.2.0 q r s.2.1 refl) ∙ s.2.2
