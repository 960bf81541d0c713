-- Kept operations while a trace grows, with those that it performs.
use Rattle.std.proofs.Common.{ℕ, ◌+◌, ◌≡◌, ◌≢◌, ◌⊎◌, inl, inr, true, List, [], ◌∷◌, Option, Some, None}
use Rattle.std.proofs.Common.{refl, sym, ap, subst, ◌∙◌, arith}
use Rattle.std.specs.List.{Contains, AllPairs}
use Rattle.std.proofs.lemmas.Bool.{both_ways}
use Rattle.std.proofs.lemmas.List.Elements.{Contains-append_left, Contains-get_or}
use Rattle.std.proofs.lemmas.List.Kept.{AllPairs-cons}
use Rattle.tandem_base.specs.declared.names.Place.{Place}
use Rattle.rv_decode.specs.Kinds.{is_amo_or_sc}
use Rattle.rvwmo_model.specs.declared.instructions.Retired.{Retired}
use Rattle.rvwmo_model.specs.declared.operations.Op.{Op}
use Rattle.rvwmo_model.specs.declared.traces.Trace.{Trace}
use Rattle.rvwmo_model.specs.Order.{standing, precedes, reads}
use Rattle.rvwmo_model.specs.ProgramOrder.{is_one}
use Rattle.rvwmo_model.specs.Sources.{origin}
use Rattle.rvwmo_model.specs.InForm.{IsPlaced}
use Rattle.rvwmo_model.proofs.Membership.{nothing_in, head_in, tail_in, in_cases, pairs_head, pairs_tail}
use Rattle.rvwmo_model.proofs.Orders.{before_self}
use Rattle.growth_laws.specs.Kinds.{WellKinded}
use Rattle.growth_laws.specs.Growth.{IsAbove, AddInsn, Performs, no_parts, more_parts, Growth, grow_insn, grow_stores}
use Rattle.growth_laws.specs.Growth.{no_growth, more_growth}
use Rattle.growth_laws.proofs.Places.{not_both}
use Rattle.growth_laws.proofs.Facts.{op_insn}
use Rattle.growth_laws.proofs.Quiet.{sources_rest}
use Rattle.growth_laws.proofs.Growths.{growth_chain, keeps_kinded}
use Rattle.growth_laws.proofs.Chains.{chain_stays, stable_sources}
use Rattle.growth_laws.proofs.Comings.{chain_insns}
use Rattle.growth_laws.proofs.Operations.{op_older}
use Rattle.growth_laws.proofs.Parts.{Stems, stems_old, stems_part, stems_left, performs_on, performs_back}
use Rattle.kept_ops.specs.declared.operation.KeptOp.{KeptOp}
use Rattle.kept_ops.specs.Tables.{IsWith}
use Rattle.window_laws.specs.Keeping.{IsRecent, IsKeptAs, AreKeptOps}
use Rattle.window_laws.proofs.Kept.{keeping_starts, keeping_stays, keeping_narrows}
use Rattle.place_laws.specs.KeptLaws.{AlsoKept, none_more, keeps_more, passes_over, KeptGoOn}
use Rattle.place_laws.proofs.Added.{one_name, with_on, with_it, with_back, with_apart}

-- what is recent is an operation of the trace that was performed
recent_parts : (t : Trace) (h : ℕ) (oldest : Option Place) (o : Op) → IsRecent t h oldest o
    → Contains t.ops o × IsPlaced o
recent_parts t h None o r = absurd r
recent_parts t h (Some q) o r = (r.0, (r.2.0, r.2.1))

recent_in : (t t' : Trace) (h : ℕ) (oldest : Option Place) (o : Op) → Contains t'.ops o → IsRecent t h oldest o
    → IsRecent t' h oldest o
recent_in t t' h None o i r = absurd r
recent_in t t' h (Some q) o i r = (i, r.1, r.2)

-- the operations of t and some more, as far as they are recent in t', are kept
record AreKeptAmong (t t' : Trace) (h : ℕ) (oldest : Option Place) (more : List Op) (kept : List KeptOp) : Type 0 where
  each : (m : KeptOp) → Contains kept m → (o : Op) × (Contains t.ops o ⊎ Contains more o) × IsRecent t' h oldest o
      × IsKeptAs t' o m
  all : (o : Op) → Contains t.ops o ⊎ Contains more o → IsRecent t' h oldest o
      → (m : KeptOp) × Contains kept m × IsKeptAs t' o m
  once : AllPairs (λ m n. m.name ≢ n.name) kept

-- a growth that moves no source
module _ (t t' : Trace) (h : ℕ) (oldest : Option Place) (kept : List KeptOp) (k : WellKinded t) (g : Growth t t')
    (rest : (o : Op) (x : ℕ) → Contains t.ops o → reads x o ≡ true → origin t' o x ≡ origin t o x) where
  kept_as : (o : Op) (m : KeptOp) → Contains t.ops o → IsPlaced o → IsKeptAs t o m → IsKeptAs t' o m
  kept_as o m i p a = record {
    name = a.name;
    place = a.place;
    kind = a.kind;
    extent = a.extent;
    mask = a.mask;
    put = a.put;
    atomic = a.atomic
        ∙ ap (is_one is_amo_or_sc) (sym (chain_insns t t' (growth_chain t t' k g) o i p o.name.tag (inr refl)));
    sources = λ n q. a.sources n q ∙ sym (rest o (o.extent.addr + n) i q);
  }

  kept_before : AreKeptOps t h oldest kept → AreKeptAmong t t' h oldest [] kept
  kept_before a = record {
    each = λ m c. (let o = a.each m c in let p = recent_parts t h oldest o.0 o.1 in (
      o.0,
      inl p.0,
      recent_in t t' h oldest o.0 (chain_stays t t' o.0 (growth_chain t t' k g) p.0 p.1) o.1,
      kept_as o.0 m p.0 p.1 o.2,
    ));
    all = λ o i r. elim i [
      | inl j ↦
          let p = recent_parts t' h oldest o r in
          let m = a.all o (recent_in t' t h oldest o j r) in
          (m.0, m.1, kept_as o m.0 j p.1 m.2)
      | inr n ↦ absurd (nothing_in o n)
    ];
    once = a.once;
  }

  -- one operation more is kept
  kept_one : (ops : List Op) (o : Op) (m : KeptOp) (some longer : List KeptOp) → AreKeptAmong t t' h oldest ops some
      → IsRecent t' h oldest o → IsKeptAs t' o m → IsWith m some longer
      → ((v : Op) → Contains ops v → o ≢ v) → (Contains t.ops o → ⊥) → AreKeptAmong t t' h oldest (o ∷ ops) longer
  kept_one ops o m some longer a r q w apart fresh = record {
    each = λ n c. elim (with_back m some longer w n c) [
      | inl e ↦ (o, inr (head_in o ops), r, subst (IsKeptAs t' o) (sym e) q)
      | inr j ↦ let v = a.each n j in (v.0, among v.0 v.1, v.2, v.3)
    ];
    all = λ v i s. elim i [
      | inl j ↦ old v (a.all v (inl j) s)
      | inr j ↦ elim (in_cases o ops v j) [
        | inl e ↦ (m, with_it m some longer w m refl, subst (λ (z : Op). IsKeptAs t' z m) (sym e) q)
        | inr l ↦ old v (a.all v (inr l) s)
      ]
    ];
    once = with_apart m some longer w a.once (λ n c e. (let v = a.each n c in
        same v.0 v.1 (one_name t'.ops (keeps_kinded t t' k g).form.apart v.0 o (recent_parts t' h oldest v.0 v.2).0
        (recent_parts t' h oldest o r).0 (sym v.3.name ∙ e ∙ q.name))));
  }
    where
      among : (v : Op) → Contains t.ops v ⊎ Contains ops v → Contains t.ops v ⊎ Contains (o ∷ ops) v
      among v (inl i) = inl i
      among v (inr i) = inr (tail_in o ops v i)

      old : (v : Op) → (n : KeptOp) × Contains some n × IsKeptAs t' v n → (n : KeptOp) × Contains longer n
          × IsKeptAs t' v n
      old v n = (n.0, with_on m some longer w n.0 n.1, n.2)

      same : (v : Op) → Contains t.ops v ⊎ Contains ops v → v ≡ o → ⊥
      same v (inl i) e = fresh (subst (Contains t.ops) e i)
      same v (inr i) e = apart v i (sym e)

  -- one that isn't recent is passed over
  kept_none : (ops : List Op) (o : Op) (longer : List KeptOp) → AreKeptAmong t t' h oldest ops longer
      → (IsRecent t' h oldest o → ⊥) → AreKeptAmong t t' h oldest (o ∷ ops) longer
  kept_none ops o longer a none = record {
    each = λ n c. (let v = a.each n c in (
      v.0,
      elim v.1 [ inl i ↦ inl i | inr i ↦ inr (tail_in o ops v.0 i) ],
      v.2,
      v.3,
    ));
    all = λ v i r. elim i [
      | inl j ↦ a.all v (inl j) r
      | inr j ↦ elim (in_cases o ops v j) [
        | inl e ↦ absurd (none (subst (IsRecent t' h oldest) e r))
        | inr l ↦ a.all v (inr l) r
      ]
    ];
    once = a.once;
  }

  kept_more : (ops : List Op) (longer : List KeptOp) → AlsoKept t' h oldest kept ops longer
      → AllPairs (λ a b. a ≢ b) ops → ((v : Op) → Contains ops v → IsPlaced v → Contains t.ops v → ⊥)
      → AreKeptOps t h oldest kept → AreKeptAmong t t' h oldest ops longer
  kept_more _ _ none_more apart fresh a = kept_before a
  kept_more _ _ (keeps_more ops o m some longer s r q w) apart fresh a =
      kept_one ops o m some longer
      (kept_more ops some s (pairs_tail (λ (c d : Op). c ≢ d) o ops apart) (λ v i. fresh v (tail_in o ops v i)) a)
      r q w (pairs_head (λ (c d : Op). c ≢ d) o ops apart)
      (fresh o (head_in o ops) (recent_parts t' h oldest o r).1)
  kept_more _ _ (passes_over ops o longer s none) apart fresh a =
      kept_none ops o longer
      (kept_more ops longer s (pairs_tail (λ (c d : Op). c ≢ d) o ops apart) (λ v i. fresh v (tail_in o ops v i)) a)
      none

  -- where each operation is old or one of those
  pub kept_then : (ops : List Op) (longer : List KeptOp) → AlsoKept t' h oldest kept ops longer
      → AllPairs (λ a b. a ≢ b) ops → ((v : Op) → Contains ops v → IsPlaced v → Contains t.ops v → ⊥)
      → ((o : Op) → Contains t'.ops o → IsPlaced o → Contains t.ops o ⊎ Contains ops o)
      → AreKeptOps t h oldest kept → AreKeptOps t' h oldest longer
  kept_then ops longer s apart fresh back a = record {
    each = λ m c. (let v = (kept_more ops longer s apart fresh a).each m c in (v.0, v.2, v.3));
    all = λ o r. (let p = recent_parts t' h oldest o r in
        (kept_more ops longer s apart fresh a).all o (back o p.0 p.1) r);
    once = (kept_more ops longer s apart fresh a).once;
  }

-- ---- a message that performs stores

not_itself : (v : Op) → precedes v v ≡ true → ⊥
not_itself v e = both_ways (precedes v v) (before_self (standing v)) e

-- each part is there in the end, was performed, and stands above all that was before
record IsDone (t v : Trace) (w : Op) : Type 0 where
  there : Contains v.ops w
  placed : IsPlaced w
  above : IsAbove t w

parts_done : (h : ℕ) (t v : Trace) (parts : List Op) → Performs h t parts v → (w : Op) → Contains parts w
    → IsDone t v w
parts_done h t _ _ no_parts w i = absurd (nothing_in w i)
parts_done h t _ _ (more_parts parts u v o n rest s e p) w i = elim (in_cases n parts w i) [
  | inl same ↦ subst (IsDone t v) (sym same) (record {
    there = p.added;
    placed = p.placed;
    above = λ z j q. p.above z (performs_on h t u parts s z j q) q;
  })
  | inr j ↦ let d = parts_done h t u parts s w j in elim (p.ops_on w d.there) [
    | inl f ↦ absurd (not_both w d.placed (ap (λ (z : Op). z.place) f ∙ p.unperformed))
    | inr l ↦ record { there = l; placed = d.placed; above = d.above }
  ]
]

parts_apart : (h : ℕ) (t v : Trace) (parts : List Op) → Performs h t parts v → AllPairs (λ a b. a ≢ b) parts
parts_apart h t _ _ no_parts = λ i j d l m. absurd (omega (arith, m))
parts_apart h t _ _ (more_parts parts u v o n rest s e p) =
    AllPairs-cons (λ (a b : Op). a ≢ b) n parts
    (λ j d l f. (let w = parts_done h t u parts s _ (Contains-get_or parts j d l) in
    not_itself n (subst (λ (z : Op). precedes z n ≡ true) (sym f)
    (p.above _ (Contains-append_left u.ops u.early _ w.there) w.placed))))
    (parts_apart h t u parts s)

pub kept_go_on : KeptGoOn
kept_go_on = record {
  start = keeping_starts;
  narrows = λ t h before oldest kept inside order a. keeping_narrows t h before oldest kept a inside order;
  nothing = keeping_stays.nothing;
  early = keeping_stays.early;
  retires = λ t t' r new h oldest kept longer k s apart also a.
      kept_then t t' h oldest kept k (grow_insn r new s)
      (λ o x i q. (sources_rest t t' o x k (inr (inr (r, new, s))) i q).store) new longer also apart
      (λ v i p j. not_new t t' r new k s v i j)
      (λ o i p. elim (s.ops_back o i) [ inl n ↦ inr n | inr j ↦ inl j ]) a;
  stores = λ t t' g h parts oldest kept longer k s quiet also a.
      kept_then t t' h oldest kept k (grow_stores g parts s)
      (λ o x i q. elim (stable_sources t t' o x k (more_growth t t t' (no_growth t) (grow_stores g parts s)) i q) [
        | inl e ↦ e
        | inr b ↦ absurd (quiet b)
      ]) parts longer also (parts_apart g t t' parts s)
      (λ v i p j. not_itself v ((parts_done g t t' parts s v i).above v (Contains-append_left t.ops t.early v j) p))
      (λ o i p. from t parts o p (performs_back g t t' parts s o i)) a;
}
  where
    not_new : (t t' : Trace) (r : Retired) (new : List Op) → WellKinded t → AddInsn t t' r new → (v : Op)
        → Contains new v → Contains t.ops v → ⊥
    not_new t t' r new k s v i j =
        let own = s.are_of.own v i in
        let w = op_insn t v k j in
        let l = op_older t t' r new v k s j own.0 in
        let e = own.1 in
        omega (arith, l, e)

    from : (t : Trace) (parts : List Op) (o : Op) → IsPlaced o → Stems t parts o → Contains t.ops o ⊎ Contains parts o
    from t parts o p (stems_old i q) = inl i
    from t parts o p (stems_part m q above v w) = inr m
    from t parts o p (stems_left e v w) = absurd (not_both o p e)
