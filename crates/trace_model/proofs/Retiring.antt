-- What a Retire does to the trace, by what its instruction is to do.
use Rattle.std.proofs.Common.{ℕ, zero, suc, length-append, ◌+◌, ◌%◌, ◌<◌, ◌≤◌, ◌≡◌, ◌⊎◌, inl, inr, Bool, true}
use Rattle.std.proofs.Common.{false, not, eqb, cond, List, [], ◌∷◌, length, map, replicate}
use Rattle.std.proofs.Common.{Option, Some, None, is_some, refl, sym, ap, subst, ◌∙◌, arith}
use Rattle.std.specs.List.{Contains, filter, cons_option, find}
use Rattle.std.proofs.lemmas.Bool.{false≢true, both_ways, and_parts, and_from, eqb-true, eq-eqb}
use Rattle.std.proofs.lemmas.List.{length-replicate}
use Rattle.tandem_base.specs.declared.extent.Extent.{Extent}
use Rattle.tandem_base.specs.declared.names.Place.{Place}
use Rattle.tandem_base.specs.Extents.{IsAligned}
use Rattle.msg_frames.specs.declared.message.Head.{Head}
use Rattle.rv_decode.specs.declared.instruction.Insn.{Insn}
use Rattle.rv_step.specs.Steps.{Doing, trap, plain, counter, load, store, lr, sc, amo}
use Rattle.rvwmo_model.specs.declared.instructions.Retired.{Retired}
use Rattle.rvwmo_model.specs.declared.operations.Op.{Op}
use Rattle.rvwmo_model.specs.declared.operations.OpKind.{OpKind}
use Rattle.rvwmo_model.specs.declared.operations.OpKind.TheVariants as kind
use Rattle.rvwmo_model.specs.declared.operations.Ann.{Ann}
use Rattle.rvwmo_model.specs.declared.traces.Trace.{Trace}
use Rattle.rvwmo_model.specs.Order.{everything}
use Rattle.rvwmo_model.specs.InForm.{AreRising, IsOf, IsWhole}
use Rattle.rv_decode.specs.Kinds.{is_lr, is_sc, is_amo_or_sc}
use Rattle.rvwmo_model.specs.InsnKinds.{has_stored}
use Rattle.rvwmo_model.specs.Annotations.{is_rcsc}
use Rattle.rvwmo_model.specs.Atomicity.{IsPair, IsCoveredBy}
use Rattle.rvwmo_model.specs.ProgramOrder.{insn_at, is_one}
use Rattle.rvwmo_model.proofs.Membership.{nothing_in}
use Rattle.rvwmo_model.proofs.LookUp.{found_in, named_self}
use Rattle.growth_laws.specs.Kinds.{kind_of_insn, kind_of_retired, IsNamed}
use Rattle.growth_laws.specs.Growth.{SameMembers, AreOf, Adds, adds_loads, adds_store, adds_atomic, adds_nothing}
use Rattle.matching.specs.declared.reports.OpenReport.{OpenReport}
use Rattle.matching.specs.declared.run.Pair.{Pair}
use Rattle.matching.specs.Reports.{is_report, early_of, is_for, counting, place_of_report, place_counted, byte_counted}
use Rattle.matching.specs.Reports.{bytes_counted}
use Rattle.trace_model.specs.Extents.{extent_of}
use Rattle.trace_model.specs.Groups.{Access, part_at}
use Rattle.trace_model.specs.Entries.{Fixed, Stores, Entry, Places, byte_places, memory_ops, entry_ops, insns_of, built}
use Rattle.trace_model.specs.Retirements.{acquire_of, release_of, load_access, read_places, load_ops, store_access}
use Rattle.trace_model.specs.Retirements.{bypass_access, bypass_op, atomic_ops, entry, entry_of}
use Rattle.trace_model.specs.Growths.{GrownBy}
use Rattle.trace_model.specs.Traces.{early_extent, early_op}
use Rattle.trace_model.proofs.Lists.{In, listed, contained, in_left, in_right, in_cases, in_flat, from_map, from_filter}
use Rattle.trace_model.proofs.Extents.{extent_is}
use Rattle.trace_model.proofs.Groups.{whole_op, named_op, covers_parts}
use Rattle.trace_model.proofs.AreEntries.{IsEntry, AreEntries, insn_in, ops_once}
use Rattle.trace_model.proofs.Performed.{members_self}
use Rattle.trace_model.proofs.Early.{latest_in, others_back, none_leaves, adds_atomic_of}
use Rattle.trace_model.proofs.Retires.{rising_more, adds, are_of, adds_load, adds_stores}
use Rattle.trace_model.proofs.Instructions.{reserves, IsStore, plain_quiet, counter_quiet, load_kind, lr_kind}
use Rattle.trace_model.proofs.Instructions.{store_kind, sc_kind, amo_kind}
use Rattle.trace_model.proofs.Made.{counted_place, early_key, made_entry}
use Rattle.trace_model.proofs.Pairs.{HasLr, one_read}
use Rattle.trace_model.proofs.Suits.{HasNone, IsOver, SuitsSc, SuitsDoing}
use Rattle.trace_model.proofs.Tags.{other_tag, from_insn}

-- ---- small things

pub counted_length : (live : List OpenReport) (t addr n : ℕ) → length (bytes_counted live t addr n) ≡ n
counted_length live t addr zero = refl
counted_length live t addr (suc n) =
    length-append (bytes_counted live t addr n) (byte_counted (addr + n) (counting live t (addr + n)) ∷ [])
    ∙ (let e = counted_length live t addr n in let s : length (bytes_counted live t addr n) + 1 ≡ suc n =
    omega (arith, e) in s)

latest_none : (p : OpenReport → Bool) (rs : List OpenReport) → find p rs ≡ None → (r : OpenReport) → In r rs
    → p r ≡ false
latest_none p [] e r i = absurd i
latest_none p (s ∷ rs) e r i = at (p s) refl e i (latest_none p rs)
  where
    at : (c : Bool) → p s ≡ c → cond c (Some s) (find p rs) ≡ None → In r (s ∷ rs)
        → (find p rs ≡ None → (r : OpenReport) → In r rs → p r ≡ false) → p r ≡ false
    at true q e i rec = absurd (cc)
    at false q e (inl same) rec = ap p same ∙ q
    at false q e (inr j) rec = rec e r j

aligned_of : (addr len : ℕ) (extent : Extent) → extent.addr ≡ addr → extent.len ≡ len → addr % len ≡ 0 → (len ≡ 4)
    ⊎ (len ≡ 8) → IsAligned extent
aligned_of addr len extent a b m (inl w) = (
  inr (inr (inl (b ∙ w))),
  ap (λ z. z % extent.len) a ∙ ap (λ z. addr % z) b
      ∙ m,
)
aligned_of addr len extent a b m (inr w) = (
  inr (inr (inr (b ∙ w))),
  ap (λ z. z % extent.len) a ∙ ap (λ z. addr % z) b
      ∙ m,
)

-- ---- the trace before and after

module _ (es : List Entry) (g : Places) (live early : List OpenReport) (pair : Option Pair) (granule : ℕ) (head : Head)
    (put : List ℕ) (good : AreEntries es)
    (younger : (e : Entry) → In e es → e.insn.hart ≡ head.hart → e.insn.tag < head.tag)
    (older : (r : OpenReport) → In r early → r.hart ≡ head.hart → head.tag ≤ r.tag) where
  abbrev others : List OpenReport
  others = filter (λ (r : OpenReport). not (is_report head.hart head.tag r)) early

  abbrev t : Trace
  t = built es g (map early_op early) granule

  abbrev pub after : Option Entry → Trace
  after o = built (cons_option o es) g (map early_op others) granule

  -- what a Retire does
  abbrev Grown : Option Entry → Type 0
  Grown o = GrownBy t (after o) g o

  younger_insn : (w : Retired) → In w (insns_of es) → w.hart ≡ head.hart → w.tag < head.tag
  younger_insn w i h =
      let r = from_insn es w i in
      let l = younger r.0 r.1 (sym (ap (λ (z : Retired). z.hart) r.2) ∙ h) in
      let k = ap (λ (z : Retired). z.tag) r.2 in
      omega (arith, l, k)

  older_ops : (v : Op) → In v (map early_op others) → v.name.hart ≡ head.hart → head.tag < v.name.tag
  older_ops v i h =
      let y = from_map early_op others v i in
      let f = from_filter (λ (r : OpenReport). not (is_report head.hart head.tag r)) early y.0 y.1 in
      let hart : y.0.hart ≡ head.hart = sym (ap (λ (z : Op). z.name.hart) y.2) ∙ h in
      let l = other_tag head y.0 (older y.0 f.0 hart) (eq-eqb _ _ (sym hart)) f.1 in
      let k = ap (λ (z : Op). z.name.tag) y.2 in
      omega (arith, l, k)

  -- with one entry more the entries are as they should be
  good_more : (e : Entry) → IsEntry e → e.insn.hart ≡ head.hart → e.insn.tag ≡ head.tag → AreEntries (e ∷ es)
  good_more e k a b = record {
    rising = rising_more (insns_of es) e.insn good.rising (λ w i h. let l = younger_insn w i (h ∙ a) in
        omega (arith, l, b));
    each = λ f i. elim i [ inl q ↦ subst IsEntry (sym q) k | inr j ↦ good.each f j ];
  }

  -- an entry more
  more : (insn : Insn) (stored : Bool) (m : _) → IsEntry (entry head insn stored m)
      → AreOf (entry head insn stored m).insn (entry_ops g (entry head insn stored m))
      → Adds t (after (Some (entry head insn stored m))) (entry head insn stored m).insn
      (entry_ops g (entry head insn stored m)) → Grown (Some (entry head insn stored m))
  more insn stored m k are how =
      let e : Entry = entry head insn stored m in
      (adds es g (map early_op early) (map early_op others) granule e good.rising younger_insn
      (ops_once g (e ∷ es) (good_more e k refl refl)) older_ops are how)

  -- ---- nothing

  same_early : HasNone early head → SameMembers (map early_op early) (map early_op others)
  same_early none = none_leaves early head.hart head.tag none

  pub traps : HasNone early head → Grown None
  traps none = record {
    keeps = record { insns = λ h k. refl; rising = good.rising; once = ops_once g es good; granule = refl };
    ops = members_self t.ops;
    early = same_early none;
  }

  nothing_of : (r : Retired) → AreOf r []
  nothing_of r = record {
    own = λ v h. absurd (nothing_in v h);
    kinds = λ v h. absurd (nothing_in v h);
    whole = λ v h. absurd (nothing_in v h);
    parts = λ v h. absurd (nothing_in v h);
    extents = λ a b h i. absurd (nothing_in a h);
    disjoint = λ a b x h i c d. absurd (nothing_in a h);
  }

  pub adds_none : (insn : Insn) (stored : Bool) → IsEntry (entry head insn stored (Fixed []))
      → kind_of_retired (entry head insn stored (Fixed [])).insn ≡ None → HasNone early head
      → Grown (Some (entry head insn stored (Fixed [])))
  adds_none insn stored k nothing none =
      more insn stored (Fixed []) k (nothing_of (entry head insn stored (Fixed [])).insn)
      (adds_nothing (record { nothing = nothing; early = same_early none; none = refl }))

  -- ---- loads

  module _ (fresh : (r : OpenReport) → In r live → r.tag ≡ head.tag → (v : Op) → In v (everything t) → v.place
      ≡ Some (place_of_report r) → ⊥) (insn : Insn) (extent : Extent)
      (counted : (k : ℕ) → k < extent.len → (r : OpenReport) × (counting live head.tag (extent.addr + k)
      ≡ Some r)) where
    abbrev access : Access
    access = load_access live head insn extent

    abbrev places : ℕ → Option Place
    places = read_places live head.tag extent

    abbrev e : Entry
    e = entry head insn false (Fixed (load_ops live head insn extent))

    fresh_at : (v : Op) (k : ℕ) → In v (everything t) → k < extent.len → v.place ≡ places k → ⊥
    fresh_at v k i l f =
        let r = counted k l in
        let y = latest_in (is_for head.tag (extent.addr + k)) live r.0 r.1 in
        fresh r.0 y.0 (eqb-true _ _ (and_parts (eqb r.0.tag head.tag) _ y.1).0) v i (f ∙ ap place_counted r.1)

    new_only : (v : Op) → In v (everything (after (Some e))) → In v (load_ops live head insn extent)
        ⊎ In v (everything t)
    new_only v i = elim (in_cases (after (Some e)).ops (map early_op others) v i) [
      | inl a ↦ elim (in_cases (load_ops live head insn extent) t.ops v a) [
        | inl b ↦ inl b
        | inr b ↦
            inr (in_left t.ops (map early_op early) v b)
      ]
      | inr a ↦ inr (in_right t.ops (map early_op early) v (others_back early head.hart head.tag v a))
    ]

    pub adds_a_load : IsEntry e → HasNone early head → kind_of_retired e.insn ≡ Some kind.Load
        → (is_lr insn ≡ true → ((k : ℕ) → k < extent.len → places k ≡ places 0) × (0 < granule → IsAligned extent))
        → Grown (Some e)
    adds_a_load k none loads reserved =
        more insn false (Fixed (load_ops live head insn extent)) k
        (are_of access places e.insn refl refl loads (counted_length live head.tag extent.addr extent.len)
        (length-replicate extent.len 0))
        (adds_loads (adds_load access places e.insn refl refl loads
        (counted_length live head.tag extent.addr extent.len) (length-replicate extent.len 0) t (after (Some e))
        new_only (same_early none) loads (λ k l. let r = counted k l in (place_of_report r.0, ap place_counted r.1))
        fresh_at reserved refl))

  -- ---- plain stores

  module _ (insn : Insn) (extent : Extent) where
    abbrev stored_access : Access
    stored_access = store_access head insn extent put

    abbrev stored_entry : Entry
    stored_entry = entry head insn false (Stores stored_access)

    pub adds_a_store : IsEntry stored_entry → HasNone early head → IsStore insn → length put ≡ extent.len
        → ((x : ℕ) → g head.hart head.tag x ≡ None) → Grown (Some stored_entry)
    adds_a_store k none is size unperformed =
        let keys : ℕ → Option Place = byte_places g stored_access in
        more insn false (Stores stored_access) k
        (are_of stored_access keys stored_entry.insn refl refl is.stores (length-replicate extent.len 0) size)
        (adds_store (part_at stored_access keys None)
        (adds_stores stored_access keys stored_entry.insn refl refl is.stores (length-replicate extent.len 0) size t
        (after (Some stored_entry))
        (same_early none) is.plain (λ k l. unperformed (extent.addr + k)) (is.acquire, ap is_rcsc is.release)))

  -- ---- AMOs and SCs that succeeded

  module _ (insn : Insn) (stored : Bool) (k : OpKind) (extent : Extent) (got : List ℕ) (aq rl : Ann) (b : OpenReport)
      (is : early_of early head.hart head.tag ≡ Some b)
      (over : early_extent b ≡ extent) (got_len : length got ≡ extent.len) (put_len : length b.piece.bytes ≡ extent.len)
      (kinds : kind_of_insn insn stored ≡ Some k) where
    abbrev o : Op
    o = bypass_op k extent got aq rl b

    abbrev atomic_entry : Entry
    atomic_entry = entry head insn stored (Fixed (o ∷ []))

    key : In b early × (b.hart ≡ head.hart) × (b.tag ≡ head.tag)
    key = early_key early head.hart head.tag b is

    atomic_of : AreOf atomic_entry.insn (o ∷ [])
    atomic_of = record {
      own = λ v h. subst (λ (z : Op). (z.name.hart ≡ head.hart) × (z.name.tag ≡ head.tag)) (sym (only v h))
          (key.1, key.2);
      kinds = λ v h. subst (λ (z : Op). kind_of_insn insn stored ≡ Some z.kind) (sym (only v h)) kinds;
      whole = λ v h. subst IsWhole (sym (only v h)) (whole_op (bypass_access k extent got aq rl b) (λ j. true)
          (Some (place_of_report b)) 0 extent.sized.0 refl got_len put_len);
      parts = λ v h. subst IsNamed (sym (only v h)) (named_op (bypass_access k extent got aq rl b) (λ j. true)
          (Some (place_of_report b)) 0 extent.sized.0 refl);
      extents = λ u v h i. ap (λ (z : Op). z.extent) (only u h ∙ sym (only v i));
      disjoint = λ u v x h i c d. only u h ∙ sym (only v i);
    }
      where
        only : (v : Op) → Contains (o ∷ []) v → v ≡ o
        only v h = elim (listed (o ∷ []) v h) [ inl e ↦ e | inr i ↦ absurd i ]

    pub adds_an_atomic : IsEntry atomic_entry → is_amo_or_sc insn ≡ true
        → ((r : OpenReport) → In r early → is_report head.hart head.tag r ≡ true → r ≡ b)
        → (is_sc insn ≡ true → (l : Op) × IsPair (after (Some atomic_entry)) l o × IsCoveredBy o l)
        → Grown (Some atomic_entry)
    adds_an_atomic made atomic one pairs =
        more insn stored (Fixed (o ∷ [])) made atomic_of
        (adds_atomic (early_op b) o (adds_atomic_of early head.hart head.tag b is one t (after (Some atomic_entry))
        atomic_entry.insn k extent got aq rl refl refl atomic over pairs))

    -- ---- the pair of an SC

    module _ (made : IsEntry atomic_entry) (sc : is_sc insn ≡ true) (success : stored ≡ true) (p : Pair)
        (l : HasLr es head.hart p) where
      lr_own : IsOf l.entry.insn l.op
      lr_own = (good.each l.entry l.there).own (l.op ∷ []) l.op l.memory (inl refl)

      rising : AreRising (insns_of (atomic_entry ∷ es))
      rising = (good_more atomic_entry made refl refl).rising

      lr_insn : insn_at (insns_of (atomic_entry ∷ es)) l.op.name.hart l.op.name.tag ≡ Some l.entry.insn
      lr_insn = ap (λ z. insn_at (insns_of (atomic_entry ∷ es)) z l.op.name.tag) lr_own.0
          ∙ ap (insn_at (insns_of (atomic_entry ∷ es)) l.entry.insn.hart) lr_own.1
          ∙ named_self (insns_of (atomic_entry ∷ es)) l.entry.insn rising
          (contained _ _ (insn_in (atomic_entry ∷ es) l.entry (inr l.there)))

      sc_insn : insn_at (insns_of (atomic_entry ∷ es)) o.name.hart o.name.tag ≡ Some atomic_entry.insn
      sc_insn = ap (λ z. insn_at (insns_of (atomic_entry ∷ es)) z b.tag) key.1
          ∙ ap (insn_at (insns_of (atomic_entry ∷ es)) head.hart) key.2
          ∙ named_self (insns_of (atomic_entry ∷ es)) atomic_entry.insn rising
          (contained _ _ (insn_in (atomic_entry ∷ es) atomic_entry (inl refl)))

      -- no LR or SC is between them
      between : (n : ℕ) → l.op.name.tag < n → n < o.name.tag → (w : Option Retired)
          → insn_at (insns_of (atomic_entry ∷ es)) l.op.name.hart n ≡ w → is_one reserves w ≡ true → ⊥
      between n lo hi None e r = false≢true r
      between n lo hi (Some w) e r =
          let f = found_in (insns_of (atomic_entry ∷ es)) l.op.name.hart n w e in
          let y = from_insn (atomic_entry ∷ es) w (listed _ w f.0) in
          at y.0 y.1 y.2 f.1 f.2
        where
          at : (v : Entry) → In v (atomic_entry ∷ es) → w ≡ v.insn → w.hart ≡ l.op.name.hart → w.tag ≡ n → ⊥
          at v (inl q) same h t =
              let a = ap (λ (z : Retired). z.tag) same in
              let c = ap (λ (z : Entry). z.insn.tag) q in
              omega (arith, hi, key.2, a, c, t)
          at v (inr j) same h t =
              let a = ap (λ (z : Retired). z.tag) same in
              let hart : v.insn.hart ≡ head.hart = sym (ap (λ (z : Retired). z.hart) same) ∙ h ∙ lr_own.0 ∙ l.hart in
              let later : l.entry.insn.tag < v.insn.tag = omega (arith, lo, lr_own.1, a, t) in
              both_ways _ (l.last v j hart later) (ap reserves (ap (λ (z : Retired). z.insn) (sym same)) ∙ r)

      pub is_pair : IsPair (after (Some atomic_entry)) l.op o
      is_pair = record {
        lr_in = contained (after (Some atomic_entry)).ops l.op
            (inr (in_flat (entry_ops g) es l.entry l.op l.there
            (subst (λ m. In l.op (memory_ops g m)) (sym l.memory) (inl refl))));
        sc_in = contained (after (Some atomic_entry)).ops o (inl refl);
        one_hart = key.1 ∙ sym l.hart ∙ sym lr_own.0;
        in_order = let a = younger l.entry l.there l.hart in omega (arith, a, lr_own.1, key.2);
        paired = (
          ap (is_one is_lr) lr_insn ∙ l.lr,
          ap (is_one is_sc) sc_insn ∙ sc,
          λ r. between r.0 r.1 r.2 _ refl r.3,
        );
        stored = ap has_stored sc_insn ∙ and_from _ _ sc success;
      }

      pub is_within : (addr len : ℕ) → extent.addr ≡ addr → extent.len ≡ len → p.addr ≤ addr → addr + len ≤ p.addr
          + p.len → IsCoveredBy o l.op
      is_within addr len a c lo hi x h =
          let y = covers_parts (bypass_access k extent got aq rl b) (λ j. true) (Some (place_of_report b)) x h in
          l.whole x (let m = y.0.0 in omega (arith, m, a, lo)) (let m = y.0.1 in omega (arith, m, a, c, hi))

  -- ---- all of them

  module _ (fresh : (r : OpenReport) → In r live → r.tag ≡ head.tag → (v : Op) → In v (everything t) → v.place
      ≡ Some (place_of_report r) → ⊥)
      (one : (q r : OpenReport) → In q early → In r early → q.hart ≡ r.hart → q.tag ≡ r.tag → q ≡ r)
      (unperformed : (x : ℕ) → g head.hart head.tag x ≡ None)
      (paired : (p : Pair) → pair ≡ Some p → HasLr es head.hart p) where
    abbrev Grows : Doing → Type 0
    Grows d = Grown (entry_of live early head put d)

    made_of : (d : Doing) → SuitsDoing live early pair head put d → (e : Entry) → entry_of live early head put d
        ≡ Some e → IsEntry e
    made_of = made_entry live early pair head put

    only_bypass : (b : OpenReport) → early_of early head.hart head.tag ≡ Some b → (r : OpenReport) → In r early
        → is_report head.hart head.tag r ≡ true → r ≡ b
    only_bypass b is r i q =
        let k = early_key early head.hart head.tag b is in
        let s = and_parts (eqb r.hart head.hart) (eqb r.tag head.tag) q in
        one r b i k.0 (eqb-true _ _ s.0 ∙ sym k.1) (eqb-true _ _ s.1 ∙ sym k.2)

    over_is : (b : OpenReport) (addr len : ℕ) → IsOver addr len b → early_extent b ≡ extent_of addr len
    over_is b addr len v = λ i. extent_of (v.0 i) (v.1 i)

    amo_grows : (insn : Insn) (addr len : ℕ) → SuitsDoing live early pair head put (amo insn addr len)
        → Grows (amo insn addr len)
    amo_grows insn addr len s =
        let x = extent_is addr len s.2 in
        let is = amo_kind insn s.1 in
        let b = s.0 in
        let got : List ℕ = bytes_counted live head.tag (extent_of addr len).addr (extent_of addr len).len in
        subst (λ (r : Option OpenReport). Grown (Some (entry head insn false
        (Fixed (atomic_ops kind.Both (extent_of addr len) got (acquire_of insn) (release_of insn) r))))) (sym b.is)
        (adds_an_atomic insn false kind.Both (extent_of addr len) got (acquire_of insn) (release_of insn) b.report b.is
        (over_is b.report addr len b.over)
        (counted_length live head.tag (extent_of addr len).addr (extent_of addr len).len) (b.over.1 ∙ sym x.len_is)
        is.both
        (made_of (amo insn addr len) s _ (ap (λ (r : Option OpenReport). Some
        (entry head insn false (Fixed (atomic_ops kind.Both (extent_of addr len) got (acquire_of insn)
        (release_of insn) r)))) b.is))
        is.atomic (only_bypass b.report b.is) (λ q. absurd (both_ways _ is.no_sc q)))

    abbrev sc_at : Insn → Extent → Option OpenReport → Entry
    sc_at insn extent r = entry head insn (is_some r) (Fixed
        (atomic_ops kind.Store extent (replicate extent.len 0) (acquire_of insn) (release_of insn) r))

    sc_grows : (insn : Insn) (addr len : ℕ) → SuitsDoing live early pair head put (sc insn addr len)
        → Grows (sc insn addr len)
    sc_grows insn addr len s = at s.0
      where
        at : (early_of early head.hart head.tag ≡ None) ⊎ SuitsSc early pair head addr len → Grows (sc insn addr len)
        at (inl none) =
            subst (λ (r : Option OpenReport). Grown (Some (sc_at insn (extent_of addr len) r))) (sym none)
            (adds_none insn false (made_of (sc insn addr len) s _
            (ap (λ (r : Option OpenReport). Some (sc_at insn (extent_of addr len) r)) none)) (sc_kind insn s.1).failed
            (latest_none (is_report head.hart head.tag) early none))
        at (inr y) =
            let x = extent_is addr len s.2 in
            let is = sc_kind insn s.1 in
            let b = y.bypass in
            let l = paired y.paired.lr y.paired.is in
            let made = made_of (sc insn addr len) s _ (ap
            (λ (r : Option OpenReport). Some (sc_at insn (extent_of addr len) r)) b.is) in
            let over = over_is b.report addr len b.over in
            let got = length-replicate (extent_of addr len).len 0 in
            let size = b.over.1 ∙ sym x.len_is in
            subst (λ (r : Option OpenReport). Grown (Some (sc_at insn (extent_of addr len) r))) (sym b.is)
            (adds_an_atomic insn true kind.Store (extent_of addr len) (replicate (extent_of addr len).len 0)
            (acquire_of insn) (release_of insn) b.report b.is over got size is.stored
            made is.atomic (only_bypass b.report b.is)
            (λ q. (
              l.op,
              is_pair insn true kind.Store (extent_of addr len) _ _ _ b.report b.is over got size is.stored made is.sc
                  refl y.paired.lr l,
              is_within insn true kind.Store (extent_of addr len) _ _ _ b.report b.is over got size is.stored made is.sc
                  refl y.paired.lr l addr len x.addr_is x.len_is y.paired.first y.paired.last,
            )))

    pub retire_grows : (d : Doing) → SuitsDoing live early pair head put d → Grows d
    retire_grows (trap cause value) s = traps s
    retire_grows (plain insn) s = adds_none insn false (made_of (plain insn) s _ refl) (plain_quiet insn s.1).nothing
        s.0
    retire_grows (counter insn) s = adds_none insn false (made_of (counter insn) s _ refl)
        (counter_quiet insn s.1).nothing s.0
    retire_grows (load insn addr len) s =
        let x = extent_is addr len s.0.sized in
        let is = load_kind insn s.1 in
        adds_a_load fresh insn (extent_of addr len) (counted_place live head.tag addr len (extent_of addr len) x.addr_is
        x.len_is s.0.counted)
        (made_of (load insn addr len) s _ refl) s.0.none is.loads (λ q. absurd (both_ways _ is.no_lr q))
    retire_grows (lr insn addr len) s =
        let x = extent_is addr len s.0.sized in
        let is = lr_kind insn s.1 in
        adds_a_load fresh insn (extent_of addr len) (counted_place live head.tag addr len (extent_of addr len) x.addr_is
        x.len_is s.0.counted)
        (made_of (lr insn addr len) s _ refl) s.0.none is.loads
        (λ q. (
          one_read live head insn addr len (extent_of addr len) x.addr_is x.len_is s.0.one,
          λ l. aligned_of addr len (extent_of addr len) x.addr_is x.len_is s.0.aligned s.0.width,
        ))
    retire_grows (store insn addr len) s =
        let x = extent_is addr len s.0.sized in
        adds_a_store insn (extent_of addr len) (made_of (store insn addr len) s _ refl) s.0.none (store_kind insn s.1)
        (s.0.stored ∙ sym x.len_is) unperformed
    retire_grows (sc insn addr len) s = sc_grows insn addr len s
    retire_grows (amo insn addr len) s = amo_grows insn addr len s
