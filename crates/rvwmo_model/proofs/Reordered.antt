-- The order of the lists of operations changes no answer.
use Rattle.std.proofs.Common.{ℕ, ◌/◌, ◌<◌, ◌≡◌, inl, inr, true, List, Bool, ◌||◌, Option, Some, None}
use Rattle.std.proofs.Common.{refl, sym, ap, subst, ◌∙◌}
use Rattle.std.specs.List.{Contains}
use Rattle.std.proofs.lemmas.List.Elements.{Contains-append_cases, Contains-append_left, Contains-append_right}
use Rattle.rv_decode.specs.declared.instruction.Insn.{Insn}
use Rattle.rvwmo_model.specs.declared.answers.Judged.{Judged}
use Rattle.rvwmo_model.specs.declared.answers.Judged.TheVariants as judged
use Rattle.rvwmo_model.specs.declared.instructions.Retired.{Retired}
use Rattle.rvwmo_model.specs.declared.operations.Op.{Op}
use Rattle.rvwmo_model.specs.declared.traces.Trace.{Trace}
use Rattle.rvwmo_model.specs.Order.{everything}
use Rattle.rvwmo_model.specs.ProgramOrder.{insn_at, insn_of, is_one}
use Rattle.rvwmo_model.specs.Sources.{source, origin_of, origin, byte_from, IsWriter}
use Rattle.rv_decode.specs.Kinds.{is_lr, is_sc, is_amo_or_sc}
use Rattle.rvwmo_model.specs.InsnKinds.{has_stored, fence_orders}
use Rattle.rvwmo_model.specs.Flows.{AddressDep, DataDep, BranchDep}
use Rattle.rvwmo_model.specs.Rules.{SomeBetween, StoresTo, ReadsFrom, Paired, Orders, Broken, Rule}
use Rattle.rvwmo_model.specs.Rules.{R1, R2, R3, R4, R5, R6, R7, R8, R9, R10, R11, R12, R13}
use Rattle.rvwmo_model.specs.Atomicity.{IsPair, Unpaired, IsAfter, IsLate, Intrudes, IsTornAt, WritesBlock}
use Rattle.rvwmo_model.specs.Atomicity.{IntrudesBlock, Torn}
use Rattle.rvwmo_model.specs.Legal.{WrongValue}
use Rattle.rvwmo_model.specs.Report.{IsLeast, IsLowest, IsLatest, IsSecond, IsReportedPair, HasWrong, IsTorn}
use Rattle.rvwmo_model.specs.Report.{IsForeign, Blamed, late, foreign, TornBy, byte, block, AllPaired, AllRight}
use Rattle.rvwmo_model.specs.Report.{AllOrdered, IsAnswer}
use Rattle.rvwmo_model.specs.InForm.{InForm}
use Rattle.rvwmo_model.specs.Laws.{IsReordered, AnswerOfMembers}
use Rattle.rvwmo_model.proofs.Latest.{source_is, source_is_none}
use Rattle.rvwmo_model.proofs.Totality.{stand_alike}

-- what the answer reads of a trace, the same in both
pub record Alike (t t' : Trace) : Type 0 where
  pub insns : t'.insns ≡ t.insns
  pub ops_on : (o : Op) → Contains t.ops o → Contains t'.ops o
  pub ops_back : (o : Op) → Contains t'.ops o → Contains t.ops o
  pub all_on : (o : Op) → Contains (everything t) o → Contains (everything t') o
  pub granule : t'.granule ≡ t.granule
  pub sources : (i : Op) (x : ℕ) → source t' i x ≡ source t i x

writer_on : (t t' : Trace) (i : Op) (x : ℕ) (w : Op) → ((o : Op) → Contains t.ops o → Contains t'.ops o)
    → ((o : Op) → Contains t.early o → Contains t'.early o) → IsWriter t i x w → IsWriter t' i x w
writer_on t t' i x w f g (inl h) = inl (f w h.0, h.1, h.2)
writer_on t t' i x w f g (inr h) = inr (g w h.0, h.1, h.2)

writer_in : (t : Trace) (i : Op) (x : ℕ) (w : Op) → IsWriter t i x w → Contains (everything t) w
writer_in t i x w (inl h) = Contains-append_left t.ops t.early w h.0
writer_in t i x w (inr h) = Contains-append_right t.ops t.early w h.0

-- sources are the same
same_source : (t t' : Trace) → InForm t → IsReordered t t' → (i : Op) (x : ℕ) → source t' i x ≡ source t i x
same_source t t' form r i x = at (source t i x) refl (source t' i x) refl
  where
    on : (w : Op) → IsWriter t i x w → IsWriter t' i x w
    on w h = writer_on t t' i x w (λ o. (r.ops o).0) (λ o. (r.early o).0) h

    back : (w : Op) → IsWriter t' i x w → IsWriter t i x w
    back w h = writer_on t' t i x w (λ o. (r.ops o).1) (λ o. (r.early o).1) h

    at : (m : Option Op) → source t i x ≡ m → (n : Option Op) → source t' i x ≡ n → source t' i x ≡ source t i x
    at None e None f = f ∙ sym e
    at None e (Some u) f = absurd (source_is_none t i x e u (back u (source_is t' i x u f).0))
    at (Some s) e None f = absurd (source_is_none t' i x f s (on s (source_is t i x s e).0))
    at (Some s) e (Some u) f =
        let a = source_is t i x s e in
        let b = source_is t' i x u f in
        let w : IsWriter t i x u = back u b.0 in
        let same : u ≡ s =
        stand_alike t u s form (writer_in t i x u w) (writer_in t i x s a.0) (b.1 s (on s a.0)) (a.1 u w) in
        f ∙ ap (λ (o : Op). Some o) same ∙ sym e

pub alike : (t t' : Trace) → InForm t → IsReordered t t' → Alike t t'
alike t t' form r = record {
  insns = r.insns;
  ops_on = λ o. (r.ops o).0;
  ops_back = λ o. (r.ops o).1;
  all_on = λ o h. elim (Contains-append_cases t.ops t.early o h) [
    | inl a ↦ Contains-append_left t'.ops t'.early o ((r.ops o).0 a)
    | inr a ↦ Contains-append_right t'.ops t'.early o ((r.early o).0 a)
  ];
  granule = r.granule;
  sources = same_source t t' form r;
}

pub flip : (t t' : Trace) → IsReordered t t' → IsReordered t' t
flip t t' r = record {
  insns = sym r.insns;
  ops = λ o. ((r.ops o).1, (r.ops o).0);
  early = λ o. ((r.early o).1, (r.early o).0);
  granule = sym r.granule;
}

-- ---- the words of the rules

module _ (t t' : Trace) (a : Alike t t') (z : Alike t' t) where
  one_on : (test : Insn → Bool) (h k : ℕ) → is_one test (insn_at t.insns h k) ≡ true
      → is_one test (insn_at t'.insns h k) ≡ true
  one_on test h k e = subst (λ (l : List Retired). is_one test (insn_at l h k) ≡ true) (sym a.insns) e

  stored_on : (w : Op) → has_stored (insn_of t w) ≡ true → has_stored (insn_of t' w) ≡ true
  stored_on w e =
      subst (λ (l : List Retired). has_stored (insn_at l w.name.hart w.name.tag) ≡ true) (sym a.insns) e

  origin_on : (i : Op) (x : ℕ) → origin t' i x ≡ origin t i x
  origin_on i x = ap origin_of (a.sources i x)

  between_back : (b c : Op) (x : ℕ) → SomeBetween (StoresTo t' b.name.hart x) b c
      → SomeBetween (StoresTo t b.name.hart x) b c
  between_back b c x s = (s.0, s.1, s.2, (s.3.0, a.ops_back s.3.0 s.3.1, s.3.2, s.3.3, s.3.4))

  reads_on : (b : Op) (h k : ℕ) → ReadsFrom t b h k → ReadsFrom t' b h k
  reads_on b h k g = (g.0, g.1, g.2, a.sources b g.0 ∙ g.3, a.ops_on g.1 g.4, g.5, g.6)

  paired_on : (b c : Op) → Paired t b c → Paired t' b c
  paired_on b c p = (
    one_on is_lr b.name.hart b.name.tag p.0,
    one_on is_sc c.name.hart c.name.tag p.1,
    λ s. p.2 (
      s.0,
      s.1,
      s.2,
      subst
          (λ (l : List Retired). is_one (λ w. is_lr w || is_sc w) (insn_at l b.name.hart s.0) ≡ true) a.insns s.3,
    ),
  )

  address_on : (h j i : ℕ) → AddressDep t.insns h j i → AddressDep t'.insns h j i
  address_on h j i d = subst (λ (l : List Retired). AddressDep l h j i) (sym a.insns) d

  data_on : (h j i : ℕ) → DataDep t.insns h j i → DataDep t'.insns h j i
  data_on h j i d = subst (λ (l : List Retired). DataDep l h j i) (sym a.insns) d

  branch_on : (h j i : ℕ) → BranchDep t.insns h j i → BranchDep t'.insns h j i
  branch_on h j i d = subst (λ (l : List Retired). BranchDep l h j i) (sym a.insns) d

  holds_on : (k : Rule) (b c : Op) → Orders k t b c → Orders k t' b c
  holds_on R1 b c h = h
  holds_on R2 b c h = (
    h.0,
    h.1,
    h.2,
    (λ s. h.3 (between_back b c h.0 s)),
    λ q. h.4 (sym (origin_on b h.0) ∙ q ∙ origin_on c h.0),
  )
  holds_on R3 b c h =
      (one_on is_amo_or_sc b.name.hart b.name.tag h.0, reads_on c b.name.hart b.name.tag h.1)
  holds_on R4 b c h = (h.0, h.1, h.2, one_on (λ w. fence_orders w b.kind c.kind) b.name.hart h.0 h.3)
  holds_on R5 b c h = h
  holds_on R6 b c h = h
  holds_on R7 b c h = h
  holds_on R8 b c h = paired_on b c h
  holds_on R9 b c h = address_on b.name.hart c.name.tag b.name.tag h
  holds_on R10 b c h = data_on b.name.hart c.name.tag b.name.tag h
  holds_on R11 b c h =
      (h.0, (h.1.0, h.1.1, h.1.2, branch_on b.name.hart h.1.0 b.name.tag h.1.3))
  holds_on R12 b c h = (
    h.0,
    h.1,
    h.2,
    (
      elim h.3.0 [
        | inl d ↦ inl (address_on b.name.hart h.0 b.name.tag d)
        | inr d ↦ inr (data_on b.name.hart h.0 b.name.tag d)
      ],
      reads_on c b.name.hart h.0 h.3.1,
    ),
  )
  holds_on R13 b c h =
      (h.0, (h.1.0, h.1.1, h.1.2, address_on b.name.hart h.1.0 b.name.tag h.1.3))

  broken_on : (k : Rule) (b c : Op) → Broken k t b c → Broken k t' b c
  broken_on k b c p = record {
    first_in = a.ops_on b p.first_in;
    second_in = a.ops_on c p.second_in;
    one_hart = p.one_hart;
    in_order = p.in_order;
    rule = holds_on k b c p.rule;
    against = p.against;
  }

  -- ---- values and pairs

  pub wrong_on : (initial : ℕ → ℕ) (i : Op) (x : ℕ) → WrongValue initial t i x → WrongValue initial t' i x
  wrong_on initial i x v = record {
    load_in = a.ops_on i v.load_in;
    loads = v.loads;
    wrong = λ e. v.wrong (e ∙ ap (λ (o : Option Op). byte_from initial o x) (a.sources i x));
  }

  pair_on : (r w : Op) → IsPair t r w → IsPair t' r w
  pair_on r w p = record {
    lr_in = a.ops_on r p.lr_in;
    sc_in = a.ops_on w p.sc_in;
    one_hart = p.one_hart;
    in_order = p.in_order;
    paired = paired_on r w p.paired;
    stored = stored_on w p.stored;
  }

  -- ---- atomicity

  late_on : (r w : Op) (x : ℕ) → IsLate (source t r x) w → IsLate (source t' r x) w
  late_on r w x l = subst (λ (o : Option Op). IsLate o w) (sym (a.sources r x)) l

  intrudes_on : (r w v : Op) (x : ℕ) → Intrudes t r w v x → Intrudes t' r w v x
  intrudes_on r w v x i = record {
    store_in = a.all_on v i.store_in;
    stores = i.stores;
    other = i.other;
    after = subst (λ (o : Option Op). IsAfter o v) (sym (a.sources r x)) i.after;
    before = i.before;
  }

  torn_at_on : (r w : Op) (x : ℕ) → IsTornAt t r w x → IsTornAt t' r w x
  torn_at_on r w x h =
      (h.0, elim h.1 [ inl l ↦ inl (late_on r w x l) | inr i ↦ inr (i.0, intrudes_on r w i.0 x i.1) ])

  writes_block_on : (r v : Op) (x : ℕ) → WritesBlock t r v x → WritesBlock t' r v x
  writes_block_on r v x h =
      (h.0, subst (λ (g : ℕ). (0 < g) × (x / g ≡ r.extent.addr / g)) (sym a.granule) h.1)

  intrudes_block_on : (r w v : Op) → IntrudesBlock t r w v → IntrudesBlock t' r w v
  intrudes_block_on r w v i = record {
    store_in = a.all_on v i.store_in;
    stores = (i.stores.0, writes_block_on r v i.stores.0 i.stores.1);
    other = i.other;
    after = i.after;
    before = i.before;
  }

  pub torn_on : (r w : Op) → Torn t r w → Torn t' r w
  torn_on r w p = record {
    pair = pair_on r w p.pair;
    torn = elim p.torn [
      | inl x ↦ inl (x.0, torn_at_on r w x.0 x.1)
      | inr v ↦ inr (v.0, intrudes_block_on r w v.0 v.1)
    ];
  }

  foreign_on : (w : Op) (x : ℕ) (v : Op) → IsForeign t w x v → IsForeign t' w x v
  foreign_on w x v i =
      record { store_in = a.all_on v i.store_in; stores = i.stores; other = i.other; before = i.before }

-- ---- choices

pub least_on : (P Q : Op → Type 0) (o : Op) → ((v : Op) → P v → Q v) → ((v : Op) → Q v → P v) → IsLeast P o
    → IsLeast Q o
least_on P Q o f g l = record { offends = f o l.offends; least = λ v q. l.least v (g v q) }

pub lowest_on : (P Q : ℕ → Type 0) (x : ℕ) → ((y : ℕ) → P y → Q y) → ((y : ℕ) → Q y → P y) → IsLowest P x
    → IsLowest Q x
lowest_on P Q x f g l = record { here = f x l.here; lowest = λ y q. l.lowest y (g y q) }

latest_on : (P Q : Op → Type 0) (v : Op) → ((o : Op) → P o → Q o) → ((o : Op) → Q o → P o) → IsLatest P v
    → IsLatest Q v
latest_on P Q v f g l = record { here = f v l.here; latest = λ u q. l.latest u (g u q) }

module _ (t t' : Trace) (a : Alike t t') (z : Alike t' t) where
  unpaired_on : (w : Op) → Unpaired t w → Unpaired t' w
  unpaired_on w u = record {
    sc_in = a.ops_on w u.sc_in;
    stored = stored_on t t' a z w u.stored;
    alone = λ r p. u.alone r (pair_on t' t z a r w p);
  }

  all_paired_on : AllPaired t → AllPaired t'
  all_paired_on h w u = h w (record {
    sc_in = a.ops_back w u.sc_in;
    stored = stored_on t' t z a w u.stored;
    alone = λ r p. u.alone r (pair_on t t' a z r w p);
  })

  all_right_on : (initial : ℕ → ℕ) → AllRight initial t → AllRight initial t'
  all_right_on initial h i x v = h i x (wrong_on t' t z a initial i x v)

  pub all_ordered_on : AllOrdered t → AllOrdered t'
  all_ordered_on h k b c p = h k b c (broken_on t' t z a k b c p)

  blamed_on : (r w : Op) (x : ℕ) (s : Op) → Blamed t r w x s → Blamed t' r w x s
  blamed_on r w x _ (late s e p) = late s (a.sources r x ∙ e) p
  blamed_on r w x _ (foreign s n l) = foreign s (λ m. n (late_on t' t z a r w x m))
      (latest_on (IsForeign t w x) (IsForeign t' w x) s (foreign_on t t' a z w x) (foreign_on t' t z a w x) l)

  pub shown_on : (r w : Op) (x : ℕ) (s : Op) → TornBy t r w x s → TornBy t' r w x s
  shown_on r w _ _ (byte x s l b) = byte x s
      (lowest_on (IsTornAt t r w) (IsTornAt t' r w) x (torn_at_on t t' a z r w) (torn_at_on t' t z a r w) l)
      (blamed_on r w x s b)
  shown_on r w _ _ (block x s n l m) = block x s (λ y h. n y (torn_at_on t' t z a r w y h))
      (latest_on (IntrudesBlock t r w) (IntrudesBlock t' r w) s (intrudes_block_on t t' a z r w)
      (intrudes_block_on t' t z a r w) l)
      (lowest_on (WritesBlock t r s) (WritesBlock t' r s) x (writes_block_on t t' a z r s)
      (writes_block_on t' t z a r s) m)

  pub reported_on : (k : Rule) (b c : Op) → IsReportedPair t k b c → IsReportedPair t' k b c
  reported_on k b c p = record {
    rule = λ j l d e q. p.rule j l d e (broken_on t' t z a j d e q);
    second = least_on (IsSecond k t) (IsSecond k t') c (λ v q. (q.0, broken_on t t' a z k q.0 v q.1))
        (λ v q. (q.0, broken_on t' t z a k q.0 v q.1)) p.second;
    first = latest_on (λ d. Broken k t d c) (λ d. Broken k t' d c) b (λ d q. broken_on t t' a z k d c q)
        (λ d q. broken_on t' t z a k d c q) p.first;
  }

  answer_on : (initial : ℕ → ℕ) (j : Judged) → IsAnswer initial t j → IsAnswer initial t' j
  answer_on initial judged.Legal h = record {
    ordered = all_ordered_on h.ordered;
    valued = all_right_on initial h.valued;
    paired = all_paired_on h.paired;
    atomic = λ r w p. h.atomic r w (torn_on t' t z a r w p);
  }
  answer_on initial (judged.Pair name) h =
      record {
        sc = h.sc;
        named = h.named;
        least = least_on (Unpaired t) (Unpaired t') h.sc unpaired_on (λ w u. unpaired_back w u) h.least;
      }
    where
      unpaired_back : (w : Op) → Unpaired t' w → Unpaired t w
      unpaired_back w u = record {
        sc_in = a.ops_back w u.sc_in;
        stored = stored_on t' t z a w u.stored;
        alone = λ r p. u.alone r (pair_on t t' a z r w p);
      }
  answer_on initial (judged.Value name x want got) h = record {
    paired = all_paired_on h.paired;
    load = h.load;
    named = h.named;
    least =
        least_on (HasWrong initial t) (HasWrong initial t') h.load (λ v q. (q.0, wrong_on t t' a z initial v q.0 q.1))
        (λ v q. (q.0, wrong_on t' t z a initial v q.0 q.1)) h.least;
    lowest =
        lowest_on (WrongValue initial t h.load) (WrongValue initial t' h.load) x (wrong_on t t' a z initial h.load)
        (wrong_on t' t z a initial h.load) h.lowest;
    wanted = h.wanted ∙ ap (λ (o : Option Op). byte_from initial o x) (sym (a.sources h.load x));
    loaded = h.loaded;
  }
  answer_on initial (judged.Order rule first second) h = record {
    paired = all_paired_on h.paired;
    right = all_right_on initial h.right;
    broken = h.broken;
    before = h.before;
    after = h.after;
    numbered = h.numbered;
    first_named = h.first_named;
    second_named = h.second_named;
    reported = reported_on h.broken h.before h.after h.reported;
  }
  answer_on initial (judged.Atomicity name x store) h = record {
    paired = all_paired_on h.paired;
    right = all_right_on initial h.right;
    ordered = all_ordered_on h.ordered;
    sc = h.sc;
    lr = h.lr;
    blamed = h.blamed;
    named = h.named;
    least =
        least_on (IsTorn t) (IsTorn t') h.sc (λ v q. (q.0, torn_on t t' a z q.0 v q.1))
        (λ v q. (q.0, torn_on t' t z a q.0 v q.1)) h.least;
    torn = torn_on t t' a z h.lr h.sc h.torn;
    shown = shown_on h.lr h.sc x h.blamed h.shown;
    keyed = h.keyed;
  }

pub answer_of_members : AnswerOfMembers
answer_of_members initial t t' j f f' r =
    let a = alike t t' f r in
    let z = alike t' t f' (flip t t' r) in
    (answer_on t t' a z initial j, answer_on t' t z a initial j)
