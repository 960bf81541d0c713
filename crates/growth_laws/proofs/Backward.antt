-- What is wrong of old operations after a step was wrong before it, where sources are the same.
use Rattle.std.proofs.Common.{ℕ, ◌<◌, ◌≡◌, ◌⊎◌, inl, inr, true, Option, Some, None, refl, sym, ap, subst}
use Rattle.std.proofs.Common.{◌∙◌}
use Rattle.std.proofs.lemmas.Bool.{both_ways, and_parts, and_from}
use Rattle.std.specs.List.{Contains}
use Rattle.std.proofs.lemmas.List.Elements.{Contains-append_left}
use Rattle.rvwmo_model.specs.declared.operations.Op.{Op}
use Rattle.rvwmo_model.specs.declared.preserved.Rule.{Rule}
use Rattle.rvwmo_model.specs.declared.preserved.Rule.TheVariants.{R1, R2, R3, R4, R5, R6, R7, R8, R9, R10, R11, R12}
use Rattle.rvwmo_model.specs.declared.preserved.Rule.TheVariants.{R13}
use Rattle.rvwmo_model.specs.declared.traces.Trace.{Trace}
use Rattle.rvwmo_model.specs.Order.{kind_stores, standing, precedes, writes, reads, has_byte, op_stores, everything}
use Rattle.rvwmo_model.specs.ProgramOrder.{insn_at, is_one}
use Rattle.rvwmo_model.specs.Sources.{source, origin}
use Rattle.rvwmo_model.specs.Rules.{SomeBetween, StoresTo, AddressOn, DataOn, Orders, Broken}
use Rattle.rvwmo_model.specs.Atomicity.{IsPair, IsAfter, IsLate, IsTornAt, IntrudesBlock, Torn}
use Rattle.rvwmo_model.specs.InForm.{IsPlaced}
use Rattle.rvwmo_model.specs.Legal.{WrongValue}
use Rattle.rvwmo_model.proofs.Orders.{before_asym}
use Rattle.growth_laws.specs.Kinds.{WellKinded}
use Rattle.growth_laws.specs.Writers.{SameSource, WritersGo}
use Rattle.growth_laws.proofs.Places.{place_cases, not_both, unplaced_after, before_placed, rank_kept}
use Rattle.growth_laws.proofs.Sources.{same_origin}
use Rattle.growth_laws.proofs.Links.{OpsGo}
use Rattle.growth_laws.proofs.SameInsns.{address_on, data_on, branch_on, paired_on}
use Rattle.growth_laws.proofs.ReadOperations.{reads_still, reads_dependent_still}
use Rattle.growth_laws.proofs.Lawful.{same_given, sc_placed}
use Rattle.rv_decode.specs.Kinds.{is_amo_or_sc}
use Rattle.rvwmo_model.specs.InsnKinds.{fence_orders, has_stored}

-- a source that is too late was too late
late_back : (t t' : Trace) (x : ℕ) (w : Op) → IsPlaced w → (o n : Option Op) → SameSource t t' x o n → IsLate n w
    → IsLate o w
late_back t t' x w pw None None h l = l
late_back t t' x w pw (Some s) (Some n) h l =
    elim (place_cases s) [ inl p ↦ rw (← rank_kept t s n p h.becomes) l | inr e ↦ unplaced_after s w e pw ]
late_back t t' x w pw None (Some n) h l = absurd h
late_back t t' x w pw (Some s) None h l = absurd h

-- a store that comes after a source came after it
after_back : (t t' : Trace) (x : ℕ) (v n' : Op) → Contains (everything t) v → IsPlaced v → IsPlaced n'
    → standing n' ≡ standing v → (o n : Option Op) → SameSource t t' x o n → IsAfter n n' → IsAfter o v
after_back t t' x v n' hv pv pn e None None h a = a
after_back t t' x v n' hv pv pn e (Some s) (Some n) h a = elim (place_cases s) [
  | inl p ↦ rw (← rank_kept t s n p h.becomes, ← e) a
  | inr f ↦ elim h.becomes.place [
    | inl g ↦ absurd (both_ways _ (unplaced_after n n' (g ∙ f) pn) a)
    | inr m ↦ absurd (both_ways _ (before_asym (standing v) (standing n) (m.2 v hv pv)) (rw (← e) a))
  ]
]
after_back t t' x v n' hv pv pn e None (Some n) h a = absurd h
after_back t t' x v n' hv pv pn e (Some s) None h a = absurd h

module _ (t t' : Trace) (k : WellKinded t) (k' : WellKinded t') (go : (x : ℕ) → WritersGo t t' x) (g : OpsGo t t')
    (Q : Type 0) (same : (i : Op) (x : ℕ) → Contains t.ops i → reads x i ≡ true → SameSource t t' x (source t i x)
    (source t' i x) ⊎ Q) where
  origin_back : (i : Op) (x : ℕ) → Contains t.ops i → reads x i ≡ true → (origin t i x ≡ origin t' i x) ⊎ Q
  origin_back i x h q =
      elim (same i x h q) [ inl s ↦ inl (sym (same_origin t t' x (source t i x) (source t' i x) s)) | inr c ↦ inr c ]

  -- a store to x between two operations goes on
  store_goes : (a b : Op) (x : ℕ) → SomeBetween (StoresTo t a.name.hart x) a b
      → SomeBetween (StoresTo t' a.name.hart x) a b
  store_goes a b x s =
      let o = s.3.0 in
      let w = and_parts (op_stores o) (has_byte x o) s.3.4 in
      let l = g.lift o x s.3.1 w.1 in (
        s.0,
        s.1,
        s.2,
        (l.0, l.1, l.3.same.0 ∙ s.3.2, l.3.same.1 ∙ s.3.3, and_from _ _ (ap kind_stores l.4.kind ∙ w.0) l.2),
      )

  -- a rule between old operations held before, or a source changed
  pub holds_back : (r : Rule) (a b : Op) → Contains t.ops a → Contains t.ops b → b.name.hart ≡ a.name.hart
      → a.name.tag < b.name.tag → Orders r t' a b → Orders r t a b ⊎ Q
  holds_back r a b ha hb one lt = at r
    where
      still : (n : ℕ) → (n < b.name.tag) ⊎ (n ≡ b.name.tag) → insn_at t.insns a.name.hart n ≡ insn_at t'.insns
          a.name.hart n
      still n le = subst (λ (h : ℕ). insn_at t.insns h n ≡ insn_at t'.insns h n) one (sym (g.insns b n hb le))

      at : (r : Rule) → Orders r t' a b → Orders r t a b ⊎ Q
      at R1 h = inl h
      at R2 h = elim (origin_back a h.0 ha h.1) [
        | inr c ↦ inr c
        | inl e ↦ elim (origin_back b h.0 hb h.2) [
          | inr c ↦ inr c
          | inl f ↦ inl (h.0, h.1, h.2, (λ s. h.3 (store_goes a b h.0 s)), λ q. h.4 (sym e ∙ q ∙ f))
        ]
      ]
      at R3 h = elim (origin_back b h.1.0 hb h.1.2) [
        | inr c ↦ inr c
        | inl f ↦
            let q = ap (is_one is_amo_or_sc) (still a.name.tag (inl lt)) ∙ h.0 in
            inl (q, reads_still t' t b a.name.hart a.name.tag is_amo_or_sc k q h.1 f)
      ]
      at R4 h = inl (h.0, h.1, h.2, ap (is_one (λ w. fence_orders w a.kind b.kind)) (still h.0 (inl h.2)) ∙ h.3)
      at R5 h = inl h
      at R6 h = inl h
      at R7 h = inl h
      at R8 h = inl (paired_on t' t a b one lt still h)
      at R9 h = inl (address_on t' t a.name.hart b.name.tag still b.name.tag a.name.tag (inr refl) h)
      at R10 h = inl (data_on t' t a.name.hart b.name.tag still b.name.tag a.name.tag (inr refl) h)
      at R11 h =
          inl (
            h.0,
            (h.1.0, h.1.1, h.1.2, branch_on t' t a.name.hart b.name.tag still h.1.0 a.name.tag (inl h.1.2) h.1.3),
          )
      at R12 h = elim (origin_back b h.3.1.0 hb h.3.1.2) [
        | inr c ↦ inr c
        | inl f ↦
            let d : AddressOn t a h.0 ⊎ DataOn t a h.0 =
            elim h.3.0 [
              | inl d ↦ inl (address_on t' t a.name.hart b.name.tag still h.0 a.name.tag (inl h.2) d)
              | inr d ↦ inr (data_on t' t a.name.hart b.name.tag still h.0 a.name.tag (inl h.2) d)
            ] in
            inl (h.0, h.1, h.2, (d, reads_dependent_still t' t a b h.0 k d h.3.1 f))
      ]
      at R13 h =
          inl (
            h.0,
            (h.1.0, h.1.1, h.1.2, address_on t' t a.name.hart b.name.tag still h.1.0 a.name.tag (inl h.1.2) h.1.3),
          )

  pub broken_back : (r : Rule) (a b : Op) → Contains t.ops a → Contains t.ops b → Broken r t' a b → Broken r t a b ⊎ Q
  broken_back r a b ha hb p = elim (holds_back r a b ha hb p.one_hart p.in_order p.rule) [
    | inr c ↦ inr c
    | inl h ↦ inl (record {
      first_in = ha;
      second_in = hb;
      one_hart = p.one_hart;
      in_order = p.in_order;
      rule = h;
      against = p.against;
    })
  ]

  pub value_back : (initial : ℕ → ℕ) (i : Op) (x : ℕ) → Contains t.ops i → WrongValue initial t' i x
      → WrongValue initial t i x ⊎ Q
  value_back initial i x hi v = elim (same i x hi v.loads) [
    | inr c ↦ inr c
    | inl h ↦ inl (record {
      load_in = hi;
      loads = v.loads;
      wrong = λ e. v.wrong (e ∙ sym (same_given initial t t' x (source t i x) (source t' i x) h));
    })
  ]

  -- ---- atomicity

  pair_back : (r w : Op) → Contains t.ops r → Contains t.ops w → IsPair t' r w → IsPair t r w
  pair_back r w hr hw p = record {
    lr_in = hr;
    sc_in = hw;
    one_hart = p.one_hart;
    in_order = p.in_order;
    paired = paired_on t' t r w p.one_hart p.in_order still p.paired;
    stored = ap has_stored (sym (g.insns w w.name.tag hw (inr refl))) ∙ p.stored;
  }
    where
      still : (n : ℕ) → (n < w.name.tag) ⊎ (n ≡ w.name.tag) → insn_at t.insns r.name.hart n ≡ insn_at t'.insns
          r.name.hart n
      still n le = subst (λ (h : ℕ). insn_at t.insns h n ≡ insn_at t'.insns h n) p.one_hart (sym (g.insns w n hw le))

  -- v is a performed store that stands where n does
  record WasStore (n v : Op) (x : ℕ) : Type 0 where
    is : Contains (everything t) v
    stores : writes x v ≡ true
    hart : n.name.hart ≡ v.name.hart
    placed : IsPlaced v
    standing : standing n ≡ standing v

  -- a store before a performed operation stood there before
  store_back : (w n : Op) (x : ℕ) → Contains t.ops w → IsPlaced w → Contains (everything t') n → writes x n ≡ true
      → precedes n w ≡ true → (v : Op) × WasStore n v x
  store_back w n x hw pw h q b = elim ((go x).back n h q) [
    | inr m ↦
        absurd (both_ways _ (before_asym (standing n) (standing w) b)
        (m.0 w (Contains-append_left t.ops t.early w hw) pw))
    | inl v ↦ elim (place_cases v.0) [
      | inl p ↦ (
        v.0,
        record {
          is = v.1.was;
          stores = v.1.stored;
          hart = v.1.becomes.same.0;
          placed = p;
          standing = rank_kept t v.0 n p v.1.becomes;
        },
      )
      | inr e ↦ elim v.1.becomes.place [
        | inl f ↦ absurd (not_both n (before_placed n w pw b) (f ∙ e))
        | inr m ↦
            absurd (both_ways _ (before_asym (standing n) (standing w) b)
            (m.2 w (Contains-append_left t.ops t.early w hw) pw))
      ]
    ]
  ]

  torn_at_back : (r w : Op) (x : ℕ) → Contains t.ops r → Contains t.ops w → IsPair t r w → IsTornAt t' r w x
      → IsTornAt t r w x ⊎ Q
  torn_at_back r w x hr hw p h = elim (same r x hr h.0) [
    | inr c ↦ inr c
    | inl s ↦ inl (
      h.0,
      elim h.1 [
        | inl l ↦ inl (late_back t t' x w pw (source t r x) (source t' r x) s l)
        | inr i ↦
            let n = i.1 in
            let v = store_back w i.0 x hw pw n.store_in n.stores n.before in
            inr (
              v.0,
              record {
                store_in = v.1.is;
                stores = v.1.stores;
                other = λ e. n.other (v.1.hart ∙ e);
                after = after_back t t' x v.0 i.0 v.1.is v.1.placed (before_placed i.0 w pw n.before) v.1.standing
                    (source t r x) (source t' r x) s n.after;
                before = rw (← v.1.standing) n.before;
              },
            )
      ],
    )
  ]
    where
      pw : IsPlaced w
      pw = sc_placed t w k hw p.stored

  block_back : (r w n : Op) → Contains t.ops w → IsPair t r w → IntrudesBlock t' r w n → (v : Op)
      × IntrudesBlock t r w v
  block_back r w n hw p i =
      let x = i.stores.0 in
      let v = store_back w n x hw (sc_placed t w k hw p.stored) i.store_in i.stores.1.0 i.before in (
        v.0,
        record {
          store_in = v.1.is;
          stores = (x, (v.1.stores, (rw (← g.granule) i.stores.1.1.0, rw (← g.granule) i.stores.1.1.1)));
          other = λ e. i.other (v.1.hart ∙ e);
          after = rw (← v.1.standing) i.after;
          before = rw (← v.1.standing) i.before;
        },
      )

  pub torn_back : (r w : Op) → Contains t.ops r → Contains t.ops w → Torn t' r w → Torn t r w ⊎ Q
  torn_back r w hr hw p =
      let q = pair_back r w hr hw p.pair in
      elim p.torn [
        | inl x ↦ elim (torn_at_back r w x.0 hr hw q x.1) [
          | inl h ↦ inl (record { pair = q; torn = inl (x.0, h) })
          | inr c ↦ inr c
        ]
        | inr n ↦ inl (record { pair = q; torn = inr (block_back r w n.0 hw q n.1) })
      ]
