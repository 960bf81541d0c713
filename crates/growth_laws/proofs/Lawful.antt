-- A trace that is not legal does not become legal by one step.
use Rattle.std.proofs.Common.{ℕ, ◌<◌, ◌≡◌, ◌⊎◌, inl, inr, true, Option, Some, None, refl, sym, ap, subst, ◌∙◌}
use Rattle.std.proofs.lemmas.Bool.{and_parts}
use Rattle.std.specs.List.{Contains}
use Rattle.std.proofs.lemmas.List.Elements.{Contains-append_left}
use Rattle.rvwmo_model.specs.declared.instructions.Retired.{Retired}
use Rattle.rvwmo_model.specs.declared.operations.Op.{Op}
use Rattle.rvwmo_model.specs.declared.preserved.Rule.{Rule}
use Rattle.rvwmo_model.specs.declared.preserved.Rule.TheVariants.{R1}
use Rattle.rvwmo_model.specs.declared.traces.Trace.{Trace}
use Rattle.rvwmo_model.specs.Order.{standing, precedes, writes, has_byte, op_loads, everything}
use Rattle.rvwmo_model.specs.ProgramOrder.{insn_at, insn_of, is_one}
use Rattle.rvwmo_model.specs.Sources.{source, byte_from}
use Rattle.rvwmo_model.specs.Atomicity.{IsPair, IsAfter, IsLate, IsTornAt, IntrudesBlock, Torn}
use Rattle.rvwmo_model.specs.InForm.{IsPlaced}
use Rattle.rvwmo_model.specs.Legal.{WrongValue, Legal}
use Rattle.rvwmo_model.proofs.Orders.{before_asym}
use Rattle.growth_laws.specs.Kinds.{WellKinded}
use Rattle.growth_laws.specs.Writers.{SameSource, WritersGo}
use Rattle.growth_laws.specs.Laws.{HasBrokenBy, HasOverlap}
use Rattle.growth_laws.proofs.Places.{place_cases, rank_same, rank_kept, before_placed}
use Rattle.growth_laws.proofs.Facts.{load_placed}
use Rattle.growth_laws.proofs.Sources.{source_stays}
use Rattle.growth_laws.proofs.Links.{OpsGo}
use Rattle.growth_laws.proofs.Pairs.{has_overlap}
use Rattle.growth_laws.proofs.PlainStores.{plain_not, store_sc, store_lr}
use Rattle.growth_laws.proofs.SameInsns.{paired_on}
use Rattle.rv_decode.specs.Kinds.{is_sc, is_lr}
use Rattle.rvwmo_model.specs.InsnKinds.{has_stored}

-- the same source gives the same byte
pub same_given : (initial : ℕ → ℕ) (t t' : Trace) (x : ℕ) (o n : Option Op) → SameSource t t' x o n
    → byte_from initial n x ≡ byte_from initial o x
same_given initial t t' x None None h = refl
same_given initial t t' x (Some s) (Some n) h = h.byte
same_given initial t t' x None (Some n) h = absurd h
same_given initial t t' x (Some s) None h = absurd h

-- a source that is too late stays so
late_on : (t t' : Trace) (x : ℕ) (w : Op) → Contains t.ops w → IsPlaced w → (o n : Option Op) → SameSource t t' x o n
    → IsLate o w → IsLate n w
late_on t t' x w hw pw None None h l = l
late_on t t' x w hw pw (Some s) (Some n) h l = elim h.becomes.place [
  | inl e ↦ rw (rank_same n s h.becomes.same e) l
  | inr m ↦ before_asym (standing w) (standing n) (m.2 w (Contains-append_left t.ops t.early w hw) pw)
]
late_on t t' x w hw pw None (Some n) h l = absurd h
late_on t t' x w hw pw (Some s) None h l = absurd h

after_on : (t t' : Trace) (x : ℕ) (v v' : Op) → IsPlaced v → standing v' ≡ standing v → (o n : Option Op)
    → SameSource t t' x o n → IsAfter o v → IsAfter n v'
after_on t t' x v v' p e None None h a = a
after_on t t' x v v' p e (Some s) (Some n) h a = rw (rank_kept t s n (before_placed s v p a) h.becomes, e) a
after_on t t' x v v' p e None (Some n) h a = absurd h
after_on t t' x v v' p e (Some s) None h a = absurd h

pub stored_sc : (o : Option Retired) → has_stored o ≡ true → is_one is_sc o ≡ true
stored_sc None e = e
stored_sc (Some w) e = (and_parts (is_sc w.insn) w.stored e).0

-- the operation of a successful SC is performed
pub sc_placed : (t : Trace) (w : Op) → WellKinded t → Contains t.ops w → has_stored (insn_of t w) ≡ true → IsPlaced w
sc_placed t w k h s = elim (place_cases w) [
  | inl p ↦ p
  | inr e ↦ absurd (plain_not is_sc t w store_sc (k.unperformed w h e) (stored_sc (insn_of t w) s))
]

-- so is that of an LR
pub lr_placed : (t : Trace) (r : Op) → WellKinded t → Contains t.ops r → is_one is_lr (insn_of t r) ≡ true → IsPlaced r
lr_placed t r k h s = elim (place_cases r) [
  | inl p ↦ p
  | inr e ↦ absurd (plain_not is_lr t r store_lr (k.unperformed r h e) s)
]

-- a pair stays one
pub pair_on : (t t' : Trace) → WellKinded t → OpsGo t t' → (r w : Op) → IsPair t r w → IsPair t' r w
pair_on t t' k g r w p = record {
  lr_in = g.stays r p.lr_in (lr_placed t r k p.lr_in p.paired.0);
  sc_in = g.stays w p.sc_in (sc_placed t w k p.sc_in p.stored);
  one_hart = p.one_hart;
  in_order = p.in_order;
  paired = paired_on t t' r w p.one_hart p.in_order same p.paired;
  stored = ap has_stored (g.insns w w.name.tag p.sc_in (inr refl)) ∙ p.stored;
}
  where
    same : (n : ℕ) → (n < w.name.tag) ⊎ (n ≡ w.name.tag) → insn_at t'.insns r.name.hart n ≡ insn_at t.insns
        r.name.hart n
    same n le = subst (λ (h : ℕ). insn_at t'.insns h n ≡ insn_at t.insns h n) p.one_hart (g.insns w n p.sc_in le)

module _ (t t' : Trace) (k : WellKinded t) (k' : WellKinded t') (go : (x : ℕ) → WritersGo t t' x) (g : OpsGo t t') where
  pub value_on : (initial : ℕ → ℕ) (i : Op) (x : ℕ) → WrongValue initial t i x → WrongValue initial t' i x
      ⊎ HasOverlap t'
  value_on initial i x v =
      let p = load_placed t i k v.load_in (and_parts (op_loads i) (has_byte x i) v.loads).0 in
      let there = g.stays i v.load_in p in
      elim (source_stays t t' x i k k' (go x) v.load_in there p) [
        | inr c ↦ inr (has_overlap t' x c.crossed)
        | inl h ↦ inl (record {
          load_in = there;
          loads = v.loads;
          wrong = λ e. v.wrong (e ∙ same_given initial t t' x (source t i x) (source t' i x) h);
        })
      ]

  -- a store before a performed operation goes on where it stands
  store_on : (w v : Op) (x : ℕ) → IsPlaced w → Contains (everything t) v → writes x v ≡ true → precedes v w ≡ true
      → (n : Op) × Contains (everything t') n × (writes x n ≡ true) × (n.name.hart ≡ v.name.hart)
      × (standing n ≡ standing v)
  store_on w v x pw h q b =
      let n = (go x).on v h q in
      (n.0, n.1.is, n.1.stores, n.1.becomes.same.0, rank_kept t v n.0 (before_placed v w pw b) n.1.becomes)

  torn_at : (r w : Op) (x : ℕ) → IsPair t r w → IsTornAt t r w x → IsTornAt t' r w x ⊎ HasOverlap t'
  torn_at r w x p h =
      let pr = lr_placed t r k p.lr_in p.paired.0 in
      let pw = sc_placed t w k p.sc_in p.stored in
      elim (source_stays t t' x r k k' (go x) p.lr_in (g.stays r p.lr_in pr) pr) [
        | inr c ↦ inr (has_overlap t' x c.crossed)
        | inl s ↦ inl (
          h.0,
          elim h.1 [
            | inl l ↦ inl (late_on t t' x w p.sc_in pw (source t r x) (source t' r x) s l)
            | inr v ↦
                let i = v.1 in
                let n = store_on w v.0 x pw i.store_in i.stores i.before in
                inr (
                  n.0,
                  record {
                    store_in = n.1;
                    stores = n.2;
                    other = λ e. i.other (sym n.3 ∙ e);
                    after = after_on t t' x v.0 n.0 (before_placed v.0 w pw i.before) n.4 (source t r x)
                        (source t' r x) s i.after;
                    before = rw n.4 i.before;
                  },
                )
          ],
        )
      ]

  block_on : (r w v : Op) → IsPair t r w → IntrudesBlock t r w v → (n : Op) × IntrudesBlock t' r w n
  block_on r w v p i =
      let x = i.stores.0 in
      let n = store_on w v x (sc_placed t w k p.sc_in p.stored) i.store_in i.stores.1.0 i.before in (
        n.0,
        record {
          store_in = n.1;
          stores = (x, (n.2, (rw g.granule i.stores.1.1.0, rw g.granule i.stores.1.1.1)));
          other = λ e. i.other (sym n.3 ∙ e);
          after = rw n.4 i.after;
          before = rw n.4 i.before;
        },
      )

  pub torn_on : (r w : Op) → Torn t r w → Torn t' r w ⊎ HasOverlap t'
  torn_on r w p = elim p.torn [
    | inl x ↦ elim (torn_at r w x.0 p.pair x.1) [
      | inl h ↦ inl (record { pair = pair_on t t' k g r w p.pair; torn = inl (x.0, h) })
      | inr c ↦ inr c
    ]
    | inr v ↦ inl (record { pair = pair_on t t' k g r w p.pair; torn = inr (block_on r w v.0 p.pair v.1) })
  ]

-- where nothing wrong is mended, what is legal afterwards was legal before
pub legal_back : (initial : ℕ → ℕ) (t t' : Trace) → WellKinded t
    → ((r : Rule) → HasBrokenBy r t → HasBrokenBy r t' ⊎ HasOverlap t')
    → ((i : Op) (x : ℕ) → WrongValue initial t i x → WrongValue initial t' i x ⊎ HasOverlap t')
    → ((r w : Op) → Torn t r w → Torn t' r w ⊎ HasOverlap t') → Legal initial t' → Legal initial t
legal_back initial t t' k pairs values atomicity l = record {
  ordered = λ r a b p. elim (pairs r (a, b, p)) [ inl n ↦ l.ordered r n.0 n.1 n.2 | inr s ↦ unbroken s ];
  valued = λ i x v. elim (values i x v) [ inl w ↦ l.valued i x w | inr s ↦ unbroken s ];
  paired = λ w u. let r = k.paired w u.sc_in u.stored in u.alone r.0 r.1 r.2;
  atomic = λ r w p. elim (atomicity r w p) [ inl q ↦ l.atomic r w q | inr s ↦ unbroken s ];
}
  where
    unbroken : HasOverlap t' → ⊥
    unbroken s = l.ordered R1 s.0 s.1 s.2
