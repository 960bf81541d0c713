-- An SC that retires with its pair, and the store that breaks the pair at a byte.
use Rattle.std.proofs.Common.{ℕ, ◌≡◌, ◌≢◌, ◌⊎◌, inl, inr, Bool, true, false, not, cond, List}
use Rattle.std.proofs.Common.{Option, Some, None, option_map, refl, sym, ap, subst, ◌∙◌}
use Rattle.std.proofs.lemmas.Bool.{false≢true, both_ways, cases_Bool}
use Rattle.std.proofs.lemmas.List.Elements.{Contains-append_cases, Contains-append_left, Contains-append_right}
use Rattle.std.specs.List.{Contains}
use Rattle.tandem_base.specs.declared.extent.Extent.{Extent}
use Rattle.tandem_base.specs.declared.names.Origin.{Origin}
use Rattle.tandem_base.specs.declared.names.Place.{Place}
use Rattle.rv_decode.specs.declared.instruction.Insn.{Insn}
use Rattle.rv_decode.specs.declared.instruction.Insn.TheVariants.{Sc as ScInsn}
use Rattle.rv_decode.specs.Kinds.{is_sc}
use Rattle.rvwmo_model.specs.Atomicity.{IsPair, IsAfter, IsLate, Intrudes}
use Rattle.rvwmo_model.specs.declared.instructions.Retired.{Retired}
use Rattle.rvwmo_model.specs.declared.operations.Op.{Op}
use Rattle.rvwmo_model.specs.declared.operations.OpKind.{OpKind}
use Rattle.rvwmo_model.specs.declared.operations.OpKind.TheVariants as kind
use Rattle.rvwmo_model.specs.declared.traces.Trace.{Trace}
use Rattle.rvwmo_model.specs.Order.{everything, standing, writes, precedes}
use Rattle.rvwmo_model.specs.Report.{IsForeign, IsLatest, Blamed, late, foreign}
use Rattle.rvwmo_model.specs.Sources.{IsWriter, source, key_of}
use Rattle.rvwmo_model.proofs.Latest.{source_is}
use Rattle.rvwmo_model.proofs.Membership.{nothing_in}
use Rattle.rvwmo_model.proofs.Orders.{not_before_trans}
use Rattle.growth_laws.specs.Growth.{AddsAtomic, Adds, adds_loads, adds_store, adds_atomic, adds_nothing, AddInsn}
use Rattle.growth_laws.specs.Kinds.{kind_of_insn}
use Rattle.growth_laws.proofs.Places.{place_cases, unplaced_after}
use Rattle.growth_laws.proofs.PlainStores.{store_sc}
use Rattle.growth_laws.proofs.Steps.{only}
use Rattle.byte_memory.specs.declared.capture.StoreCapture.{StoreCapture}
use Rattle.byte_memory.specs.declared.writer.Writer.{Writer}
use Rattle.window_laws.specs.Captures.{IsStoredBefore, IsForeignOf, TellsLatest}
use Rattle.window_laws.specs.Tables.{untimed, source_told}
use Rattle.window_laws.proofs.Placed.{by_place, before_from, before_to}
use Rattle.amo_pairing.specs.Breaches.{was_before, writer_after, store_blamed}
use Rattle.amo_pairing.specs.declared.reservation.Reservation.{Reservation}
use Rattle.amo_pairing.specs.Reservations.{HasWholeExtent, IsOpenLr}
use Rattle.amo_pairing.specs.ScAnswers.{IsScMore, IsScAsked}
use Rattle.amo_pairing.proofs.Foreigners.{Told, nobody, somebody, told_cases}
use Rattle.amo_pairing.proofs.Pairs.{pair_open}

-- ---- an SC that retires with its pair

sc_loads_none : (i : Insn) (stored : Bool) → is_sc i ≡ true → kind_of_insn i stored ≡ Some kind.Load → ⊥
sc_loads_none (ScInsn wide aq rl rd rs1 rs2) true e f = let c : kind.Store ≡ kind.Load = cc in cc
sc_loads_none (ScInsn wide aq rl rd rs1 rs2) false e f = cc
sc_loads_none _ stored e f = false≢true e

sc_stored : (i : Insn) (stored : Bool) (k : OpKind) → is_sc i ≡ true → kind_of_insn i stored ≡ Some k → stored ≡ true
sc_stored (ScInsn wide aq rl rd rs1 rs2) true k e f = refl
sc_stored (ScInsn wide aq rl rd rs1 rs2) false k e f = absurd (cc)
sc_stored _ stored k e f = absurd (false≢true e)

-- its operation is that of an early store
pub sc_added : (t t' : Trace) (r : Retired) (new : List Op) (w : Op) → AddInsn t t' r new → is_sc r.insn ≡ true
    → Contains new w → (e : Op) × AddsAtomic t t' r new e w
sc_added t t' r new w s q i = at s.adds
  where
    at : Adds t t' r new → (e : Op) × AddsAtomic t t' r new e w
    at (adds_loads d) = absurd (sc_loads_none r.insn r.stored q d.loads)
    at (adds_store o d) = absurd (both_ways _ (store_sc r.insn d.stores) q)
    at (adds_atomic e o d) = (e, subst (λ (z : Op). AddsAtomic t t' r new e z) (sym (only o w new d.one i)) d)
    at (adds_nothing d) = absurd (nothing_in w (subst (λ (l : List Op). Contains l w) d.none i))

pub sc_more : (t t' : Trace) (r : Retired) (new : List Op) (w : Op) → AddInsn t t' r new → is_sc r.insn ≡ true
    → Contains new w → HasWholeExtent w → IsScMore t t' r w
sc_more t t' r new w s q i whole = record {
  keeps = s.keeps;
  younger = s.younger;
  conditional = q;
  stored = sc_stored r.insn r.stored w.kind q (s.are_of.kinds w i);
  own = s.are_of.own w i;
  whole = whole;
  added = s.added w i;
  ops_on = s.ops_on;
  ops_back = λ v j. elim (s.ops_back v j) [
    | inl n ↦ inl (only w v new (sc_added t t' r new w s q i).1.one n)
    | inr o ↦ inr o
  ];
}

module _ (initial : ℕ → ℕ) (t t' : Trace) (w : Op) (held : Option Reservation) (h : ℕ) (extent : Extent)
    (seen : StoreCapture) (a : IsScAsked initial t t' w held h extent seen) where
  pub more : IsScMore t t' a.r w
  more = sc_more t t' a.r a.new.new w a.new.retires a.conditional a.new.here a.whole

  pub added : (e : Op) × AddsAtomic t t' a.r a.new.new e w
  added = sc_added t t' a.r a.new.new w a.new.retires a.conditional a.new.here

  pub hart_w : w.name.hart ≡ h
  hart_w = more.own.0 ∙ a.one_hart

  -- the LR of a pair of it is the open one
  pub opened : (l : Op) → IsPair t' l w → IsOpenLr t h l.name.tag
  opened l p = subst (λ (g : ℕ). IsOpenLr t g l.name.tag) a.one_hart (pair_open t t' a.r w more l p)

  -- ---- stores of other harts are those that were there

  pub fore_on : (v : Op) → v.name.hart ≢ h → Contains (everything t) v → Contains (everything t') v
  fore_on v d i = elim (Contains-append_cases t.ops t.early v i) [
    | inl j ↦ Contains-append_left t'.ops t'.early v (a.new.retires.ops_on v j)
    | inr j ↦ elim (added.1.early_on v j) [
      | inl e ↦ absurd (d (ap (λ (z : Op). z.name.hart) e ∙ sym added.1.same.0 ∙ hart_w))
      | inr q ↦ Contains-append_right t'.ops t'.early v q
    ]
  ]

  pub fore_back : (v : Op) → v.name.hart ≢ h → Contains (everything t') v → Contains (everything t) v
  fore_back v d i = elim (Contains-append_cases t'.ops t'.early v i) [
    | inl j ↦ elim (more.ops_back v j) [
      | inl same ↦ absurd (d (ap (λ (z : Op). z.name.hart) same ∙ hart_w))
      | inr q ↦ Contains-append_left t.ops t.early v q
    ]
    | inr j ↦ Contains-append_right t.ops t.early v (added.1.early_back v j)
  ]

  -- v is a store of another hart to byte x before the SC
  abbrev pub Fore : ℕ → Op → Type 0
  Fore x v = IsForeignOf (IsStoredBefore t a.place x) h v

  pub to_foreign : (x : ℕ) (v : Op) → Fore x v → IsForeign t' w x v
  to_foreign x v p = record {
    store_in = fore_on v p.1 p.0.0;
    stores = p.0.1;
    other = λ e. p.1 (e ∙ hart_w);
    before = before_from v w a.place a.new.performed p.0.2;
  }

  pub from_foreign : (x : ℕ) (v : Op) → Contains (everything t') v → writes x v ≡ true → v.name.hart ≢ w.name.hart
      → precedes v w ≡ true → Fore x v
  from_foreign x v i q d b =
      let f : v.name.hart ≢ h = λ e. d (e ∙ sym hart_w) in
      ((fore_back v f i, q, before_to v w a.place a.new.performed b), f)

  -- places as they are kept tell which of two comes first
  pub was_precedes : (s v : Op) (q : Place) → Contains (everything t') s → Contains (everything t') v → v.place ≡ Some q
      → was_before (option_map untimed s.place) (untimed q) ≡ precedes s v
  was_precedes s v q i j e = elim (place_cases s) [
    | inl p ↦ ap (λ (z : Option Place). was_before (option_map untimed z) (untimed q)) p.1
        ∙ sym (a.positioned s v p.0 q i j p.1 e) ∙ sym (by_place s v p.0 q p.1 e)
    | inr n ↦ ap (λ (z : Option Place). was_before (option_map untimed z) (untimed q)) n
        ∙ sym (unplaced_after s v n (q, e))
  ]

  -- ---- one byte of an LR

  module _ (l : Op) (x : ℕ) where
    source_there : (s : Op) → source t' l x ≡ Some s → Contains (everything t') s
    source_there s e = at (source_is t' l x s e).0
      where
        at : IsWriter t' l x s → Contains (everything t') s
        at (inl p) = Contains-append_left t'.ops t'.early s p.0
        at (inr p) = Contains-append_right t'.ops t'.early s p.0

    -- the pair isn't atomic there
    abbrev pub Shows : Type 0
    Shows = IsLate (source t' l x) w ⊎ ((v : Op) × Intrudes t' l w v x)

    -- and this store is blamed for it, or it is atomic there
    abbrev pub Verdict : Option Origin → Type 0
    Verdict b =
        ((m : Op) × (b ≡ Some (key_of m)) × Blamed t' l w x m × Shows) ⊎ ((b ≡ None) × (Shows → ⊥))

    fore_of : (v : Op) → Intrudes t' l w v x → Fore x v
    fore_of v i = from_foreign x v i.store_in i.stores i.other i.before

    intrudes_of : (m : Op) → Fore x m → IsAfter (source t' l x) m → Intrudes t' l w m x
    intrudes_of m p after = record {
      store_in = fore_on m p.1 p.0.0;
      stores = p.0.1;
      other = λ e. p.1 (e ∙ hart_w);
      after = after;
      before = before_from m w a.place a.new.performed p.0.2;
    }

    last_foreign : (m : Op) → IsLatest (Fore x) m → IsLatest (IsForeign t' w x) m
    last_foreign m f = record {
      here = to_foreign x m f.here;
      latest = λ u q. f.latest u (from_foreign x u q.store_in q.stores q.other q.before);
    }

    pub verdict : (f : Option Writer) → TellsLatest (Fore x) f
        → Verdict (store_blamed (source_told initial (source t' l x) x) (untimed a.place) f)
    verdict f tells = at (source t' l x) refl (told_cases (Fore x) f tells (λ v q. (q.0.2.0, q.0.2.1)))
      where
        -- the initial value
        none : source t' l x ≡ None → Told (Fore x) f
            → Verdict (store_blamed (source_told initial None x) (untimed a.place) f)
        none e (nobody n nothing) = inr (
          ap (λ (z : Option Writer). store_blamed (source_told initial None x) (untimed a.place) z) n,
          λ sh. elim sh [
            | inl lt ↦ subst (λ (z : Option Op). IsLate z w) e lt
            | inr i ↦ nothing i.0 (fore_of i.0 i.1)
          ],
        )
        none e (somebody m q em lat n) = inl (
          m,
          ap (λ (z : Option Writer). store_blamed (source_told initial None x) (untimed a.place) z) n,
          foreign m (λ lt. subst (λ (z : Option Op). IsLate z w) e lt) (last_foreign m lat),
          inr (m, intrudes_of m lat.here (subst (λ (z : Option Op). IsAfter z m) (sym e) tt)),
        )

        -- a store before the SC
        before : (s : Op) → source t' l x ≡ Some s → precedes s w ≡ true → Told (Fore x) f
            → store_blamed (source_told initial (Some s) x) (untimed a.place) f
            ≡ writer_after (source_told initial (Some s) x) f
            → Verdict (store_blamed (source_told initial (Some s) x) (untimed a.place) f)
        before s e c told one = cases told
          where
            in_time : IsLate (source t' l x) w → ⊥
            in_time lt = both_ways _ (subst (λ (z : Option Op). IsLate z w) e lt) c

            cases : Told (Fore x) f → Verdict (store_blamed (source_told initial (Some s) x) (untimed a.place) f)
            cases (nobody n nothing) = inr (
              one ∙ ap (writer_after (source_told initial (Some s) x)) n,
              λ sh. elim sh [ inl lt ↦ in_time lt | inr i ↦ nothing i.0 (fore_of i.0 i.1) ],
            )
            cases (somebody m q em lat n) = elim (cases_Bool (precedes s m)) [
              | inl d ↦ inl (
                m,
                one ∙ ap (writer_after (source_told initial (Some s) x)) n
                    ∙ ap (λ (z : Bool). cond z (Some (key_of m)) None) (g ∙ d),
                foreign m in_time (last_foreign m lat),
                inr (m, intrudes_of m lat.here (subst (λ (z : Option Op). IsAfter z m) (sym e) d)),
              )
              | inr d ↦ inr (
                one ∙ ap (writer_after (source_told initial (Some s) x)) n
                    ∙ ap (λ (z : Bool). cond z (Some (key_of m)) None) (g ∙ d),
                λ sh. elim sh [
                  | inl lt ↦ in_time lt
                  | inr i ↦ both_ways _
                      (not_before_trans (standing s) (standing m) (standing i.0) d
                      (lat.latest i.0 (fore_of i.0 i.1)))
                      (subst (λ (z : Option Op). IsAfter z i.0) e i.1.after)
                ],
              )
            ]
              where
                g : was_before (option_map untimed s.place) (untimed q) ≡ precedes s m
                g = was_precedes s m q (source_there s e) (fore_on m lat.here.1 lat.here.0.0) em

        at : (src : Option Op) → source t' l x ≡ src → Told (Fore x) f
            → Verdict (store_blamed (source_told initial src x) (untimed a.place) f)
        at None e told = none e told
        at (Some s) e told = elim (cases_Bool (precedes s w)) [
          | inl c ↦ before s e c told (blamed_by true (g ∙ c))
          | inr c ↦ inl (
            s,
            blamed_by false (g ∙ c),
            late s e c,
            inl (subst (λ (z : Option Op). IsLate z w) (sym e) c),
          )
        ]
          where
            blamed_by : (b : Bool) → was_before (option_map untimed s.place) (untimed a.place) ≡ b
                → store_blamed (source_told initial (Some s) x) (untimed a.place) f
                ≡ cond (not b) (Some (key_of s)) (writer_after (source_told initial (Some s) x) f)
            blamed_by b q =
                ap (λ (z : Bool). cond (not z) (Some (key_of s)) (writer_after (source_told initial (Some s) x) f)) q

            g : was_before (option_map untimed s.place) (untimed a.place) ≡ precedes s w
            g =
                was_precedes s w a.place (source_there s e) (Contains-append_left t'.ops t'.early w more.added)
                a.new.performed
