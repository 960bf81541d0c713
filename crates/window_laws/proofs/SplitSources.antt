-- The source of a byte of a new operation, from the stores that wait, those performed after it and those before it.
use Rattle.std.proofs.Common.{ℕ, ◌<◌, ◌≡◌, ◌⊎◌, inl, inr, true, false, List, eqb, ltb, Option, Some, None, refl}
use Rattle.std.proofs.Common.{sym, ap}
use Rattle.std.proofs.Common.{subst, ◌∙◌, arith}
use Rattle.std.proofs.lemmas.Bool.{both_ways, and_parts, and_from, cases_Bool, eq-eqb}
use Rattle.std.proofs.lemmas.Bool.Decides.{nat_tests}
use Rattle.std.specs.List.{Contains}
use Rattle.std.proofs.lemmas.List.Elements.{Contains-append_cases, Contains-append_left, Contains-append_right}
use Rattle.tandem_base.specs.declared.names.Place.{Place}
use Rattle.rvwmo_model.specs.declared.instructions.Retired.{Retired}
use Rattle.rvwmo_model.specs.declared.operations.Op.{Op}
use Rattle.rvwmo_model.specs.declared.operations.OpKind.TheVariants as kind
use Rattle.rvwmo_model.specs.declared.traces.Trace.{Trace}
use Rattle.rvwmo_model.specs.Order.{Standing, stands_before, standing, kind_stores, op_stores, has_byte, precedes}
use Rattle.rvwmo_model.specs.Order.{writes, everything}
use Rattle.rvwmo_model.specs.ProgramOrder.{is_older}
use Rattle.rvwmo_model.specs.Sources.{IsWriter, source}
use Rattle.rvwmo_model.specs.InForm.{IsPlaced}
use Rattle.rvwmo_model.proofs.Membership.{nothing_in}
use Rattle.rvwmo_model.proofs.Orders.{before_self, before_asym, before_trans}
use Rattle.rvwmo_model.proofs.Latest.{source_is, source_is_none}
use Rattle.growth_laws.specs.Kinds.{WellKinded}
use Rattle.growth_laws.specs.Growth.{Adds, adds_loads, adds_store, adds_atomic, adds_nothing, AddInsn}
use Rattle.growth_laws.proofs.Places.{place_cases, unplaced_after, rank_same}
use Rattle.growth_laws.proofs.Facts.{alike, older_parts}
use Rattle.growth_laws.proofs.Growths.{insn_link}
use Rattle.growth_laws.proofs.Operations.{op_older}
use Rattle.growth_laws.proofs.Steps.{only}
use Rattle.window_laws.specs.Latest.{IsLatestIfAny, first_there}
use Rattle.window_laws.specs.Captures.{IsStoredBefore}
use Rattle.window_laws.specs.Waiting.{IsWaitingBelow}
use Rattle.window_laws.specs.Keeping.{IsStoredAfter}
use Rattle.window_laws.specs.SourceLaws.{NewSourcesAreOld, SourcesSplit}
use Rattle.window_laws.proofs.Latests.{latest_same, latest_beyond}
use Rattle.window_laws.proofs.Placed.{before_from, before_to, after_from, after_to}

-- a store that may be read is in the trace
writer_all : (t : Trace) (i w : Op) (x : ℕ) → IsWriter t i x w → Contains (everything t) w
writer_all t i w x (inl p) = Contains-append_left t.ops t.early w p.0
writer_all t i w x (inr p) = Contains-append_right t.ops t.early w p.0

-- the source is the latest of the stores that may be read
source_latest : (t : Trace) (i : Op) (x : ℕ) → IsLatestIfAny (IsWriter t i x) (source t i x)
source_latest t i x = at (source t i x) refl
  where
    at : (o : Option Op) → source t i x ≡ o → IsLatestIfAny (IsWriter t i x) o
    at None e = source_is_none t i x e
    at (Some s) e = let q = source_is t i x s e in record { here = q.0; latest = q.1 }

-- there is only one latest
pub source_is_latest : (t : Trace) (i : Op) (x : ℕ) (m : Option Op) → WellKinded t → IsLatestIfAny (IsWriter t i x) m
    → source t i x ≡ m
source_is_latest t i x m k h = at (source t i x) (source_latest t i x) m h
  where
    at : (o : Option Op) → IsLatestIfAny (IsWriter t i x) o → (m : Option Op) → IsLatestIfAny (IsWriter t i x) m → o ≡ m
    at None e None h = refl
    at None e (Some m) h = absurd (e m h.here)
    at (Some s) e None h = absurd (h s e.here)
    at (Some s) e (Some m) h =
        ap (λ (z : Op). Some z) (alike t s m k (writer_all t i s x e.here) (writer_all t i m x h.here)
        (e.latest m h.here) (h.latest s e.here))

module _ (t t' : Trace) (r : Retired) (new : List Op) (k : WellKinded t) (s : AddInsn t t' r new) (b : Op)
    (mine : Contains new b) (place : Place) (pb : b.place ≡ Some place) (x : ℕ) where
  -- an operation of the hart that was there is older
  own_older : (v : Op) → Contains t.ops v → v.name.hart ≡ b.name.hart → v.name.tag < b.name.tag
  own_older v i e =
      let z = s.are_of.own b mine in
      let l : v.name.tag < r.tag = op_older t t' r new v k s i (e ∙ z.0) in
      omega (arith, z.1)

  -- nothing new may be read
  new_apart : (v : Op) → Contains new v → writes x v ≡ true → (precedes v b ≡ true) ⊎ (is_older v b ≡ true) → ⊥
  new_apart v m q (inr o) =
      let p = older_parts v b o in
      let y = s.are_of.own v m in
      let z = s.are_of.own b mine in
      omega (arith, p.1, y.1, z.1)
  new_apart v m q (inl e) = at s.adds
    where
      same_self : v ≡ b → ⊥
      same_self d =
          both_ways _ (before_self (standing b)) (subst (λ (z : Op). precedes z b ≡ true) d e)

      at : Adds t t' r new → ⊥
      at (adds_loads a) =
          let c : Some v.kind ≡ Some kind.Load = sym (s.are_of.kinds v m) ∙ a.loads in
          let same : v.kind ≡ kind.Load = cc in
          both_ways _ (ap kind_stores same) (and_parts (op_stores v) (has_byte x v) q).0
      at (adds_store o a) = same_self (only o v new a.one m ∙ sym (only o b new a.one mine))
      at (adds_atomic f o a) = same_self (only o v new a.one m ∙ sym (only o b new a.one mine))
      at (adds_nothing a) = nothing_in v (subst (λ (l : List Op). Contains l v) a.none m)

  -- an early store that precedes b stays early
  early_stays : (v : Op) → Contains t.early v → precedes v b ≡ true → Contains t'.early v
  early_stays v i e = at s.adds
    where
      at : Adds t t' r new → Contains t'.early v
      at (adds_loads a) = a.early.on v i
      at (adds_store o a) = a.early.on v i
      at (adds_nothing a) = a.early.on v i
      at (adds_atomic f o a) = elim (a.early_on v i) [
        | inr j ↦ j
        | inl same ↦ absurd (
            let d : b ≡ o = only o b new a.one mine in
            let alike_standing : standing b ≡ standing f = ap standing d ∙ rank_same o f a.same a.place in
            let f_first : precedes f b ≡ true = subst (λ (z : Op). precedes z b ≡ true) same e in
            both_ways _ (before_self (standing b))
            (subst (λ (z : Standing). stands_before z (standing b) ≡ true) (sym alike_standing) f_first))
      ]

  early_was : (v : Op) → Contains t'.early v → Contains t.early v
  early_was v i = at s.adds
    where
      at : Adds t t' r new → Contains t.early v
      at (adds_loads a) = a.early.back v i
      at (adds_store o a) = a.early.back v i
      at (adds_nothing a) = a.early.back v i
      at (adds_atomic f o a) = a.early_back v i

  -- the stores that b may read are those that it might read before
  writer_on : (v : Op) → IsWriter t b x v → IsWriter t' b x v
  writer_on v (inl p) = inl (s.ops_on v p.0, p.1, p.2)
  writer_on v (inr p) = inr (early_stays v p.0 p.2, p.1, p.2)

  writer_back : (v : Op) → IsWriter t' b x v → IsWriter t b x v
  writer_back v (inr p) = inr (early_was v p.0, p.1, p.2)
  writer_back v (inl p) = elim (s.ops_back v p.0) [
    | inl m ↦ absurd (new_apart v m p.1 p.2)
    | inr i ↦ inl (i, p.1, p.2)
  ]

  k' : WellKinded t'
  k' = (insn_link t t' r new k s).after

  pub new_is_old : source t' b x ≡ source t b x
  new_is_old =
      source_is_latest t' b x (source t b x) k'
      (latest_same (IsWriter t b x) (IsWriter t' b x) (source t b x) writer_on writer_back (source_latest t b x))

  -- what b may read waits, or stands after it, or stands before it
  abbrev Waits : Op → Type 0
  Waits v = IsWaitingBelow t r.hart r.tag x v

  abbrev After : Op → Type 0
  After v = IsStoredAfter t r.hart place x v

  abbrev Before : Op → Type 0
  Before v = IsStoredBefore t place x v

  abbrev Performed : Op → Type 0
  Performed v = After v ⊎ Before v

  mine_of : (b.name.hart ≡ r.hart) × (b.name.tag ≡ r.tag)
  mine_of = s.are_of.own b mine

  older_it : (v : Op) → Contains t.ops v → v.name.hart ≡ r.hart → is_older v b ≡ true
  older_it v i e =
      let h : v.name.hart ≡ b.name.hart = e ∙ sym mine_of.0 in
      let l = own_older v i h in
      and_from (eqb v.name.hart b.name.hart) (ltb v.name.tag b.name.tag) (eq-eqb v.name.hart b.name.hart h)
      (grind (arith, nat_tests))

  writer_to : (v : Op) → IsWriter t' b x v → Waits v ⊎ Performed v
  writer_to v p = at (writer_back v p)
    where
      apart : Contains t.ops v → is_older v b ≡ true → precedes v b ≡ false → precedes b v ≡ false → ⊥
      apart i o u z =
          let same : v ≡ b = alike t' v b k' (Contains-append_left t'.ops t'.early v (s.ops_on v i))
          (Contains-append_left t'.ops t'.early b (s.added b mine)) u z in
          let l = (older_parts v b o).1 in
          omega (arith, l, ap (λ (q : Op). q.name.tag) same)

      at : IsWriter t b x v → Waits v ⊎ Performed v
      at (inr q) = inr (inr (Contains-append_right t.ops t.early v q.0, q.1, before_to v b place pb q.2))
      at (inl q) = elim q.2 [
        | inl e ↦ inr (inr (Contains-append_left t.ops t.early v q.0, q.1, before_to v b place pb e))
        | inr o ↦
            let own : v.name.hart ≡ r.hart = (older_parts v b o).0 ∙ mine_of.0 in
            elim (place_cases v) [
              | inr e ↦ inl (
                (q.0, own, e, q.1),
                (let l : v.name.tag < b.name.tag = (older_parts v b o).1 in omega (arith, l, mine_of.1)),
              )
              | inl y ↦ elim (cases_Bool (precedes b v)) [
                | inl z ↦ inr (inl ((q.0, own, after_to v b place pb y z), q.1))
                | inr z ↦ elim (cases_Bool (precedes v b)) [
                  | inl u ↦ inr (inr (Contains-append_left t.ops t.early v q.0, q.1, before_to v b place pb u))
                  | inr u ↦ absurd (apart q.0 o u z)
                ]
              ]
            ]
      ]

  waits_from : (v : Op) → Waits v → IsWriter t' b x v
  waits_from v p = inl (s.ops_on v p.0.0, p.0.3, inr (older_it v p.0.0 p.0.1))

  performed_from : (v : Op) → Performed v → IsWriter t' b x v
  performed_from v (inl p) = inl (s.ops_on v p.0.0, p.1, inr (older_it v p.0.0 p.0.1))
  performed_from v (inr p) = let e = before_from v b place pb p.2 in elim (Contains-append_cases t.ops t.early v p.0) [
    | inl i ↦ inl (s.ops_on v i, p.1, inl e)
    | inr i ↦ inr (early_stays v i e, p.1, e)
  ]

  performed_placed : (v : Op) → Performed v → IsPlaced v
  performed_placed v (inl p) = (p.0.2.0, p.0.2.1)
  performed_placed v (inr p) = (p.2.0, p.2.1)

  after_beyond : (u v : Op) → After u → Before v → precedes u v ≡ false
  after_beyond u v p q = before_asym (standing v) (standing u)
      (before_trans (standing v) (standing b) (standing u) (before_from v b place pb q.2)
      (after_from u b place pb p.0.2))

  pub splits : (w g c : Option Op) → IsLatestIfAny Waits w → (w ≡ None → IsLatestIfAny After g)
      → (w ≡ None → g ≡ None → IsLatestIfAny Before c) → source t' b x ≡ first_there w (first_there g c)
  splits w g c hw hg hc =
      source_is_latest t' b x (first_there w (first_there g c)) k'
      (latest_beyond (IsWriter t' b x) Waits Performed w (first_there g c) waits_from performed_from writer_to
      (λ u v p q. unplaced_after u v p.0.2 (performed_placed v q)) hw
      (λ e. latest_beyond Performed After Before g c (λ v p. inl p) (λ v p. inr p) (λ v p. p) after_beyond (hg e)
      (hc e)))

pub new_sources_are_old : NewSourcesAreOld
new_sources_are_old t t' r b place x k n = new_is_old t t' r n.new k n.retires b n.here place n.performed x

pub sources_split : SourcesSplit
sources_split t t' r b place x w g c k n hw hg hc =
    splits t t' r n.new k n.retires b n.here place n.performed x w g c hw (λ e. hg) (λ e f. hc)
