-- A source that changes shows two stores against program order.
use Rattle.std.proofs.Common.{ℕ, ◌<◌, ◌≡◌, ◌⊎◌, inl, inr, Bool, true, false, Option, Some, None, refl, sym, ap, subst}
use Rattle.std.proofs.Common.{◌∙◌, arith}
use Rattle.std.proofs.lemmas.Bool.{both_ways, cases_Bool}
use Rattle.std.specs.List.{Contains}
use Rattle.std.proofs.lemmas.List.Elements.{Contains-append_cases, Contains-append_left, Contains-append_right}
use Rattle.rvwmo_model.specs.declared.operations.Op.{Op}
use Rattle.rvwmo_model.specs.declared.traces.Trace.{Trace}
use Rattle.rvwmo_model.specs.Order.{standing, precedes, writes, everything}
use Rattle.rvwmo_model.specs.ProgramOrder.{is_older}
use Rattle.rvwmo_model.specs.Sources.{IsWriter, source, origin_of, origin}
use Rattle.rvwmo_model.specs.InForm.{IsPlaced}
use Rattle.rvwmo_model.proofs.Orders.{before_asym}
use Rattle.rvwmo_model.proofs.Latest.{source_is, source_is_none}
use Rattle.growth_laws.specs.Kinds.{SameInsn, WellKinded}
use Rattle.growth_laws.specs.Growth.{IsAbove, IsYounger}
use Rattle.growth_laws.specs.Writers.{Becomes, GoesOn, WritersGo, SameSource, Crossed, Overtaken}
use Rattle.growth_laws.proofs.Places.{place_cases, not_both, placed_first, unplaced_after, unplaced_order, rank_same}
use Rattle.growth_laws.proofs.Facts.{op_insn, early_younger_op, unplaced_retired, alike, older_parts}

-- w is in reach of the load i: before it in global order or in program order
abbrev pub Reaches : Op → Op → Type 0
Reaches i w = (precedes w i ≡ true) ⊎ (is_older w i ≡ true)

writer_all : (t : Trace) (i w : Op) (x : ℕ) → IsWriter t i x w → Contains (everything t) w × (writes x w ≡ true)
    × Reaches i w
writer_all t i w x (inl h) = (Contains-append_left t.ops t.early w h.0, h.1, h.2)
writer_all t i w x (inr h) = (Contains-append_right t.ops t.early w h.0, h.1, inl h.2)

all_writer : (t : Trace) (i w : Op) (x : ℕ) → WellKinded t → Contains t.ops i → Contains (everything t) w
    → writes x w ≡ true → Reaches i w → IsWriter t i x w
all_writer t i w x k hi hw q r = elim (Contains-append_cases t.ops t.early w hw) [
  | inl a ↦ inl (a, q, r)
  | inr b ↦ elim r [
    | inl p ↦ inr (b, q, p)
    | inr o ↦ absurd (
        let s = older_parts w i o in
        let l : i.name.tag < w.name.tag = early_younger_op t w i k b hi (sym s.0) in
        omega (arith, s.1))
  ]
]

older_same : (i w n : Op) → SameInsn n w → is_older n i ≡ is_older w i
older_same i w n s = rw (s.0, s.1) refl

-- what a store becomes is in reach of an old load as it was
reach_on : (t : Trace) (i w n : Op) → IsPlaced i → Becomes t w n → Reaches i w → Reaches i n
reach_on t i w n p b (inr o) = inr (older_same i w n b.same ∙ o)
reach_on t i w n p b (inl h) = elim b.place [
  | inl e ↦ inl (rw (rank_same n w b.same e) h)
  | inr m ↦ absurd (both_ways _ (unplaced_after w i m.0 p) h)
]

reach_back : (t : Trace) (i w n : Op) → Contains (everything t) i → IsPlaced i → Becomes t w n → Reaches i n
    → Reaches i w
reach_back t i w n here p b (inr o) = inr (sym (older_same i w n b.same) ∙ o)
reach_back t i w n here p b (inl h) = elim b.place [
  | inl e ↦ inl (rw (← rank_same n w b.same e) h)
  | inr m ↦ absurd (both_ways _ (before_asym (standing i) (standing n) (m.2 i here p)) h)
]

-- a new store is not in reach of an old load
reach_new : (t : Trace) (i n : Op) → WellKinded t → Contains t.ops i → IsPlaced i → IsAbove t n → IsYounger t n
    → Reaches i n → ⊥
reach_new t i n k here p above young (inl h) =
    both_ways _ (before_asym (standing i) (standing n) (above i (Contains-append_left t.ops t.early i here) p)) h
reach_new t i n k here p above young (inr o) =
    let s = older_parts n i o in
    let w = op_insn t i k here in
    let l : w.0.tag < n.name.tag = young w.0 w.1 (w.2 ∙ sym s.0) in
    omega (arith, w.3, s.1)

-- a store that is in reach and not performed is of the load's own hart
own_reach : (i w : Op) → IsPlaced i → w.place ≡ None → Reaches i w → w.name.hart ≡ i.name.hart
own_reach i w p e (inl h) = absurd (both_ways _ (unplaced_after w i e p) h)
own_reach i w p e (inr o) = (older_parts w i o).0

-- r comes before s, and what r becomes does not come before what s becomes: both were not performed
flip : (t t' : Trace) (x : ℕ) (r s r' s' : Op) → GoesOn t t' x r r' → GoesOn t t' x s s' → precedes r s ≡ true
    → precedes r' s' ≡ false → (r.place ≡ None) × (s.place ≡ None)
flip t t' x r s r' s' gr gs before not = at (place_cases r) (place_cases s) gr.becomes.place gs.becomes.place
  where
    at : IsPlaced r ⊎ (r.place ≡ None) → IsPlaced s ⊎ (s.place ≡ None) → (r'.place ≡ r.place)
        ⊎ ((r.place ≡ None) × IsPlaced r' × IsAbove t r') → (s'.place ≡ s.place)
        ⊎ ((s.place ≡ None) × IsPlaced s' × IsAbove t s') → (r.place ≡ None) × (s.place ≡ None)
    at (inr e) (inr f) a b = (e, f)
    at (inr e) (inl q) a b = absurd (both_ways _ (unplaced_after r s e q) before)
    at (inl p) q (inr a) b = absurd (not_both r p a.0)
    at (inl p) q (inl a) (inl b) =
        absurd (both_ways _ not (rw (rank_same r' r gr.becomes.same a, rank_same s' s gs.becomes.same b) before))
    at (inl p) q (inl a) (inr b) = absurd (both_ways _ not (rw (rank_same r' r gr.becomes.same a) (b.2 r gr.was p)))

-- stores of one hart that aren't performed, with the older one later in the end, are crossed there
crossed : (t t' : Trace) (x : ℕ) (r s r' s' : Op) → WellKinded t → WellKinded t' → GoesOn t t' x r r'
    → GoesOn t t' x s s' → r.place ≡ None → s.place ≡ None → r.name.hart ≡ s.name.hart
    → precedes r s ≡ true → precedes r' s' ≡ false → Crossed t' x
crossed t t' x r s r' s' k k' gr gs e f one before not =
    let less : r.name.tag < s.name.tag = unplaced_order r s e f one before in
    record {
      first = r';
      second = s';
      first_in = gr.retired (unplaced_retired t r k gr.was e);
      second_in = gs.retired (unplaced_retired t s k gs.was f);
      first_writes = gr.stores;
      second_writes = gs.stores;
      one_hart = gs.becomes.same.0 ∙ sym one ∙ sym gr.becomes.same.0;
      in_order = omega (arith, gr.becomes.same.1, gs.becomes.same.1, less);
      against = elim (cases_Bool (precedes s' r')) [
        | inl q ↦ q
        | inr q ↦ absurd (let same : r' ≡ s' = alike t' r' s' k' gr.is gs.is not q in
            omega (arith, less, gr.becomes.same.1, gs.becomes.same.1, ap (λ (o : Op). o.name.tag) same))
      ];
    }

-- and the younger of them was performed
overtaken : (t t' : Trace) (x : ℕ) (r s r' s' : Op) → WellKinded t → WellKinded t' → GoesOn t t' x r r'
    → GoesOn t t' x s s' → r.place ≡ None → s.place ≡ None → r.name.hart ≡ s.name.hart
    → precedes r s ≡ true → precedes r' s' ≡ false → Overtaken t t' x
unfolding crossed
overtaken t t' x r s r' s' k k' gr gs e f one before not =
    let p = performed gr.becomes.place gs.becomes.place in
    record {
      crossed = crossed t t' x r s r' s' k k' gr gs e f one before not;
      old = s;
      goes = gs;
      unperformed = f;
      placed = p.0;
      above = p.1;
    }
  where
    performed : (r'.place ≡ r.place) ⊎ ((r.place ≡ None) × IsPlaced r' × IsAbove t r') → (s'.place ≡ s.place)
        ⊎ ((s.place ≡ None) × IsPlaced s' × IsAbove t s') → IsPlaced s' × IsAbove t s'
    performed a (inr m) = (m.1, m.2)
    performed (inl a) (inl b) =
        absurd (both_ways _ not (rw (rank_same r' r gr.becomes.same a, rank_same s' s gs.becomes.same b) before))
    performed (inr a) (inl b) = absurd (both_ways _ not (placed_first r' s' a.1 (b ∙ f)))

-- the source is a store that isn't performed, and is overtaken
abbrev pub Moves : Trace → Trace → Op → ℕ → Type 0
Moves t t' i x = (s : Op) × (source t i x ≡ Some s) × (s.place ≡ None) × Overtaken t t' x

-- One growth: the source of an old load stays, or it is a store that isn't performed, and two stores of one hart
-- stand against program order.
pub source_moves : (t t' : Trace) (x : ℕ) (i : Op) → WellKinded t → WellKinded t' → WritersGo t t' x
    → Contains t.ops i → Contains t'.ops i → IsPlaced i → SameSource t t' x (source t i x) (source t' i x)
    ⊎ Moves t t' i x
source_moves t t' x i k k' go here there p = at (source t i x) refl (source t' i x) refl
  where
    all : Contains (everything t) i
    all = Contains-append_left t.ops t.early i here

    ahead : (s n : Op) → IsWriter t i x s → GoesOn t t' x s n → IsWriter t' i x n
    ahead s n q g = all_writer t' i n x k' there g.is g.stores (reach_on t i s n p g.becomes (writer_all t i s x q).2)

    behind : (n : Op) → IsWriter t' i x n → (w : Op) × GoesOn t t' x w n × IsWriter t i x w
    behind n q =
        let a = writer_all t' i n x q in
        elim (go.back n a.0 a.1) [
          | inl g ↦ (
            g.0,
            g.1,
            all_writer t i g.0 x k here g.1.was g.1.stored
                (reach_back t i g.0 n all p g.1.becomes a.2),
          )
          | inr f ↦ absurd (reach_new t i n k here p f.0 f.1 a.2)
        ]

    both : (s r r' : Op) → source t i x ≡ Some s → IsWriter t i x s
        → ((w : Op) → IsWriter t i x w → precedes s w ≡ false)
        → GoesOn t t' x r r' → IsWriter t i x r → ((w : Op) → IsWriter t' i x w → precedes r' w ≡ false) → (s' : Op)
        → GoesOn t t' x s s'
        → (b : Bool) → precedes r s ≡ b → GoesOn t t' x s r' ⊎ Moves t t' i x
    both s r r' is hs ls gr hr lr s' gs false before =
        let same : r ≡ s = alike t r s k gr.was gs.was before (ls r hr) in
        inl (subst (λ (o : Op). GoesOn t t' x o r') same gr)
    both s r r' is hs ls gr hr lr s' gs true before =
        let not : precedes r' s' ≡ false = lr s' (ahead s s' hs gs) in
        let e = flip t t' x r s r' s' gr gs before not in
        let one : r.name.hart ≡ s.name.hart = own_reach i r p e.0 (writer_all t i r x hr).2
        ∙ sym (own_reach i s p e.1 (writer_all t i s x hs).2) in
        inr (s, is, e.1, overtaken t t' x r s r' s' k k' gr gs e.0 e.1 one before not)

    at : (o : Option Op) → source t i x ≡ o → (o' : Option Op) → source t' i x ≡ o' → SameSource t t' x o o'
        ⊎ Moves t t' i x
    at None e None f = inl tt
    at (Some s) e None f =
        let h = source_is t i x s e in
        let a = writer_all t i s x h.0 in
        let g = go.on s a.0 a.1 in
        absurd (source_is_none t' i x f g.0 (ahead s g.0 h.0 g.1))
    at None e (Some r) f =
        let h = source_is t' i x r f in
        let g = behind r h.0 in
        absurd (source_is_none t i x e g.0 g.2)
    at (Some s) e (Some r) f =
        let h = source_is t i x s e in
        let l = source_is t' i x r f in
        let g = behind r l.0 in
        let a = writer_all t i s x h.0 in
        let n = go.on s a.0 a.1 in
        both s g.0 r e h.0 h.1 g.1 g.2 l.1 n.0 n.1 (precedes g.0 s) refl

pub source_stays : (t t' : Trace) (x : ℕ) (i : Op) → WellKinded t → WellKinded t' → WritersGo t t' x
    → Contains t.ops i → Contains t'.ops i → IsPlaced i → SameSource t t' x (source t i x) (source t' i x)
    ⊎ Overtaken t t' x
source_stays t t' x i k k' go here there p =
    elim (source_moves t t' x i k k' go here there p) [ inl h ↦ inl h | inr m ↦ inr m.3 ]

pub same_origin : (t t' : Trace) (x : ℕ) (o n : Option Op) → SameSource t t' x o n → origin_of n ≡ origin_of o
same_origin t t' x None None h = refl
same_origin t t' x (Some s) (Some n) h = rw (h.becomes.same.0, h.becomes.same.1) refl
same_origin t t' x None (Some n) h = absurd h
same_origin t t' x (Some s) None h = absurd h

-- the same by origins
pub origin_stays : (t t' : Trace) (x : ℕ) (i : Op) → WellKinded t → WellKinded t' → WritersGo t t' x
    → Contains t.ops i → Contains t'.ops i → IsPlaced i → (origin t' i x ≡ origin t i x) ⊎ Overtaken t t' x
origin_stays t t' x i k k' go here there p =
    elim (source_stays t t' x i k k' go here there p) [
      | inl h ↦ inl (same_origin t t' x (source t i x) (source t' i x) h)
      | inr c ↦ inr c
    ]
