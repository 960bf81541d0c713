-- The global order of a trace in form is total, and sources are latest.
use Rattle.std.proofs.Common.{ℕ, ◌≡◌, inl, inr, false, Option, Some, None, refl, sym, ap, ◌∙◌, slice_index_or}
use Rattle.std.proofs.lemmas.Bool.{cases_Bool, cases_order}
use Rattle.std.proofs.lemmas.List.{get_or_default}
use Rattle.std.specs.Prelude.{MatchOption}
use Rattle.std.specs.List.{Contains}
use Rattle.std.proofs.lemmas.List.Elements.{Contains-append_cases}
use Rattle.tandem_base.specs.declared.names.Place.{Place}
use Rattle.rvwmo_model.specs.declared.operations.Op.{Op}
use Rattle.rvwmo_model.specs.declared.traces.Trace.{Trace}
use Rattle.rvwmo_model.specs.Order.{standing_of, standing, precedes, everything}
use Rattle.rvwmo_model.specs.Sources.{source, IsWriter}
use Rattle.rvwmo_model.specs.InForm.{InForm}
use Rattle.rvwmo_model.specs.Laws.{IsTotalOn, SourceIsLatest}
use Rattle.rvwmo_model.proofs.Orders.{before_self, before_trans, before_total}
use Rattle.rvwmo_model.proofs.Latest.{source_is, source_is_none}

-- operations of one name are the same
pub one_name : (t : Trace) (a b : Op) → InForm t → Contains t.ops a → Contains t.ops b → a.name ≡ b.name → a ≡ b
one_name t a b f h i e = elim (cases_order h.0 i.0) [
  | inl q ↦ sym h.2 ∙ get_or_default t.ops h.0 a b h.1 ∙ ap (λ (k : ℕ). slice_index_or t.ops k b) q ∙ i.2
  | inr o ↦ elim o [
    | inl l ↦ absurd (f.apart h.0 i.0 a l i.1
        (ap (λ (o : Op). o.name) h.2 ∙ e ∙ ap (λ (o : Op). o.name) (sym (get_or_default t.ops i.0 a b i.1 ∙ i.2))))
    | inr l ↦ absurd (f.apart i.0 h.0 a l h.1 (ap (λ (o : Op). o.name) (get_or_default t.ops i.0 a b i.1 ∙ i.2) ∙ sym e
        ∙ ap (λ (o : Op). o.name) (sym h.2)))
  ]
]

-- what is not performed is of an instruction that retired
waiting_retired : (t : Trace) (o : Op) → InForm t → Contains (everything t) o → o.place ≡ None → Contains t.ops o
waiting_retired t o f h e =
    elim (Contains-append_cases t.ops t.early o h) [
      | inl a ↦ a
      | inr b ↦ absurd (let p = f.early o b in let q : Some p.0 ≡ None = sym p.1 ∙ e in cc)
    ]

-- operations that stand alike are the same
pub stand_alike : (t : Trace) (a b : Op) → InForm t → Contains (everything t) a → Contains (everything t) b
    → precedes a b ≡ false → precedes b a ≡ false → a ≡ b
stand_alike t a b f ha hb p q = at a.place refl b.place refl (before_total (standing a) (standing b) p q)
  where
    at : (m : Option Place) → a.place ≡ m → (n : Option Place) → b.place ≡ n
        → standing_of a.name a.place ≡ standing_of b.name b.place → a ≡ b
    at (Some m) d (Some n) e r =
        let same : m ≡ n =
        (let s : standing_of a.name (Some m) ≡ standing_of b.name (Some n) = ap (standing_of a.name) (sym d) ∙ r
        ∙ ap (standing_of b.name) e in cc) in
        f.places a b m ha hb d (e ∙ ap (λ (z : Place). Some z) (sym same))
    at (Some m) d None e r =
        absurd (let s : standing_of a.name (Some m) ≡ standing_of b.name None = ap (standing_of a.name) (sym d) ∙ r
        ∙ ap (standing_of b.name) e in cc)
    at None d (Some n) e r =
        absurd (let s : standing_of a.name None ≡ standing_of b.name (Some n) = ap (standing_of a.name) (sym d) ∙ r
        ∙ ap (standing_of b.name) e in cc)
    at None d None e r =
        let s : standing_of a.name None ≡ standing_of b.name None = ap (standing_of a.name) (sym d) ∙ r
        ∙ ap (standing_of b.name) e in
        f.waiting a b (waiting_retired t a f ha d) (waiting_retired t b f hb e) (cc) (cc) d e

pub total_order : (t : Trace) → InForm t → IsTotalOn (everything t)
total_order t f = record {
  irreflexive = λ a. before_self (standing a);
  transitive = λ a b c. before_trans (standing a) (standing b) (standing c);
  total = λ a b ha hb. elim (cases_Bool (precedes a b)) [
    | inl p ↦ inr (inl p)
    | inr p ↦ elim (cases_Bool (precedes b a)) [ inl q ↦ inr (inr q) | inr q ↦ inl (stand_alike t a b f ha hb p q) ]
  ];
}

pub source_latest : SourceIsLatest
source_latest t i x = at (source t i x) refl
  where
    at : (o : Option Op) → source t i x ≡ o → MatchOption o ((w : Op) → IsWriter t i x w → ⊥)
        (λ s. IsWriter t i x s × ((w : Op) → IsWriter t i x w → precedes s w ≡ false))
    at (Some s) e = source_is t i x s e
    at None e = source_is_none t i x e
