-- Where every operation stays, no store moves, and sources are the same.
use Rattle.std.proofs.Common.{ℕ, ◌≡◌, inl, inr, true, ap, ◌∙◌}
use Rattle.std.proofs.lemmas.Bool.{and_parts}
use Rattle.std.specs.List.{Contains}
use Rattle.rvwmo_model.specs.declared.operations.Op.{Op}
use Rattle.rvwmo_model.specs.declared.traces.Trace.{Trace}
use Rattle.rvwmo_model.specs.Order.{has_byte, op_stores, op_loads, reads}
use Rattle.rvwmo_model.specs.Sources.{source}
use Rattle.growth_laws.specs.Kinds.{WellKinded}
use Rattle.growth_laws.specs.Writers.{GoesOn, WritersGo, SameSource}
use Rattle.growth_laws.proofs.Places.{not_both}
use Rattle.growth_laws.proofs.Facts.{load_placed, unplaced_retired}
use Rattle.growth_laws.proofs.Sources.{source_stays}

module _ (t t' : Trace) (x : ℕ) (k : WellKinded t) (k' : WellKinded t') (go : WritersGo t t' x)
    (on : (v : Op) → Contains t.ops v → Contains t'.ops v) where
  -- a store keeps its place
  pub place_stays : (w n : Op) → GoesOn t t' x w n → n.place ≡ w.place
  place_stays w n g = elim g.becomes.place [
    | inl e ↦ e
    | inr m ↦
        let i = unplaced_retired t w k g.was m.0 in
        let same : n ≡ w = k'.disjoint n w x (g.retired i) (on w i) g.becomes.same
        (and_parts (op_stores n) (has_byte x n) g.stores).1 (and_parts (op_stores w) (has_byte x w) g.stored).1 in
        ap (λ (z : Op). z.place) same
  ]

  pub unmoved : (i : Op) → Contains t.ops i → reads x i ≡ true → SameSource t t' x (source t i x) (source t' i x)
  unmoved i h q =
      elim (source_stays t t' x i k k' go h (on i h)
      (load_placed t i k h (and_parts (op_loads i) (has_byte x i) q).0)) [
        | inl s ↦ s
        | inr c ↦
            absurd (not_both c.crossed.second c.placed (place_stays c.old c.crossed.second c.goes ∙ c.unperformed))
      ]
