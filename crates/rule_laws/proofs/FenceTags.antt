-- The FENCEs of an order by the tag of the latest.
use Rattle.std.proofs.Common.{ℕ, inl, inr, Option, Some, None, arith}
use Rattle.std.proofs.lemmas.Bool.{both_ways, cases_order}
use Rattle.rvwmo_model.specs.declared.traces.Trace.{Trace}
use Rattle.rule_laws.specs.Fences.{Class, FenceAfter, IsLatestFence, IsUnderTag}

-- a FENCE of the order is after a tag exactly where the tag is below that of the latest
pub fence_by_tag : (t : Trace) (h : ℕ) (c d : Class) (f : Option ℕ) (i : ℕ) → IsLatestFence t h c d f
    → (FenceAfter t h c d i → IsUnderTag i f) × (IsUnderTag i f → FenceAfter t h c d i)
fence_by_tag t h c d None i l = ((λ p. both_ways _ (l p.0) p.2), λ p. absurd p)
fence_by_tag t h c d (Some f) i l = (
  (λ p. elim (cases_order f p.0) [
    | inl e ↦ (let z = p.1 in omega (arith, e, z))
    | inr y ↦ elim y [ inl b ↦ absurd (both_ways _ (l.1 p.0 b) p.2) | inr b ↦ (let z = p.1 in omega (arith, b, z)) ]
  ]),
  λ p. (f, p, l.0),
)
