-- Any number of steps: sources are stable, and nothing is mended.
use Rattle.std.proofs.Common.{ℕ, ◌≡◌, ◌⊎◌, inl, inr, true, refl, ◌∙◌}
use Rattle.std.proofs.lemmas.Bool.{and_parts}
use Rattle.std.specs.List.{Contains}
use Rattle.rvwmo_model.specs.declared.operations.Op.{Op}
use Rattle.rvwmo_model.specs.declared.preserved.Rule.{Rule}
use Rattle.rvwmo_model.specs.declared.traces.Trace.{Trace}
use Rattle.rvwmo_model.specs.Order.{op_loads, has_byte, reads}
use Rattle.rvwmo_model.specs.Sources.{origin}
use Rattle.rvwmo_model.specs.Atomicity.{Torn}
use Rattle.rvwmo_model.specs.InForm.{IsPlaced}
use Rattle.rvwmo_model.specs.Legal.{WrongValue}
use Rattle.growth_laws.specs.Laws.{HasBrokenBy, HasOverlap, StableSources, NoMending}
use Rattle.growth_laws.proofs.Facts.{load_placed}
use Rattle.growth_laws.proofs.Links.{Chain, none, then}
use Rattle.growth_laws.proofs.Pairs.{origin_on, broken_on, overlap_on}
use Rattle.growth_laws.proofs.Lawful.{value_on, torn_on, legal_back}
use Rattle.growth_laws.proofs.Growths.{grows_chain}

pub chain_stays : (t v : Trace) (i : Op) → Chain t v → Contains t.ops i → IsPlaced i → Contains v.ops i
chain_stays _ _ i (none t) h p = h
chain_stays _ _ i (then t u v c g) h p = g.operations.stays i (chain_stays t u i c h p) p

pub chain_overlap : (t v : Trace) → Chain t v → HasOverlap t → HasOverlap v
chain_overlap _ _ (none t) b = b
chain_overlap _ _ (then t u v c g) b = overlap_on u v g.before g.after g.writers g.operations (chain_overlap t u c b)

pub chain_broken : (t v : Trace) (r : Rule) → Chain t v → HasBrokenBy r t → HasBrokenBy r v ⊎ HasOverlap v
chain_broken _ _ r (none t) b = inl b
chain_broken _ _ r (then t u v c g) b = elim (chain_broken t u r c b) [
  | inl n ↦ broken_on u v g.before g.after g.writers g.operations r n
  | inr o ↦ inr (overlap_on u v g.before g.after g.writers g.operations o)
]

pub chain_origin : (t v : Trace) (i : Op) (x : ℕ) → Chain t v → Contains t.ops i → IsPlaced i → reads x i ≡ true
    → (origin v i x ≡ origin t i x) ⊎ HasOverlap v
chain_origin _ _ i x (none t) h p q = inl refl
chain_origin _ _ i x (then t u v c g) h p q = elim (chain_origin t u i x c h p q) [
  | inr b ↦ inr (overlap_on u v g.before g.after g.writers g.operations b)
  | inl e ↦ elim (origin_on u v g.before g.after g.writers g.operations i x (chain_stays t u i c h p) q) [
    | inl f ↦ inl (f ∙ e)
    | inr b ↦ inr b
  ]
]

pub chain_value : (initial : ℕ → ℕ) (t v : Trace) (i : Op) (x : ℕ) → Chain t v → WrongValue initial t i x
    → WrongValue initial v i x ⊎ HasOverlap v
chain_value initial _ _ i x (none t) w = inl w
chain_value initial _ _ i x (then t u v c g) w = elim (chain_value initial t u i x c w) [
  | inl a ↦ value_on u v g.before g.after g.writers g.operations initial i x a
  | inr b ↦ inr (overlap_on u v g.before g.after g.writers g.operations b)
]

pub chain_torn : (t v : Trace) (r w : Op) → Chain t v → Torn t r w → Torn v r w ⊎ HasOverlap v
chain_torn _ _ r w (none t) p = inl p
chain_torn _ _ r w (then t u v c g) p = elim (chain_torn t u r w c p) [
  | inl a ↦ torn_on u v g.before g.after g.writers g.operations r w a
  | inr b ↦ inr (overlap_on u v g.before g.after g.writers g.operations b)
]

pub stable_sources : StableSources
stable_sources t t' i x k g h q =
    chain_origin t t' i x (grows_chain t t' k g) h (load_placed t i k h (and_parts (op_loads i) (has_byte x i) q).0) q

pub no_mending : NoMending
no_mending initial t t' k g =
    let c = grows_chain t t' k g in
    record {
      pairs = λ r b. chain_broken t t' r c b;
      overlaps = chain_overlap t t' c;
      values = λ i x v. chain_value initial t t' i x c v;
      atomicity = λ r w p. chain_torn t t' r w c p;
      legal = legal_back initial t t' k (λ r b. chain_broken t t' r c b) (λ i x v. chain_value initial t t' i x c v)
          (λ r w p. chain_torn t t' r w c p);
    }
