-- What is wrong of old operations after any number of steps was wrong before, or a pair of rule 1 is broken.
use Rattle.std.proofs.Common.{ℕ, ◌≡◌, ◌⊎◌, inl, inr, true}
use Rattle.std.proofs.lemmas.Bool.{and_parts}
use Rattle.std.specs.List.{Contains}
use Rattle.rvwmo_model.specs.declared.operations.Op.{Op}
use Rattle.rvwmo_model.specs.declared.preserved.Rule.{Rule}
use Rattle.rvwmo_model.specs.declared.traces.Trace.{Trace}
use Rattle.rvwmo_model.specs.Order.{op_loads, has_byte, reads}
use Rattle.rvwmo_model.specs.Sources.{source}
use Rattle.rvwmo_model.specs.Rules.{Broken}
use Rattle.rvwmo_model.specs.Atomicity.{Torn}
use Rattle.rvwmo_model.specs.InForm.{IsPlaced}
use Rattle.rvwmo_model.specs.Legal.{WrongValue}
use Rattle.growth_laws.specs.Writers.{SameSource}
use Rattle.growth_laws.specs.Laws.{HasOverlap}
use Rattle.growth_laws.proofs.Facts.{load_placed}
use Rattle.growth_laws.proofs.Sources.{source_stays}
use Rattle.growth_laws.proofs.Links.{Link, Chain, none, then}
use Rattle.growth_laws.proofs.Pairs.{has_overlap, overlap_on}
use Rattle.growth_laws.proofs.Backward.{broken_back, value_back, torn_back}
use Rattle.growth_laws.proofs.Chains.{chain_stays}

same_or_overlap : (u v : Trace) → Link u v → (i : Op) (x : ℕ) → Contains u.ops i → reads x i ≡ true
    → SameSource u v x (source u i x) (source v i x) ⊎ HasOverlap v
same_or_overlap u v g i x h q =
    let p = load_placed u i g.before h (and_parts (op_loads i) (has_byte x i) q).0 in
    elim (source_stays u v x i g.before g.after (g.writers x) h (g.operations.stays i h p) p) [
      | inl s ↦ inl s
      | inr c ↦ inr (has_overlap v x c.crossed)
    ]

overlap_goes : (u v : Trace) → Link u v → HasOverlap u → HasOverlap v
overlap_goes u v g = overlap_on u v g.before g.after g.writers g.operations

pub chain_broken_back : (t v : Trace) (r : Rule) (a b : Op) → Chain t v → Contains t.ops a → IsPlaced a
    → Contains t.ops b → IsPlaced b → Broken r v a b → Broken r t a b ⊎ HasOverlap v
chain_broken_back _ _ r a b (none t) ha pa hb pb q = inl q
chain_broken_back _ _ r a b (then t u v c g) ha pa hb pb q =
    elim (broken_back u v g.before g.after g.writers g.operations (HasOverlap v) (same_or_overlap u v g) r a b
    (chain_stays t u a c ha pa) (chain_stays t u b c hb pb) q) [
      | inr z ↦ inr z
      | inl y ↦ elim (chain_broken_back t u r a b c ha pa hb pb y) [
        | inl w ↦ inl w
        | inr z ↦ inr (overlap_goes u v g z)
      ]
    ]

pub chain_value_back : (initial : ℕ → ℕ) (t v : Trace) (i : Op) (x : ℕ) → Chain t v → Contains t.ops i → IsPlaced i
    → WrongValue initial v i x → WrongValue initial t i x ⊎ HasOverlap v
chain_value_back initial _ _ i x (none t) h p q = inl q
chain_value_back initial _ _ i x (then t u v c g) h p q =
    elim (value_back u v g.before g.after g.writers g.operations (HasOverlap v) (same_or_overlap u v g) initial i x
    (chain_stays t u i c h p) q) [
      | inr z ↦ inr z
      | inl y ↦ elim (chain_value_back initial t u i x c h p y) [ inl w ↦ inl w | inr z ↦ inr (overlap_goes u v g z) ]
    ]

pub chain_torn_back : (t v : Trace) (r w : Op) → Chain t v → Contains t.ops r → IsPlaced r → Contains t.ops w
    → IsPlaced w → Torn v r w → Torn t r w ⊎ HasOverlap v
chain_torn_back _ _ r w (none t) hr pr hw pw q = inl q
chain_torn_back _ _ r w (then t u v c g) hr pr hw pw q =
    elim (torn_back u v g.before g.after g.writers g.operations (HasOverlap v) (same_or_overlap u v g) r w
    (chain_stays t u r c hr pr) (chain_stays t u w c hw pw) q) [
      | inr z ↦ inr z
      | inl y ↦ elim (chain_torn_back t u r w c hr pr hw pw y) [ inl s ↦ inl s | inr z ↦ inr (overlap_goes u v g z) ]
    ]
