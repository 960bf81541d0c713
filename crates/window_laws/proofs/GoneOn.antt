-- Sources under a growth that breaks no pair of rule 1.
use Rattle.std.proofs.Common.{inl, inr}
use Rattle.std.proofs.lemmas.Bool.{and_parts}
use Rattle.rvwmo_model.specs.Order.{op_loads, has_byte}
use Rattle.growth_laws.proofs.Facts.{load_placed}
use Rattle.growth_laws.proofs.Sources.{source_stays}
use Rattle.growth_laws.proofs.Pairs.{has_overlap}
use Rattle.growth_laws.proofs.Growths.{growth_chain, chain_kinded}
use Rattle.growth_laws.proofs.Chains.{chain_stays}
use Rattle.growth_laws.proofs.Messages.{keeps_writers}
use Rattle.window_laws.specs.SourceLaws.{SourcesGoOn}

pub sources_go_on : SourcesGoOn
sources_go_on t t' i x k g h q quiet =
    let p = load_placed t i k h (and_parts (op_loads i) (has_byte x i) q).0 in
    let c = growth_chain t t' k g in
    elim (source_stays t t' x i k (chain_kinded t t' k c) (keeps_writers t t' x k g) h (chain_stays t t' i c h p) p) [
      | inl s ↦ s
      | inr o ↦ absurd (quiet (has_overlap t' x o.crossed))
    ]
