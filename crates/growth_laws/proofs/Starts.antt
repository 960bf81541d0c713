-- The trace of nothing is well kinded and legal.
use Rattle.std.proofs.Common.{ℕ, arith}
use Rattle.rvwmo_model.specs.InForm.{InForm}
use Rattle.tandem_base.specs.Granules.{IsGranule}
use Rattle.rvwmo_model.proofs.Membership.{nothing_in}
use Rattle.growth_laws.specs.Kinds.{WellKinded}
use Rattle.growth_laws.specs.Laws.{nothing_yet, StartsWell}

empty_form : (granule : ℕ) → IsGranule granule → InForm (nothing_yet granule)
empty_form granule g = record {
  rising = λ i j d a b. absurd (omega arith);
  named = λ o h. absurd (nothing_in o h);
  apart = λ i j d a b. absurd (omega arith);
  waiting = λ a b h i e f p q. absurd (nothing_in a h);
  early = λ o h. absurd (nothing_in o h);
  places = λ a b p h i e f. absurd (nothing_in a h);
  whole = λ o h. absurd (nothing_in o h);
  single = λ w h e. absurd (nothing_in w h);
  granule = g;
  aligned = λ o h l e. absurd (nothing_in o h);
}

empty_kinded : (granule : ℕ) → IsGranule granule → WellKinded (nothing_yet granule)
empty_kinded granule g = record {
  form = empty_form granule g;
  kinds = λ o w h e. absurd (nothing_in o h);
  amo = λ a b h i e f. absurd (nothing_in a h);
  early_stores = λ o h. absurd (nothing_in o h);
  unperformed = λ o h e. absurd (nothing_in o h);
  extents = λ a b h i e. absurd (nothing_in a h);
  disjoint = λ a b x h i e c d. absurd (nothing_in a h);
  parts = λ o h. absurd (nothing_in o h);
  cover = λ o x h p e. absurd (nothing_in o h);
  plain = λ o h p. absurd (nothing_in o h);
  early_apart = λ a b h i e. absurd (nothing_in a h);
  early_younger = λ o w h i e. absurd (nothing_in o h);
  paired = λ w h e. absurd (nothing_in w h);
}

pub starts_well : StartsWell
starts_well initial granule g = record {
  kinded = empty_kinded granule g;
  legal = record {
    ordered = λ k a b p. absurd (nothing_in a p.first_in);
    valued = λ i x v. absurd (nothing_in i v.load_in);
    paired = λ w u. absurd (nothing_in w u.sc_in);
    atomic = λ r w p. absurd (nothing_in r p.pair.lr_in);
  };
}
