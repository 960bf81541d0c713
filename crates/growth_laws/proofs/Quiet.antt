-- Growths that perform no store move no source, and some break nothing.
use Rattle.std.proofs.Common.{ℕ, ◌<◌, ◌≡◌, inl, inr, true, List, Option, Some, None, refl, ap, subst, ◌∙◌, arith}
use Rattle.std.proofs.lemmas.Bool.{and_parts}
use Rattle.std.specs.List.{Contains}
use Rattle.rvwmo_model.specs.declared.instructions.Retired.{Retired}
use Rattle.rvwmo_model.specs.declared.operations.Op.{Op}
use Rattle.rvwmo_model.specs.declared.traces.Trace.{Trace}
use Rattle.rvwmo_model.specs.Order.{op_loads, has_byte, reads}
use Rattle.rvwmo_model.specs.Sources.{source}
use Rattle.rvwmo_model.specs.InForm.{IsPlaced, IsOf}
use Rattle.rvwmo_model.specs.Legal.{Legal}
use Rattle.rvwmo_model.proofs.Membership.{nothing_in}
use Rattle.growth_laws.specs.Kinds.{WellKinded}
use Rattle.growth_laws.specs.Growth.{AddInsn}
use Rattle.growth_laws.specs.Writers.{SameSource}
use Rattle.growth_laws.specs.Laws.{source_place, SourceStays, WrongOnlyBy}
use Rattle.growth_laws.specs.Corollaries.{SourcesRest, QuietInsns, SecondOfHart}
use Rattle.growth_laws.proofs.Places.{not_both}
use Rattle.growth_laws.proofs.Facts.{load_placed}
use Rattle.growth_laws.proofs.Sources.{same_origin}
use Rattle.growth_laws.proofs.Links.{Link}
use Rattle.growth_laws.proofs.Lawful.{same_given, sc_placed}
use Rattle.growth_laws.proofs.Pairs.{second_placed}
use Rattle.growth_laws.proofs.Growths.{same_link, early_link, insn_link}
use Rattle.growth_laws.proofs.Unmoved.{place_stays, unmoved}
use Rattle.growth_laws.proofs.FaultSteps.{insn_breaks_its_own}
use Rattle.growth_laws.proofs.Operations.{op_older}
use Rattle.growth_laws.proofs.Reduction.{second_hart}
use Rattle.growth_laws.proofs.Steps.{only}

-- ---- sources

rest : (t t' : Trace) (i : Op) (x : ℕ) → Link t t' → ((v : Op) → Contains t.ops v → Contains t'.ops v)
    → Contains t.ops i → reads x i ≡ true → SourceStays t t' i x
rest t t' i x l on h q = record {
  store = same_origin t t' x (source t i x) (source t' i x) same;
  place = at (source t i x) (source t' i x) same;
  byte = λ initial. same_given initial t t' x (source t i x) (source t' i x) same;
}
  where
    same : SameSource t t' x (source t i x) (source t' i x)
    same = unmoved t t' x l.before l.after (l.writers x) on i h q

    at : (o n : Option Op) → SameSource t t' x o n → source_place n ≡ source_place o
    at None None s = refl
    at (Some s) (Some n) g = place_stays t t' x l.before l.after (l.writers x) on s n g
    at None (Some n) s = absurd s
    at (Some s) None g = absurd g

pub sources_rest : SourcesRest
sources_rest t t' i x k (inl s) h q = rest t t' i x (same_link t t' k s) s.ops.on h q
sources_rest t t' i x k (inr (inl e)) h q = rest t t' i x (early_link t t' e.0 k e.1) e.1.ops.on h q
sources_rest t t' i x k (inr (inr n)) h q = rest t t' i x (insn_link t t' n.0 n.1 k n.2) n.2.ops_on h q

-- ---- instructions that break nothing

-- where the new operations are not performed
quiet : (initial : ℕ → ℕ) (t t' : Trace) (r : Retired) (new : List Op) → WellKinded t → Legal initial t
    → AddInsn t t' r new → ((v : Op) → Contains new v → v.place ≡ None) → Legal initial t'
quiet initial t t' r new k legal s waits = record {
  ordered = λ j a b p. not_own b p.second_in (second_placed t' j a b p) (only.pairs j a b p);
  valued = λ i x v. not_own i v.load_in
      (load_placed t' i k' v.load_in (and_parts (op_loads i) (has_byte x i) v.loads).0)
      (only.values i x v);
  paired = λ w u. let z = k'.paired w u.sc_in u.stored in u.alone z.0 z.1 z.2;
  atomic = λ i w p. not_own w p.pair.sc_in (sc_placed t' w k' p.pair.sc_in p.pair.stored) (only.atomicity i w p);
}
  where
    only : WrongOnlyBy initial t' r
    only = insn_breaks_its_own initial t t' r new k legal s

    k' : WellKinded t'
    k' = (insn_link t t' r new k s).after

    -- no operation of r is performed
    not_own : (v : Op) → Contains t'.ops v → IsPlaced v → IsOf r v → ⊥
    not_own v i p mine = elim (s.ops_back v i) [
      | inl m ↦ not_both v p (waits v m)
      | inr j ↦ let l : v.name.tag < r.tag = op_older t t' r new v k s j mine.0 in omega (arith, mine.1)
    ]

pub quiet_insns : QuietInsns
quiet_insns initial t t' r new k legal s = record {
  store = λ o a. quiet initial t t' r new k legal s (λ v i. ap (λ (z : Op). z.place) (only o v new a.one i)
      ∙ a.unperformed);
  nothing =
      λ a. quiet initial t t' r new k legal s
      (λ v i. absurd (nothing_in v (subst (λ (l : List Op). Contains l v) a.none i)));
}

pub second_of_hart : SecondOfHart
second_of_hart = second_hart
