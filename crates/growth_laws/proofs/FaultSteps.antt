-- What nothing, an early store and an instruction can break in a legal trace.
use Rattle.std.proofs.Common.{ℕ, ◌<◌, ◌≡◌, ◌⊎◌, inl, inr, true, ◌∙◌, arith}
use Rattle.std.specs.List.{Contains}
use Rattle.rvwmo_model.specs.declared.operations.Op.{Op}
use Rattle.rvwmo_model.specs.declared.preserved.Rule.{Rule}
use Rattle.rvwmo_model.specs.declared.traces.Trace.{Trace}
use Rattle.rvwmo_model.specs.Order.{reads}
use Rattle.rvwmo_model.specs.Sources.{source}
use Rattle.rvwmo_model.specs.Rules.{Broken}
use Rattle.rvwmo_model.specs.Atomicity.{Torn}
use Rattle.rvwmo_model.specs.Legal.{WrongValue, Legal}
use Rattle.growth_laws.specs.Writers.{SameSource}
use Rattle.growth_laws.specs.Laws.{EarlyBreaksNothing, InsnBreaksItsOwn}
use Rattle.growth_laws.proofs.Links.{Link}
use Rattle.growth_laws.proofs.Operations.{op_older}
use Rattle.growth_laws.proofs.Growths.{same_link, early_link, insn_link}
use Rattle.growth_laws.proofs.Unmoved.{unmoved}
use Rattle.growth_laws.proofs.Backward.{broken_back, value_back, torn_back}

-- a step by which all operations stay makes nothing wrong of them
module _ (initial : ℕ → ℕ) (t t' : Trace) (l : Link t t') (on : (v : Op) → Contains t.ops v → Contains t'.ops v)
    (legal : Legal initial t) where
  same_source : (i : Op) (x : ℕ) → Contains t.ops i → reads x i ≡ true → SameSource t t' x (source t i x)
      (source t' i x) ⊎ ⊥
  same_source i x h q = inl (unmoved t t' x l.before l.after (l.writers x) on i h q)

  pub old_unbroken : (r : Rule) (a b : Op) → Contains t.ops a → Contains t.ops b → Broken r t' a b → ⊥
  old_unbroken r a b ha hb p =
      elim (broken_back t t' l.before l.after l.writers l.operations ⊥ same_source r a b ha hb p) [
        | inl q ↦ legal.ordered r a b q
        | inr c ↦ c
      ]

  pub old_right : (i : Op) (x : ℕ) → Contains t.ops i → WrongValue initial t' i x → ⊥
  old_right i x h v =
      elim (value_back t t' l.before l.after l.writers l.operations ⊥ same_source initial i x h v) [
        | inl w ↦ legal.valued i x w
        | inr c ↦ c
      ]

  pub old_atomic : (r w : Op) → Contains t.ops r → Contains t.ops w → Torn t' r w → ⊥
  old_atomic r w hr hw p =
      elim (torn_back t t' l.before l.after l.writers l.operations ⊥ same_source r w hr hw p) [
        | inl q ↦ legal.atomic r
            w q
        | inr c ↦ c
      ]

  -- so where it adds no operation, the trace stays legal
  pub still_legal : ((v : Op) → Contains t'.ops v → Contains t.ops v) → Legal initial t'
  still_legal back = record {
    ordered = λ r a b p. old_unbroken r a b (back a p.first_in) (back b p.second_in) p;
    valued = λ i x v. old_right i x (back i v.load_in) v;
    paired = λ w u. let r = l.after.paired w u.sc_in u.stored in u.alone r.0 r.1 r.2;
    atomic = λ r w p. old_atomic r w (back r p.pair.lr_in) (back w p.pair.sc_in) p;
  }

pub early_breaks_nothing : EarlyBreaksNothing
early_breaks_nothing initial t t' k legal (inl s) =
    still_legal initial t t' (same_link t t' k s) s.ops.on legal s.ops.back
early_breaks_nothing initial t t' k legal (inr e) = still_legal initial t t' (early_link t t' e.0 k e.1) e.1.ops.on
    legal e.1.ops.back

pub insn_breaks_its_own : InsnBreaksItsOwn
insn_breaks_its_own initial t t' r new k legal s = record {
  pairs = λ j a b p. elim (s.ops_back b p.second_in) [
    | inl m ↦ s.are_of.own b m
    | inr hb ↦ absurd (elim (s.ops_back a p.first_in) [
      | inl m ↦ younger a b m hb p.one_hart p.in_order
      | inr ha ↦ old_unbroken
          initial t t' l s.ops_on legal j a b ha hb p
    ])
  ];
  values = λ i x v.
      elim (s.ops_back i v.load_in) [
        | inl m ↦ s.are_of.own i m
        | inr hi ↦ absurd (old_right initial t t' l s.ops_on legal i x hi v)
      ];
  atomicity = λ i w p. elim (s.ops_back w p.pair.sc_in) [
    | inl m ↦ s.are_of.own w m
    | inr hw ↦ absurd (elim (s.ops_back i p.pair.lr_in) [
      | inl m ↦ younger i w m hw p.pair.one_hart p.pair.in_order
      | inr hi ↦ old_atomic initial t t' l s.ops_on legal i w hi hw p
    ])
  ];
}
  where
    l : Link t t'
    l = insn_link t t' r new k s

    -- no operation of r is older than one that was there
    younger : (v w : Op) → Contains new v → Contains t.ops w → w.name.hart ≡ v.name.hart → v.name.tag < w.name.tag → ⊥
    younger v w m h e lt =
        let mine = s.are_of.own v m in
        let less : w.name.tag < r.tag = op_older t t' r new w k s h (e ∙ mine.0) in
        omega (arith, mine.1)
