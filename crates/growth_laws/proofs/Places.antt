-- Performed operations and the others, in the global order.
use Rattle.std.proofs.Common.{◌<◌, ◌≡◌, ◌⊎◌, inl, inr, true, false, Option, Some, None, refl, sym, ◌∙◌, arith}
use Rattle.std.proofs.lemmas.Bool.{both_ways}
use Rattle.std.proofs.lemmas.Bool.Decides.{nat_tests}
use Rattle.tandem_base.specs.declared.names.Place.{Place}
use Rattle.rvwmo_model.specs.declared.operations.Op.{Op}
use Rattle.rvwmo_model.specs.declared.traces.Trace.{Trace}
use Rattle.rvwmo_model.specs.Order.{unperformed, stands_before, standing_of, standing, precedes}
use Rattle.rvwmo_model.specs.InForm.{IsPlaced}
use Rattle.rvwmo_model.proofs.Orders.{before_total}
use Rattle.growth_laws.specs.Kinds.{SameInsn}
use Rattle.growth_laws.specs.Writers.{Becomes}

pub place_cases : (o : Op) → IsPlaced o ⊎ (o.place ≡ None)
place_cases o = at o.place refl
  where
    at : (p : Option Place) → o.place ≡ p → IsPlaced o ⊎ (o.place ≡ None)
    at (Some p) e = inl (p, e)
    at None e = inr e

pub not_both : (o : Op) → IsPlaced o → o.place ≡ None → ⊥
not_both o p e = let c : Some p.0 ≡ None = sym p.1 ∙ e in cc

-- performed operations come before the others
pub placed_first : (a b : Op) → IsPlaced a → b.place ≡ None → precedes a b ≡ true
unfolding stands_before
placed_first a b p e = rw (p.1, e) refl

pub unplaced_after : (a b : Op) → a.place ≡ None → IsPlaced b → precedes a b ≡ false
unfolding stands_before
unplaced_after a b e p = rw (p.1, e) refl

-- the others stand by hart and tag
pub unplaced_order : (a b : Op) → a.place ≡ None → b.place ≡ None → a.name.hart ≡ b.name.hart → precedes a b ≡ true
    → a.name.tag < b.name.tag
unfolding stands_before
unplaced_order a b e f h p =
    let q : stands_before (unperformed a.name.hart a.name.tag) (unperformed b.name.hart b.name.tag) ≡ true =
    rw (e, f) at p in
    grind (arith, nat_tests)

-- two that are not performed and stand alike are of one instruction
pub unplaced_same : (a b : Op) → a.place ≡ None → b.place ≡ None → precedes a b ≡ false → precedes b a ≡ false
    → SameInsn a b
unplaced_same a b e f p q =
    let p' : stands_before (unperformed a.name.hart a.name.tag) (unperformed b.name.hart b.name.tag) ≡ false =
    rw (e, f) at p in
    let q' : stands_before (unperformed b.name.hart b.name.tag) (unperformed a.name.hart a.name.tag) ≡ false =
    rw (e, f) at q in
    let same = before_total _ _ p' q' in (cc same, cc same)

-- what comes before a performed operation is performed
pub before_placed : (a b : Op) → IsPlaced b → precedes a b ≡ true → IsPlaced a
before_placed a b p h = elim (place_cases a) [ inl q ↦ q | inr e ↦ absurd (both_ways _ (unplaced_after a b e p) h) ]

-- the same instruction and the same place stand alike
pub rank_same : (n w : Op) → SameInsn n w → n.place ≡ w.place → standing n ≡ standing w
rank_same n w s e = at w.place e
  where
    at : (q : Option Place) → n.place ≡ q → standing_of n.name n.place ≡ standing_of w.name q
    at None e = rw (e, s.0, s.1) refl
    at (Some q) e = rw e refl

-- a performed operation keeps its place
pub rank_kept : (t : Trace) (o n : Op) → IsPlaced o → Becomes t o n → standing n ≡ standing o
rank_kept t o n p b = elim b.place [ inl e ↦ rank_same n o b.same e | inr m ↦ absurd (not_both o p m.0) ]
