-- How a growth changes the two marks of a byte, as far as they stand after a standing; what a Write reports.
use Rattle.std.proofs.Common.{ℕ, ◌≡◌, inl, inr, false, List, Option, Some, None, refl}
use Rattle.std.proofs.Common.{subst}
use Rattle.std.proofs.lemmas.Bool.{and_parts}
use Rattle.rvwmo_model.specs.declared.instructions.Retired.{Retired}
use Rattle.rvwmo_model.specs.declared.operations.Op.{Op}
use Rattle.rvwmo_model.specs.declared.traces.Trace.{Trace}
use Rattle.rvwmo_model.specs.Order.{Standing, stands_before, standing, op_loads, has_byte}
use Rattle.rvwmo_model.specs.Sources.{later, origin}
use Rattle.rvwmo_model.proofs.Membership.{nothing_in}
use Rattle.growth_laws.specs.Kinds.{WellKinded}
use Rattle.growth_laws.specs.Growth.{SameMembers, AddInsn, no_growth, more_growth, grow_stores}
use Rattle.growth_laws.specs.Corollaries.{PerformsNothing}
use Rattle.growth_laws.proofs.Chains.{stable_sources}
use Rattle.growth_laws.proofs.Quiet.{sources_rest}
use Rattle.rule_laws.specs.Above.{Over, if_over}
use Rattle.rule_laws.specs.TwoMarks.{LoadsLast, TwoMarks, second_mark, AreTwoMarks}
use Rattle.rule_laws.specs.ByteMarkLaws.{NoneStores, IsLoadIn, TwoMarksGoOn}
use Rattle.rule_laws.specs.WriteLaws.{WriteReports}
use Rattle.rule_laws.proofs.LatestOver.{over_both, over_twice}
use Rattle.rule_laws.proofs.TwoMarkLaws.{two_none, two_same, two_over}
use Rattle.rule_laws.proofs.Stale.{two_noted_over}
use Rattle.rule_laws.proofs.KeptTwo.{last_after, last_old, last_new, two_cleared, two_atomic, stores_last}
use Rattle.rule_laws.proofs.Drains.{mark_first_passing, parts_fall, drained_mark, fenced_stores, reported_stores}
use Rattle.rule_laws.proofs.Drains.{unreported_stores}

-- the same loads from the same sources
pub marks_same : (t t' : Trace) (h x : ℕ) (q : Standing) (one two : Option Op)
    → ((v : Op) → LoadsLast t h x v → LoadsLast t' h x v) → ((v : Op) → LoadsLast t' h x v → LoadsLast t h x v)
    → ((v : Op) → LoadsLast t h x v → origin t' v x ≡ origin t v x) → AreTwoMarks t h x q one two
    → AreTwoMarks t' h x q one two
marks_same t t' h x q one two on back same m =
    two_same (Over (LoadsLast t h x) q) (Over (LoadsLast t' h x) q) (λ v. origin t v x) (λ v. origin t' v x)
    (if_over q one) (if_over q two) (λ v p. (on v p.0, p.1)) (λ v p. (back v p.0, p.1)) (λ v p. same v p.0) m

-- the same operations
members_last : (t t' : Trace) (h x : ℕ) → SameMembers t.ops t'.ops → (v : Op) → LoadsLast t h x v → LoadsLast t' h x v
members_last t t' h x ops v p = ((ops.on v p.0.0, p.0.1), p.1, λ o own l. p.2 o (ops.back o own.0, own.1) l)

members_back : (t t' : Trace) (h x : ℕ) → SameMembers t.ops t'.ops → (v : Op) → LoadsLast t' h x v → LoadsLast t h x v
members_back t t' h x ops v p = ((ops.back v p.0.0, p.0.1), p.1, λ o own l. p.2 o (ops.on o own.0, own.1) l)

members_marks : (t t' : Trace) (h x : ℕ) (q : Standing) (one two : Option Op) → WellKinded t → PerformsNothing t t'
    → SameMembers t.ops t'.ops → AreTwoMarks t h x q one two → AreTwoMarks t' h x q one two
members_marks t t' h x q one two k quiet ops m =
    marks_same t t' h x q one two (members_last t t' h x ops) (members_back t t' h x ops)
    (λ v p. (sources_rest t t' v x k quiet p.0.0 p.1).store) m

narrowed : (t : Trace) (h x : ℕ) (p q : Standing) (one two : Option Op) → stands_before q p ≡ false
    → AreTwoMarks t h x p one two → AreTwoMarks t h x q one two
narrowed t h x p q one two below m =
    subst (λ (o : Option Op). TwoMarks (Over (LoadsLast t h x) q) (λ v. origin t v x) o (if_over q two))
    (over_twice p q one below)
    (subst (λ (o : Option Op). TwoMarks (Over (LoadsLast t h x) q) (λ v. origin t v x) (if_over q (if_over p one)) o)
    (over_twice p q two below)
    (two_same (Over (Over (LoadsLast t h x) p) q) (Over (LoadsLast t h x) q) (λ v. origin t v x) (λ v. origin t v x)
    (if_over q (if_over p one)) (if_over q (if_over p two)) (λ v d. (d.0.0, d.1))
    (λ v d. ((d.0, over_both p q (standing v) below d.1), d.1)) (λ v d. refl)
    (two_over (Over (LoadsLast t h x) p) (λ v. origin t v x) (if_over p one) (if_over p two) q m)))

module _ (t t' : Trace) (r : Retired) (new : List Op) (h x : ℕ) (q : Standing) (k : WellKinded t)
    (s : AddInsn t t' r new) where
  same_source : (v : Op) → LoadsLast t h x v → origin t' v x ≡ origin t v x
  same_source v p = (sources_rest t t' v x k (inr (inr (r, new, s))) p.0.0 p.1).store

  rested : (one two : Option Op) → NoneStores new h x → ((v : Op) → IsLoadIn new h x v → ⊥)
      → AreTwoMarks t h x q one two → AreTwoMarks t' h x q one two
  rested one two none noload m = marks_same t t' h x q one two (λ v p. last_old t t' r new k s h x v p none)
      (λ v p. elim (last_after t t' r new k s h x v p) [ inl y ↦ y.0 | inr y ↦ absurd (noload v y) ]) same_source m

  noted_now : (one two : Option Op) (c : Op) → NoneStores new h x → IsLoadIn new h x c
      → AreTwoMarks t h x q one two
      → AreTwoMarks t' h x q (later one c) (second_mark (λ v. origin t' v x) one two c)
  noted_now one two c none load m =
      two_noted_over (LoadsLast t h x) (LoadsLast t' h x) (λ v. origin t' v x) q one two c
      (λ v p. last_old t t' r new k s h x v p none) (last_new t t' r new k s h x c load)
      (λ v p. elim (last_after t t' r new k s h x v p) [ inl y ↦ inr y.0 | inr y ↦ inl (one_load v y) ])
      (two_same (Over (LoadsLast t h x) q) (Over (LoadsLast t h x) q) (λ v. origin t v x) (λ v. origin t' v x)
      (if_over q one) (if_over q two) (λ v p. p) (λ v p. p) (λ v p. same_source v p.0) m)
    where
      one_load : (v : Op) → IsLoadIn new h x v → v ≡ c
      one_load v y = s.are_of.disjoint v c x y.0 load.0 (and_parts (op_loads v) (has_byte x v) y.2).1
          (and_parts (op_loads c) (has_byte x c) load.2).1

pub two_marks_go_on : TwoMarksGoOn
two_marks_go_on = record {
  start = λ granule h x q. two_none _ _ (λ v p. nothing_in v p.0.0.0);
  narrows = λ t h x p q one two below m. narrowed t h x p q one two below m;
  nothing = λ t t' h x q one two k s m. members_marks t t' h x q one two k (inl s) s.ops m;
  early = λ t t' e h x q one two k s m. members_marks t t' h x q one two k (inr (inl (e, s))) s.ops m;
  rests = λ t t' r new h x q one two k s none noload m. rested t t' r new h x q k s one two none noload m;
  noted = λ t t' r new h x q one two c k s none load m. noted_now t t' r new h x q k s one two c none load m;
  cleared = λ t t' r new h x q c k s i e w n.
      two_over (LoadsLast t' h x) (λ v. origin t' v x) None None q (two_cleared t t' r new k s h x c i e w n);
  atomic = λ t t' r new h x q c k s load w.
      two_over (LoadsLast t' h x) (λ v. origin t' v x) (Some c) None q (two_atomic t t' r new k s h x c load w);
  stores = λ initial t t' g parts h x q one two k s legal m.
      marks_same t t' h x q one two (λ v p. (stores_last g t t' parts h x k s v).0 p)
      (λ v p. (stores_last g t t' parts h x k s v).1 p)
      (λ v p. elim (stable_sources t t' v x k (more_growth t t t' (no_growth t) (grow_stores g parts s)) p.0.0 p.1) [
        | inl e ↦ e
        | inr b ↦ absurd (legal.ordered _ b.0 b.1 b.2)
      ]) m;
}

pub write_reports : WriteReports
write_reports = record {
  first = λ initial t t' h parts j b after before w g k legal s split hw hg.
      drained_mark initial t t' h parts k legal s j b after before w g split hw hg;
  falling = λ h t t' parts s. parts_fall h t t' parts s;
  passing = λ test parts f. mark_first_passing test parts f;
  fenced = λ t a b e f. fenced_stores t a b e f;
  reported = λ initial t t' h parts first j a b k legal s are l.
      reported_stores initial t t' h parts k legal s first are j a b l.rule l.second l.answer l.lesser l.least;
  unbroken = λ initial t t' h parts first k legal s are none.
      unreported_stores initial t t' h parts k legal s first are none;
}
