-- What marks answer, and how the running marks go on: the laws.
use Rattle.std.proofs.Common.{ℕ, ◌≡◌, inl, inr, true, Option, None, refl, sym, ap, ◌∙◌}
use Rattle.std.proofs.lemmas.Bool.{both_ways}
use Rattle.rvwmo_model.specs.declared.operations.Op.{Op}
use Rattle.rvwmo_model.specs.declared.traces.Trace.{Trace}
use Rattle.rvwmo_model.specs.Sources.{origin}
use Rattle.rvwmo_model.specs.ProgramOrder.{is_one}
use Rattle.rvwmo_model.proofs.Membership.{nothing_in}
use Rattle.growth_laws.specs.Growth.{Keeps, SameMembers}
use Rattle.window_laws.specs.Latest.{IsLatestIfAny}
use Rattle.window_laws.proofs.Latests.{latest_same}
use Rattle.rule_laws.specs.Own.{IsOwnPerformed, IsOwnWaiting}
use Rattle.rule_laws.specs.Fences.{Class, class_orders, FenceAfter, FencedOff}
use Rattle.rule_laws.specs.MarkedOps.{IsMarked, IsFenced}
use Rattle.rule_laws.specs.TwoMarks.{LoadsLast}
use Rattle.rule_laws.specs.AnswerLaws.{WaitsAt, WaitsFenced, ByteAnswers, RunningAnswers, MarksReach}
use Rattle.rule_laws.specs.AnswerLaws.{WaitingByTag}
use Rattle.rule_laws.specs.RunningLaws.{MarksStart, RunningMarks, FencedMarks, FencesByTag}
use Rattle.rule_laws.proofs.Candidates.{latest_by_tag}
use Rattle.rule_laws.proofs.LatestOver.{mark_kept}
use Rattle.rule_laws.proofs.MarkedRules.{rule4, rule5, rule6, rule7}
use Rattle.rule_laws.proofs.Rule2.{rule2}
use Rattle.rule_laws.proofs.SourceRules.{rule3, rule12}
use Rattle.rule_laws.proofs.OverlapRule.{rule1}
use Rattle.rule_laws.proofs.TwoMarkLaws.{two_over}
use Rattle.rule_laws.proofs.KeptMarks.{run_more, run_same, fence_set, fence_same, part_more, part_same, part_fence}
use Rattle.rule_laws.proofs.FenceTags.{fence_by_tag}

pub byte_answers : ByteAnswers
byte_answers = record {
  rule1 = λ initial t t' r b xs w st one k legal n bytes hw hs ho.
      rule1 t t' r n.new k n.retires b n.here n.performed initial legal xs bytes.all bytes.only w st one hw hs ho;
  rule2 = λ t t' r b q xs one two k n below bytes are.
      rule2 t t' r n.new k n.retires b n.here n.performed q below xs bytes.all bytes.only one two are;
  rule3 = λ t t' r b xs k n bytes. rule3 t t' r n.new k n.retires b n.here n.performed xs bytes.all bytes.only;
  rule12 = λ initial t t' r b lead xs k legal n bytes leads.
      rule12 t t' r n.new k n.retires b n.here n.performed initial legal lead xs bytes.all bytes.only leads;
}

pub running_answers : RunningAnswers
running_answers = record {
  rule4 = λ t t' r b w marks k n hw are. rule4 t t' r n.new k n.retires b n.here n.performed marks are w hw;
  rule5 = λ t t' r b m k n h. rule5 t t' r n.new k n.retires b n.here n.performed m h;
  rule6 = λ t t' r b w m k n hw hm. rule6 t t' r n.new k n.retires b n.here n.performed w m hw hm;
  rule7 = λ t t' r b m k n h. rule7 t t' r n.new k n.retires b n.here n.performed m h;
}

pub marks_reach : MarksReach
marks_reach = record {
  running = λ t h test p q m below a. mark_kept (IsMarked t h test) m p q below a;
  fenced = λ t h c d p q m below a. mark_kept (IsFenced t h c d) m p q below a;
  loads = λ t h x p q m below a. mark_kept (LoadsLast t h x) m p q below a;
  two = λ t h x q one two a. two_over (LoadsLast t h x) (λ v. origin t v x) one two q a;
}

pub marks_start : MarksStart
marks_start = record {
  running = λ granule h test v p. nothing_in v p.0.0.0;
  fenced = λ granule h c d v p. nothing_in v p.0.0.0;
}

-- the same operations, and the same FENCEs
ops_same : (t t' : Trace) (h : ℕ) (P P' : Op → Type 0) (m : Option Op) → SameMembers t.ops t'.ops
    → ((v : Op) → P v → P' v) → ((v : Op) → P' v → P v)
    → IsLatestIfAny (λ v. IsOwnPerformed t h v × P v) m → IsLatestIfAny (λ v. IsOwnPerformed t' h v × P' v) m
ops_same t t' h P P' m ops on back a =
    latest_same (λ v. IsOwnPerformed t h v × P v) (λ v. IsOwnPerformed t' h v × P' v) m
    (λ v p. (((ops.on v p.0.0.0, p.0.0.1), p.0.1), on v p.1))
    (λ v p. (((ops.back v p.0.0.0, p.0.0.1), p.0.1), back v p.1)) a

fence_keeps : (t t' : Trace) (h : ℕ) (c d : Class) (i : ℕ) → Keeps t t' None → FenceAfter t h c d i
    → FenceAfter t' h c d i
fence_keeps t t' h c d i s f = (f.0, f.1, ap (is_one (class_orders c d)) (s.insns h f.0) ∙ f.2)

fence_kept : (t t' : Trace) (h : ℕ) (c d : Class) (i : ℕ) → Keeps t t' None → FenceAfter t' h c d i
    → FenceAfter t h c d i
fence_kept t t' h c d i s f = (f.0, f.1, sym (ap (is_one (class_orders c d)) (s.insns h f.0)) ∙ f.2)

fenced_same : (t t' : Trace) (h : ℕ) (c d : Class) (m : Option Op) → Keeps t t' None → SameMembers t.ops t'.ops
    → IsLatestIfAny (IsFenced t h c d) m → IsLatestIfAny (IsFenced t' h c d) m
fenced_same t t' h c d m s ops a = ops_same t t' h (FencedOff t h c d) (FencedOff t' h c d) m ops
    (λ v p. (p.0, fence_keeps t t' h c d v.name.tag s p.1)) (λ v p. (p.0, fence_kept t t' h c d v.name.tag s p.1)) a

pub running_marks : RunningMarks
running_marks = record {
  nothing = λ t t' h test m s a.
      ops_same t t' h (λ v. test v ≡ true) (λ v. test v ≡ true) m s.ops (λ v p. p) (λ v p. p) a;
  early = λ t t' e h test m s a.
      ops_same t t' h (λ v. test v ≡ true) (λ v. test v ≡ true) m s.ops (λ v p. p) (λ v p. p) a;
  retired = λ t t' r new test m k s placed a. run_more t t' r new k s r.hart test m refl placed a;
  other = λ t t' r new h test m k s why a. run_same t t' r new k s h test m why a;
  performed = λ t t' o n rest test m s e a.
      part_more t t' o n rest s n.name.hart (λ v. test v ≡ true) (λ v. test v ≡ true) (λ v p. p) (λ v p. p) m refl e a;
  passed = λ t t' o n rest h test m s why a.
      part_same t t' o n rest s h (λ v. test v ≡ true) (λ v. test v ≡ true) (λ v p. p) (λ v p. p) m
      (λ p. elim why [ inl z ↦ z p.0 | inr z ↦ both_ways _ z p.1 ]) a;
}

pub fenced_marks : FencedMarks
fenced_marks = record {
  nothing = λ t t' h c d m s a. fenced_same t t' h c d m s.keeps s.ops a;
  early = λ t t' e h c d m s a. fenced_same t t' h c d m s.keeps s.ops a;
  fence = λ t t' r new c d run k s f none a. fence_set t t' r new k s r.hart c d run refl f none a;
  other = λ t t' r new h c d m k s why a. fence_same t t' r new k s h c d m why a;
  performed = λ t t' o n rest c d m s e f a.
      part_more t t' o n rest s n.name.hart (FencedOff t n.name.hart c d) (FencedOff t' n.name.hart c d)
      (λ v p. (p.0, (part_fence t t' o n rest s n.name.hart c d v.name.tag).0 p.1))
      (λ v p. (p.0, (part_fence t t' o n rest s n.name.hart c d v.name.tag).1 p.1)) m refl
      (e, (part_fence t t' o n rest s n.name.hart c d n.name.tag).0 f) a;
  passed = λ t t' o n rest h c d m s why a.
      part_same t t' o n rest s h (FencedOff t h c d) (FencedOff t' h c d)
      (λ v p. (p.0, (part_fence t t' o n rest s h c d v.name.tag).0 p.1))
      (λ v p. (p.0, (part_fence t t' o n rest s h c d v.name.tag).1 p.1)) m
      (λ p. elim why [
        | inl z ↦ z p.0
        | inr y ↦ elim y [
          | inl z ↦ both_ways _ z p.1.0
          | inr z ↦ z ((part_fence t t' o n rest s h c d n.name.tag).1 p.1.1)
        ]
      ]) a;
}

pub fences_by_tag : FencesByTag
fences_by_tag t h c d f i l = fence_by_tag t h c d f i l

pub waiting_by_tag : WaitingByTag
waiting_by_tag = record {
  any = λ t h w p most. latest_by_tag (IsOwnWaiting t h) h w (λ v q. (q.1, q.0.1)) p most;
  at = λ t h xs w p most. latest_by_tag (WaitsAt t h xs) h w (λ v q. (q.0.1, q.0.0.1)) p most;
  fenced = λ t b w p most. latest_by_tag (WaitsFenced t b) b.name.hart w (λ v q. (q.0.1, q.0.0.1)) p most;
}
