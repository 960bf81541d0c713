-- What the operations of a new instruction can be second to.
use Rattle.std.proofs.Common.{ℕ, ◌<◌, ◌≤◌, ◌≡◌, inl, inr, true, List, Option, None, sym, ap, ◌∙◌, arith}
use Rattle.std.proofs.lemmas.Bool.{cases_Bool}
use Rattle.std.specs.List.{Contains}
use Rattle.std.proofs.lemmas.List.Elements.{Contains-append_left}
use Rattle.rvwmo_model.specs.declared.instructions.Retired.{Retired}
use Rattle.rvwmo_model.specs.declared.operations.Op.{Op}
use Rattle.rvwmo_model.specs.declared.preserved.Rule.{Rule}
use Rattle.rvwmo_model.specs.declared.traces.Trace.{Trace}
use Rattle.rvwmo_model.specs.Order.{standing, precedes}
use Rattle.rvwmo_model.specs.ProgramOrder.{insn_at}
use Rattle.rvwmo_model.specs.Rules.{Orders, Broken}
use Rattle.rvwmo_model.specs.Report.{IsLatest}
use Rattle.rvwmo_model.specs.InForm.{IsPlaced}
use Rattle.rvwmo_model.specs.Legal.{Legal}
use Rattle.rvwmo_model.proofs.Orders.{before_trans}
use Rattle.growth_laws.specs.Kinds.{WellKinded}
use Rattle.growth_laws.specs.Growth.{AddInsn}
use Rattle.growth_laws.specs.Laws.{IsPreserved}
use Rattle.growth_laws.proofs.Places.{placed_first, unplaced_order}
use Rattle.growth_laws.proofs.Facts.{alike}
use Rattle.growth_laws.proofs.Insns.{with_other}
use Rattle.growth_laws.proofs.Operations.{op_older}
use Rattle.window_laws.specs.Latest.{IsLatestIfAny, first_there}
use Rattle.window_laws.proofs.Latests.{latest_same}
use Rattle.rule_laws.specs.Above.{Over}
use Rattle.rule_laws.specs.Own.{IsOwn}
use Rattle.rule_laws.proofs.LatestOver.{mark_first}

-- v is an operation of the hart of b that was there, and rule k puts it before b
abbrev pub IsToPrecede : Rule → Trace → Trace → Op → Op → Type 0
IsToPrecede k t t' b v = IsOwn t b.name.hart v × Orders k t' v b

-- ---- the order of a legal trace

-- what a rule puts before a precedes it
pub preserved_precedes : (initial : ℕ → ℕ) (t : Trace) (j : Rule) (c a : Op) → WellKinded t → Legal initial t
    → IsPreserved j t c a → precedes c a ≡ true
preserved_precedes initial t j c a k legal p = elim (cases_Bool (precedes c a)) [
  | inl q ↦ q
  | inr q ↦ elim (cases_Bool (precedes a c)) [
    | inl z ↦ absurd (legal.ordered j c a (record {
      first_in = p.first_in;
      second_in = p.second_in;
      one_hart =
          p.one_hart;
      in_order = p.in_order;
      rule = p.rule;
      against = z;
    }))
    | inr z ↦ absurd (let same : c ≡ a = alike t c a k (Contains-append_left t.ops t.early c p.first_in)
        (Contains-append_left t.ops t.early a p.second_in) q z in let m = p.in_order in omega
        (arith, ap (λ (o : Op). o.name.tag) same))
  ]
]

-- and so does it precede what a precedes
pub forced_before : (initial : ℕ → ℕ) (t : Trace) (j : Rule) (c a b : Op) → WellKinded t → Legal initial t
    → IsPreserved j t c a → precedes a b ≡ true → precedes c b ≡ true
forced_before initial t j c a b k legal p q = before_trans (standing c) (standing a) (standing b)
    (preserved_precedes initial t j c a k legal p) q

-- ---- the latest of what waits

-- among operations of one hart that are not performed it is the one of greatest tag
pub latest_by_tag : (P : Op → Type 0) (h : ℕ) (w : Op) → ((v : Op) → P v → (v.place ≡ None) × (v.name.hart ≡ h)) → P w
    → ((u : Op) → P u → u.name.tag ≤ w.name.tag) → IsLatest P w
latest_by_tag P h w waits here most = record {
  here = here;
  latest = λ u p. elim (cases_Bool (precedes w u)) [
    | inr q ↦ q
    | inl q ↦ absurd (
        let a = waits w here in
        let b = waits u p in
        let l : w.name.tag < u.name.tag = unplaced_order w u a.0 b.0 (a.1 ∙ sym b.1) q in
        omega (arith, most u p))
  ];
}

-- ---- an instruction more

module _ (t t' : Trace) (r : Retired) (new : List Op) (k : WellKinded t) (s : AddInsn t t' r new) where
  -- an own operation is older than each of r
  pub own_older : (v b : Op) → Contains t.ops v → Contains new b → v.name.hart ≡ b.name.hart → v.name.tag < b.name.tag
  own_older v b i m e =
      let mine = s.are_of.own b m in
      let l : v.name.tag < r.tag = op_older t t' r new v k s i (e ∙ mine.0) in
      omega (arith, mine.1)

  -- and what is older than one of r was there before
  pub older_old : (v b : Op) → Contains t'.ops v → Contains new b → b.name.hart ≡ v.name.hart → v.name.tag < b.name.tag
      → Contains t.ops v
  older_old v b i m e l = elim (s.ops_back v i) [
    | inr j ↦ j
    | inl n ↦ absurd (let x = s.are_of.own v n in let y = s.are_of.own b m in omega (arith, x.1, y.1, l))
  ]

  -- instructions before one of r are as they were
  pub insn_before : (b : Op) (n : ℕ) → Contains new b → n < b.name.tag
      → insn_at t'.insns b.name.hart n ≡ insn_at t.insns b.name.hart n
  insn_before b n m l = let mine = s.are_of.own b m in s.keeps.insns b.name.hart n ∙ with_other t r b.name.hart n
      (λ e. omega (arith, mine.1, l))

  pub to_broken : (j : Rule) (a b : Op) → Contains new b → IsToPrecede j t t' b a → precedes b a ≡ true
      → Broken j t' a b
  to_broken j a b m p q = record {
    first_in = s.ops_on a p.0.0;
    second_in = s.added b m;
    one_hart = sym p.0.1;
    in_order = own_older a b p.0.0 m p.0.1;
    rule = p.1;
    against = q;
  }

  pub from_broken : (j : Rule) (a b : Op) → Contains new b → Broken j t' a b → IsToPrecede j t t' b a
  from_broken j a b m p = ((older_old a b p.first_in m p.one_hart p.in_order, sym p.one_hart), p.rule)

  -- Candidates: the first operation is a waiting store, the one of greatest tag, or else the performed operation of
  -- greatest place above b's.
  pub broken_mark : (j : Rule) (b : Op) (w g : Option Op) → Contains new b → IsPlaced b → IsLatestIfAny
      (λ v. IsToPrecede j t t' b v × (v.place ≡ None)) w → (w ≡ None → IsLatestIfAny
      (Over (λ v. IsToPrecede j t t' b v × IsPlaced v) (standing b)) g)
      → IsLatestIfAny (λ v. Broken j t' v b) (first_there w g)
  broken_mark j b w g m pb hw hg =
      mark_first (λ v. Broken j t' v b) w g
      (latest_same (λ v. IsToPrecede j t t' b v × (v.place ≡ None)) (λ v. Broken j t' v b × (v.place ≡ None)) w
      (λ v p. (to_broken j v b m p.0 (placed_first b v pb p.1), p.1)) (λ v p. (from_broken j v b m p.0, p.1)) hw)
      (λ e. latest_same (Over (λ v. IsToPrecede j t t' b v × IsPlaced v) (standing b))
      (λ v. Broken j t' v b × IsPlaced v) g (λ v p. (to_broken j v b m p.0.0 p.1, p.0.1))
      (λ v p. ((from_broken j v b m p.0, p.1), p.0.against)) (hg e))
