-- The pair of one rule, from what its operations answer; and that of the least rule.
use Rattle.std.proofs.Common.{
  ℕ,
  zero,
  suc,
  ◌+◌,
  ◌<◌,
  ◌≤◌,
  ◌≡◌,
  ◌⊎◌,
  inl,
  inr,
  Bool,
  true,
  false,
  List,
  Option,
  Some,
  None,
}
use Rattle.std.proofs.Common.{length, slice_get, slice_index_or, refl, sym, ap, subst, ◌∙◌, arith}
use Rattle.std.specs.Option.{option_map}
use Rattle.std.specs.List.{Contains}
use Rattle.std.proofs.lemmas.Bool.{both_ways, cases_order}
use Rattle.std.proofs.lemmas.Bool.Decides.{nat_tests}
use Rattle.std.proofs.lemmas.Option.{slice_get_read, slice_get_within, get_or_from_slice_get}
use Rattle.tandem_base.specs.declared.names.OpName.{OpName}
use Rattle.rvwmo_model.specs.declared.instructions.Retired.{Retired}
use Rattle.rvwmo_model.specs.declared.operations.Op.{Op}
use Rattle.rvwmo_model.specs.declared.preserved.Rule.{Rule}
use Rattle.rvwmo_model.specs.declared.preserved.Rule.TheVariants.{R1, R2, R3, R4, R5, R6, R7, R8, R9, R10, R11, R12}
use Rattle.rvwmo_model.specs.declared.preserved.Rule.TheVariants.{R13}
use Rattle.rvwmo_model.specs.declared.traces.Trace.{Trace}
use Rattle.rvwmo_model.specs.Order.{named_before}
use Rattle.rvwmo_model.specs.Rules.{Broken}
use Rattle.rvwmo_model.specs.Report.{number, IsLatest, IsSecond}
use Rattle.rvwmo_model.specs.InForm.{IsPlaced}
use Rattle.growth_laws.proofs.FaultSteps.{insn_breaks_its_own}
use Rattle.growth_laws.proofs.Operations.{op_older}
use Rattle.growth_laws.proofs.Pairs.{second_placed}
use Rattle.window_laws.specs.Latest.{IsLatestIfAny}
use Rattle.rule_laws.specs.Named.{NamesFirst}
use Rattle.drain_rules.specs.declared.drain.BrokenPair.{BrokenPair}
use Rattle.ppo_rules.specs.declared.retiring.FreshOp.{FreshOp}
use Rattle.ppo_rules.specs.declared.retiring.Retiring.{Retiring}
use Rattle.ppo_rules.specs.Retirements.{IsRetirement, IsFreshAs, AreFresh, TellsFirst, IsAnswerBy, TellsByRule}
use Rattle.ppo_rules.specs.Retirements.{TellsRetired}

-- ---- numbers of rules

pub number_one : (j k : Rule) → number j ≡ number k → j ≡ k
number_one j k e = grind arith

number_some : (k : Rule) → (1 ≤ number k) × (number k < 14)
number_some R1 = (omega arith, omega arith)
number_some R2 = (omega arith, omega arith)
number_some R3 = (omega arith, omega arith)
number_some R4 = (omega arith, omega arith)
number_some R5 = (omega arith, omega arith)
number_some R6 = (omega arith, omega arith)
number_some R7 = (omega arith, omega arith)
number_some R8 = (omega arith, omega arith)
number_some R9 = (omega arith, omega arith)
number_some R10 = (omega arith, omega arith)
number_some R11 = (omega arith, omega arith)
number_some R12 = (omega arith, omega arith)
number_some R13 = (omega arith, omega arith)

next_rule : (k : Rule) → number k < 13 → (j : Rule) × (number j ≡ number k + 1)
next_rule R1 l = (R2, refl)
next_rule R2 l = (R3, refl)
next_rule R3 l = (R4, refl)
next_rule R4 l = (R5, refl)
next_rule R5 l = (R6, refl)
next_rule R6 l = (R7, refl)
next_rule R7 l = (R8, refl)
next_rule R8 l = (R9, refl)
next_rule R9 l = (R10, refl)
next_rule R10 l = (R11, refl)
next_rule R11 l = (R12, refl)
next_rule R12 l = (R13, refl)
next_rule R13 l = absurd (omega arith)

rule_at : (n : ℕ) → 1 ≤ n → n < 14 → (k : Rule) × (number k ≡ n)
rule_at zero l m = absurd (omega arith)
rule_at (suc zero) l m = (R1, refl)
rule_at (suc (suc n)) l m =
    let k = rule_at (suc n) (omega arith) (omega arith) in
    let e : number k.0 ≡ suc n = k.1 in
    let j = next_rule k.0 (omega (arith, e, m)) in
    let f : number j.0 ≡ number k.0 + 1 = j.1 in
    (j.0, omega (arith, e, f))

-- an answer of the rule of that number
pub by_number : (j k : Rule) (t : Trace) (b : Op) (answer : Option OpName) → number k ≡ number j
    → NamesFirst j t b answer → NamesFirst k t b answer
by_number j k t b answer e h = subst (λ (i : Rule). NamesFirst i t b answer) (sym (number_one k j e)) h

-- there is no other number
pub no_other : (P : ℕ → Type 0)
    → (((((((((((((Unit {0} × (P 1 → ⊥)) × (P 2 → ⊥)) × (P 3 → ⊥)) × (P 4 → ⊥)) × (P 5 → ⊥)) × (P 6 → ⊥))
    × (P 7 → ⊥)) × (P 8 → ⊥)) × (P 9 → ⊥)) × (P 10 → ⊥)) × (P 11 → ⊥)) × (P 12 → ⊥)) × (P 13 → ⊥))
    → (k : Rule) → P (number k) → ⊥
no_other P n R1 h = n.0.0.0.0.0.0.0.0.0.0.0.0.1 h
no_other P n R2 h = n.0.0.0.0.0.0.0.0.0.0.0.1 h
no_other P n R3 h = n.0.0.0.0.0.0.0.0.0.0.1 h
no_other P n R4 h = n.0.0.0.0.0.0.0.0.0.1 h
no_other P n R5 h = n.0.0.0.0.0.0.0.0.1 h
no_other P n R6 h = n.0.0.0.0.0.0.0.1 h
no_other P n R7 h = n.0.0.0.0.0.0.1 h
no_other P n R8 h = n.0.0.0.0.0.1 h
no_other P n R9 h = n.0.0.0.0.1 h
no_other P n R10 h = n.0.0.0.1 h
no_other P n R11 h = n.0.0.1 h
no_other P n R12 h = n.0.1 h
no_other P n R13 h = n.1 h

-- ---- small facts

-- an answer of a rule that names none, and one that names an operation
no_first : (k : Rule) (t : Trace) (a b : Op) → NamesFirst k t b None → Broken k t a b → ⊥
no_first k t a b n p = at n.0 n.1 n.2
  where
    at : (o : Option Op) → IsLatestIfAny (λ v. Broken k t v b) o → None ≡ option_map (λ (v : Op). v.name) o → ⊥
    at None l e = l a p
    at (Some z) l e = cc

some_first : (k : Rule) (t : Trace) (b : Op) (n : OpName) → NamesFirst k t b (Some n)
    → (a : Op) × IsLatest (λ v. Broken k t v b) a × (n ≡ a.name)
some_first k t b n h = at h.0 h.1 h.2
  where
    at : (o : Option Op) → IsLatestIfAny (λ v. Broken k t v b) o → Some n ≡ option_map (λ (v : Op). v.name) o
        → (a : Op) × IsLatest (λ v. Broken k t v b) a × (n ≡ a.name)
    at None l e = cc
    at (Some z) l e = (z, l, cc)

-- of two names of one instruction the one of the lesser part isn't after the other
part_first : (m n : OpName) → m.hart ≡ n.hart → m.tag ≡ n.tag → n.part ≤ m.part → named_before m n ≡ false
unfolding named_before
part_first m n h e l = grind (arith, nat_tests)

-- a member stands somewhere
member_at : (ops : List FreshOp) (f : FreshOp) → (c : Contains ops f) → slice_get ops c.0 ≡ Some f
member_at ops f c = slice_get_read ops (length ops) c.0 f refl c.1 (sym c.2)

at_member : (ops : List FreshOp) (n : ℕ) (f : FreshOp) → slice_get ops n ≡ Some f → Contains ops f
at_member ops n f g = (n, slice_get_within ops n f g, get_or_from_slice_get ops n f f g)

-- ---- the operations so far

-- by the rule of that number none of the first n operations has an answer
abbrev pub NoneYet : ℕ → Retiring → List FreshOp → ℕ → Type 0
NoneYet rule q ops n = (j : ℕ) (f : FreshOp) → j < n → slice_get ops j ≡ Some f → TellsFirst rule q f None

pub none_at_once : (rule : ℕ) (q : Retiring) (ops : List FreshOp) → NoneYet rule q ops 0
none_at_once rule q ops j f l e = absurd (omega (arith, l))

pub none_more : (rule : ℕ) (q : Retiring) (ops : List FreshOp) (n : ℕ) (f : FreshOp) → slice_get ops n ≡ Some f
    → TellsFirst rule q f None → NoneYet rule q ops n → NoneYet rule q ops (n + 1)
none_more rule q ops n f g h none j d l e = at (cases_order j n)
  where
    at : (j ≡ n) ⊎ ((j < n) ⊎ (n < j)) → TellsFirst rule q d None
    at (inl s) =
        let c : Some f ≡ Some d = sym g ∙ ap (λ (m : ℕ). slice_get ops m) (sym s) ∙ e in
        let same : f ≡ d = cc in
        subst (λ (x : FreshOp). TellsFirst rule q x None) same h
    at (inr (inl b)) = none j d b e
    at (inr (inr b)) = absurd (omega (arith, l, b))

-- ---- a trace

module _ (initial : ℕ → ℕ) (t t' : Trace) (r : Retired) (new : List Op) (q : Retiring)
    (s : IsRetirement initial t t' r new q) (ops : List FreshOp) (fresh : AreFresh initial t' new ops) where
  -- the second operation of a broken pair is new
  second_new : (k : Rule) (a b : Op) → Broken k t' a b → Contains new b
  second_new k a b p = elim (s.retires.ops_back b p.second_in) [
    | inl m ↦ m
    | inr i ↦ absurd (
        let of = (insn_breaks_its_own initial t t' r new s.kinded s.legal s.retires).pairs k a b p in
        let l : b.name.tag < r.tag = op_older t t' r new b s.kinded s.retires i of.0 in omega (arith, l, of.1))
  ]

  -- so it is one of those that are told
  told : (k : Rule) (a b : Op) → Broken k t' a b
      → Contains new b × ((f : FreshOp) × Contains ops f × IsFreshAs initial t' b f)
  told k a b p = let m = second_new k a b p in (m, fresh.all b m (second_placed t' k a b p))

  unbroken : (rule : ℕ) (k : Rule) (n : ℕ) → number k ≡ rule → NoneYet rule q ops n → (a b : Op) → (p : Broken k t' a b)
      → (told k a b p).1.1.0 < n → ⊥
  unbroken rule k n e none a b p l =
      let m = told k a b p in
      no_first k t' a b
      (none m.1.1.0 m.1.0 l (member_at ops m.1.0 m.1.1) initial t t' r new b k s m.0 m.1.2 e) p

  none_here : (rule : ℕ) (k : Rule) → number k ≡ rule → NoneYet rule q ops (length ops) → IsAnswerBy k t' None
  none_here rule k e none a b p = unbroken rule k (length ops) e none a b p (told k a b p).1.1.1

  first_here : (rule : ℕ) (k : Rule) (n : ℕ) (f : FreshOp) (first : OpName) → number k ≡ rule
      → slice_get ops n ≡ Some f → NoneYet rule q ops n → TellsFirst rule q f (Some first)
      → IsAnswerBy k t' (Some (record { rule = rule; first = first; second = f.op.name }))
  first_here rule k n f first e g none h = (
    a.0,
    w.0,
    record { offends = (a.0, a.1.here); least = λ d p. least d p.0 p.1 },
    a.1,
    sym e,
    a.2,
    w.2.kept.name,
  )
    where
      w : (b : Op) × Contains new b × IsFreshAs initial t' b f
      w = fresh.each f (at_member ops n f g)

      a : (a : Op) × IsLatest (λ v. Broken k t' v w.0) a × (first ≡ a.name)
      a = some_first k t' w.0 first (h initial t t' r new w.0 k s w.1 w.2 e)

      -- an operation that is told at a later index has no lesser part
      later : (d : Op) (j : ℕ) (z : FreshOp) → slice_get ops j ≡ Some z → z.op.name ≡ d.name
          → (n ≡ j) ⊎ (n < j) → w.0.name.part ≤ d.name.part
      later d j z y m (inl i) =
          let c : Some f ≡ Some z = sym g ∙ ap (λ (x : ℕ). slice_get ops x) i ∙ y in
          let same : f ≡ z = cc in
          let parts : w.0.name.part ≡ d.name.part =
          ap (λ (x : OpName). x.part) (sym w.2.kept.name ∙ ap (λ (x : FreshOp). x.op.name) same ∙ m) in
          omega (arith, parts)
      later d j z y m (inr l) =
          let up = fresh.rising n j f l (slice_get_within ops j z y) in
          let low : (slice_index_or ops n f).op.name.part ≡ w.0.name.part =
          ap (λ (x : FreshOp). x.op.name.part) (get_or_from_slice_get ops n f f g)
          ∙ ap (λ (x : OpName). x.part) w.2.kept.name in
          let high : (slice_index_or ops j f).op.name.part ≡ d.name.part =
          ap (λ (x : FreshOp). x.op.name.part) (get_or_from_slice_get ops j z f y)
          ∙ ap (λ (x : OpName). x.part) m in
          omega (arith, up, low, high)

      least : (d c : Op) → Broken k t' c d → named_before d.name w.0.name ≡ false
      least d c p = at (cases_order (told k c d p).1.1.0 n)
        where
          rest : (n ≡ (told k c d p).1.1.0) ⊎ (n < (told k c d p).1.1.0) → named_before d.name w.0.name ≡ false
          rest i =
              let m = told k c d p in
              let of = s.retires.are_of.own d m.0 in
              let mine = s.retires.are_of.own w.0 w.1 in
              part_first d.name w.0.name (of.0 ∙ sym mine.0) (of.1 ∙ sym mine.1)
              (later d m.1.1.0 m.1.0 (member_at ops m.1.0 m.1.1) m.1.2.kept.name i)

          at : ((told k c d p).1.1.0 ≡ n) ⊎ (((told k c d p).1.1.0 < n) ⊎ (n < (told k c d p).1.1.0))
              → named_before d.name w.0.name ≡ false
          at (inl i) = rest (inl (sym i))
          at (inr (inl l)) = absurd (unbroken rule k n e none c d p l)
          at (inr (inr l)) = rest (inr l)

-- ---- one rule

pub none_by : (rule : ℕ) (q : Retiring) (ops : List FreshOp) → NoneYet rule q ops (length ops)
    → TellsByRule rule q ops None
none_by rule q ops none initial t t' r new k s fresh e = none_here initial t t' r new q s ops fresh rule k e none

pub first_by : (rule : ℕ) (q : Retiring) (ops : List FreshOp) (n : ℕ) (f : FreshOp) (first : OpName)
    → slice_get ops n ≡ Some f → NoneYet rule q ops n → TellsFirst rule q f (Some first)
    → TellsByRule rule q ops (Some (record { rule = rule; first = first; second = f.op.name }))
first_by rule q ops n f first g none h initial t t' r new k s fresh e =
    first_here initial t t' r new q s ops fresh rule k n f first e g none h

-- ---- all rules

-- no rule of a number below n has an answer
abbrev pub NoneBelow : ℕ → Retiring → List FreshOp → Type 0
NoneBelow n q ops = (k : Rule) → number k < n → TellsByRule (number k) q ops None

pub none_at_first : (q : Retiring) (ops : List FreshOp) → NoneBelow 1 q ops
none_at_first q ops k l = absurd (let m = (number_some k).0 in omega (arith, l, m))

pub none_next : (n : ℕ) (q : Retiring) (ops : List FreshOp) → TellsByRule n q ops None → NoneBelow n q ops
    → NoneBelow (n + 1) q ops
none_next n q ops h none k l = at (cases_order (number k) n)
  where
    at : (number k ≡ n) ⊎ ((number k < n) ⊎ (n < number k)) → TellsByRule (number k) q ops None
    at (inl e) = subst (λ (m : ℕ). TellsByRule m q ops None) (sym e) h
    at (inr (inl b)) = none k b
    at (inr (inr b)) = absurd (omega (arith, l, b))

pub none_of_all : (n : ℕ) (q : Retiring) (ops : List FreshOp) → 14 ≤ n → NoneBelow n q ops
    → TellsRetired q ops None
none_of_all n q ops m none initial t t' r new s fresh k a b p =
    none k (let l = (number_some k).1 in omega (arith, l, m)) initial t t' r new k s fresh refl a b p

pub least_of_all : (n : ℕ) (q : Retiring) (ops : List FreshOp) (pair : BrokenPair) → 1 ≤ n → n < 14
    → TellsByRule n q ops (Some pair) → NoneBelow n q ops → TellsRetired q ops (Some pair)
least_of_all n q ops pair l m h none initial t t' r new s fresh =
    let k = rule_at n l m in
    let x = h initial t t' r new k.0 s fresh k.1 in (
      k.0,
      x.0,
      x.1,
      record {
        rule = λ j i c d p.
            none j (let e = k.1 in omega (arith, i, e)) initial t t' r new j s fresh refl c d p;
        second = x.2;
        first = x.3;
      },
      x.4,
      x.5,
      x.6,
    )
