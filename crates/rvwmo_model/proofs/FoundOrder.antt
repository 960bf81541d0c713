-- The search for a broken pair.
use Rattle.std.proofs.Common.{ℕ, ◌<◌, ◌≡◌, ◌⊎◌, inl, inr, List, [], ◌∷◌, Option, Some, None, refl, sym, ap, subst}
use Rattle.std.proofs.Common.{◌∙◌, arith}
use Rattle.std.specs.List.{Contains}
use Rattle.rvwmo_model.specs.declared.answers.Judged.{Judged}
use Rattle.rvwmo_model.specs.declared.answers.Judged.TheVariants as judged
use Rattle.rvwmo_model.specs.declared.operations.Op.{Op}
use Rattle.rvwmo_model.specs.declared.traces.Trace.{Trace}
use Rattle.rvwmo_model.specs.Rules.{Broken, Rule, R1, R2, R3, R4, R5, R6, R7, R8, R9, R10, R11, R12, R13}
use Rattle.rvwmo_model.specs.InForm.{InForm}
use Rattle.rvwmo_model.specs.Report.{number, IsLeast, IsLatest, IsSecond, IsReportedPair, AllOrdered}
use Rattle.rvwmo_model.specs.Tests.{is_broken}
use Rattle.rvwmo_model.specs.Answer.{has_first, broken_first, broken_second, order_pair}
use Rattle.rvwmo_model.specs.Answer.{order_of, order_from, all_rules}
use Rattle.rvwmo_model.specs.Answer.{order_answer}
use Rattle.rvwmo_model.proofs.Tested.{broken_is}
use Rattle.rvwmo_model.proofs.Membership.{nothing_in, in_cases}
use Rattle.rvwmo_model.proofs.Choices.{Computes, some_member, least_member, no_member, latest_member, no_latest}
use Rattle.tandem_base.specs.FirstFault.{◌or_else◌}

-- the numbers of a list of rules rise
abbrev Above : ℕ → List Rule → Type 0
Above n [] = Unit {0}
Above n (k ∷ ks) = (n < number k) × Above (number k) ks

above_in : (n : ℕ) (ks : List Rule) (k : Rule) → Above n ks → Contains ks k → n < number k
above_in n [] k a h = absurd (nothing_in k h)
above_in n (v ∷ vs) k a h = at (in_cases v vs k h) (λ i. above_in (number v) vs k a.1 i)
  where
    at : (k ≡ v) ⊎ Contains vs k → (Contains vs k → number v < number k) → n < number k
    at (inl e) rec = let s = ap number e in let l = a.0 in omega arith
    at (inr i) rec = let l = rec i in let m = a.0 in omega arith

every_rule : (k : Rule) → Contains all_rules k
every_rule R1 = (0, omega arith, refl)
every_rule R2 = (1, omega arith, refl)
every_rule R3 = (2, omega arith, refl)
every_rule R4 = (3, omega arith, refl)
every_rule R5 = (4, omega arith, refl)
every_rule R6 = (5, omega arith, refl)
every_rule R7 = (6, omega arith, refl)
every_rule R8 = (7, omega arith, refl)
every_rule R9 = (8, omega arith, refl)
every_rule R10 = (9, omega arith, refl)
every_rule R11 = (10, omega arith, refl)
every_rule R12 = (11, omega arith, refl)
every_rule R13 = (12, omega arith, refl)

all_above : Above 0 all_rules
all_above = (
  omega arith,
  (
    omega arith,
    (
      omega arith,
      (
        omega arith,
        (
          omega arith,
          (
            omega arith,
            (omega arith, (omega arith, (omega arith, (omega arith, (omega arith, (omega arith, (omega arith, tt))))))),
          ),
        ),
      ),
    ),
  ),
)

module _ (t : Trace) (form : InForm t) where
  first_computes : (k : Rule) (b : Op) → Contains t.ops b → Computes (λ a. is_broken k t a b) (λ a. Broken k t a b)
      t.ops
  first_computes k b hb = record { on = λ a ha. broken_is k t a b form ha hb; only = λ a h. h.first_in }

  second_computes : (k : Rule) → Computes (has_first k t) (IsSecond k t) t.ops
  unfolding has_first
  second_computes k =
      record {
        on = λ b hb. some_member _ (λ a. Broken k t a b) t.ops (first_computes k b hb);
        only = λ b h. h.1.second_in;
      }

  -- the pair that is found for one rule
  record Chosen (k : Rule) (j : Judged) : Type 0 where
    first : Op
    second : Op
    named : judged.Order (number k) first.name second.name ≡ j
    least : IsLeast (IsSecond k t) second
    latest : IsLatest (λ a. Broken k t a second) first

  rule_found : (k : Rule) (j : Judged) → order_of k t (broken_second k t) ≡ Some j → Chosen k j
  rule_found k j e = at (broken_second k t) refl e
    where
      found : (b : Op) → IsLeast (IsSecond k t) b → (m : Option Op) → broken_first k t b ≡ m → order_pair k b m ≡ Some j
          → Chosen k j
      found b l None f g = absurd (cc)
      found b l (Some a) f g =
          record {
            first = a;
            second = b;
            named = cc;
            least = l;
            latest = latest_member _ (λ c. Broken k t c b) t.ops
                a (first_computes k b l.offends.1.second_in) f;
          }

      at : (o : Option Op) → broken_second k t ≡ o → order_of k t o ≡ Some j → Chosen k j
      at None f g = absurd (cc)
      at (Some b) f g = found b (least_member _ (IsSecond k t) t.ops b (second_computes k) f)
          (broken_first k t b) refl g

  rule_none : (k : Rule) → order_of k t (broken_second k t) ≡ None → (a b : Op) → Broken k t a b → ⊥
  rule_none k e = at (broken_second k t) refl e
    where
      found : (b : Op) → IsLeast (IsSecond k t) b → (m : Option Op) → broken_first k t b ≡ m
          → order_pair k b m ≡ None → ⊥
      found b l None f g = no_latest _ (λ c. Broken k t c b) t.ops (first_computes k b l.offends.1.second_in) f
          l.offends.0 l.offends.1
      found b l (Some a) f g = cc

      at : (o : Option Op) → broken_second k t ≡ o → order_of k t o ≡ None → (a b : Op) → Broken k t a b → ⊥
      at None f g = λ a b h. no_member _ (IsSecond k t) t.ops (second_computes k) f b (a, h)
      at (Some b) f g =
          absurd (found b (least_member _ (IsSecond k t) t.ops b (second_computes k) f) (broken_first k t b) refl g)

  record ChosenFrom (ks : List Rule) (j : Judged) : Type 0 where
    rule : Rule
    chosen : Chosen rule j
    lower : (k : Rule) → Contains ks k → number k < number rule → (a b : Op) → Broken k t a b → ⊥

  rules_found : (n : ℕ) (ks : List Rule) (j : Judged) → Above n ks → order_from t ks ≡ Some j → ChosenFrom ks j
  rules_found n [] j a e = absurd (cc)
  rules_found n (k ∷ ks) j a e = at (order_of k t (broken_second k t)) refl e (rules_found (number k) ks j a.1)
    where
      at : (o : Option Judged) → order_of k t (broken_second k t) ≡ o → (o or_else order_from t ks) ≡ Some j
          → (order_from t ks ≡ Some j → ChosenFrom ks j) → ChosenFrom (k ∷ ks) j
      at (Some i) f g rec = record {
        rule = k;
        chosen = rule_found k j (f ∙ g);
        lower = λ v h l.
            elim (in_cases k ks v h) [
              | inl q ↦ absurd (let s = ap number q in omega arith)
              | inr i ↦ absurd (let m = above_in (number k) ks v a.1 i in omega arith)
            ];
      }
      at None f g rec =
          let rest = rec g in
          record {
            rule = rest.rule;
            chosen = rest.chosen;
            lower = λ v h l.
                elim (in_cases k ks v h) [
                  | inl q ↦ subst (λ (z : Rule). (c d : Op) → Broken z t c d → ⊥) (sym q)
                      (rule_none k f)
                  | inr i ↦ rest.lower v i l
                ];
          }

  rules_none : (ks : List Rule) → order_from t ks ≡ None → (k : Rule) → Contains ks k → (a b : Op) → Broken k t a b → ⊥
  rules_none [] e k h = absurd (nothing_in k h)
  rules_none (v ∷ vs) e k h = at (order_of v t (broken_second v t)) refl e (λ g. rules_none vs g k)
    where
      at : (o : Option Judged) → order_of v t (broken_second v t) ≡ o → (o or_else order_from t vs) ≡ None
          → (order_from t vs ≡ None → Contains vs k → (a b : Op) → Broken k t a b → ⊥) → (a b : Op) → Broken k t a b → ⊥
      at (Some i) f g rec = absurd (cc)
      at None f g rec =
          elim (in_cases v vs k h) [
            | inl q ↦ subst (λ (z : Rule). (c d : Op) → Broken z t c d → ⊥) (sym q)
                (rule_none v f)
            | inr i ↦ rec g i
          ]

  pub record Reported (j : Judged) : Type 0 where
    pub rule : Rule
    pub first : Op
    pub second : Op
    pub named : judged.Order (number rule) first.name second.name ≡ j
    pub reported : IsReportedPair t rule first second

  pub order_found : (j : Judged) → order_answer t ≡ Some j → Reported j
  order_found j e =
      let c = rules_found 0 all_rules j all_above e in
      record {
        rule = c.rule;
        first = c.chosen.first;
        second = c.chosen.second;
        named = c.chosen.named;
        reported =
            record {
              rule = λ k l a b. c.lower k (every_rule k) l a b;
              second = c.chosen.least;
              first = c.chosen.latest;
            };
      }

  pub order_none : order_answer t ≡ None → AllOrdered t
  order_none e k = rules_none all_rules e k (every_rule k)
