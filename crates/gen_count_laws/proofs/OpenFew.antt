-- Few reports and stores of a hart are open before each step.
use Rattle.std.proofs.Common.{ℕ, ◌≡◌, ◌+◌, ◌≤◌, List, [], ◌∷◌, length, map, not, nat_lt, is_some}
use Rattle.std.proofs.Common.{Bool, true, false, cond, refl, ap, sym, subst, ◌∙◌, arith}
use Rattle.std.specs.List.{filter}
use Rattle.std.proofs.lemmas.Bool.{and_right}
use Rattle.matching.specs.declared.reports.OpenReport.{OpenReport}
use Rattle.matching.specs.declared.stores.Fate.{Fate}
use Rattle.matching.specs.declared.stores.Stored.{Stored}
use Rattle.matching.specs.declared.stores.Tracked.{Tracked}
use Rattle.matching.specs.EndFaults.{first_left, is_left, is_open_store}
use Rattle.matching.specs.Fates.{is_done}
use Rattle.matching.specs.Tables.{tracked}
use Rattle.trace_gen.specs.declared.rounds.Step.{Step}
use Rattle.trace_gen.specs.declared.rounds.Step.TheVariants as step
use Rattle.trace_gen.specs.declared.rounds.Progress.{Progress}
use Rattle.gen_laws.proofs.ReadBytes.{first_none}
use Rattle.gen_laws.proofs.States.{AreRead, AreEarly, AreStored, IsPerformed, ArePerformed, next_at}
use Rattle.gen_laws.proofs.Stores.{fate_here}

pub next_bound : (s : Step) → next_at s ≤ 6
next_bound step.ReadAhead = omega arith
next_bound step.ReadCounter = omega arith
next_bound step.RetireRead = omega arith
next_bound step.RetireStore = omega arith
next_bound step.ForwardStore = omega arith
next_bound step.InsertStore = omega arith
next_bound step.WriteStore = omega arith
next_bound step.AddOne = omega arith
next_bound step.RetireAdd = omega arith
next_bound step.RetireFence = omega arith
next_bound step.ReadAgain = omega arith
next_bound step.RetireReadAgain = omega arith
next_bound step.RetireJump = omega arith

-- ---- the reports

pub reads_few : (s : Step) (h : ℕ) (p : Progress) (live es : List OpenReport) → AreRead s h p live → AreEarly s h p es
    → length live + length es ≤ 3
reads_few step.ReadAhead h p live es r e = omega (arith, ap length r, ap length e)
reads_few step.ReadCounter h p live es r e = omega (arith, ap length r.is, ap length e)
reads_few step.RetireRead h p live es r e = omega (arith, ap length r.is, ap length e)
reads_few step.RetireStore h p live es r e = omega (arith, ap length r.is, ap length e)
reads_few step.ForwardStore h p live es r e = omega (arith, ap length r.is, ap length e)
reads_few step.InsertStore h p live es r e = omega (arith, ap length r.is, ap length e)
reads_few step.WriteStore h p live es r e = omega (arith, ap length r.is, ap length e)
reads_few step.AddOne h p live es r e = omega (arith, ap length r.is, ap length e)
reads_few step.RetireAdd h p live es r e = omega (arith, ap length r.is, ap length e.is)
reads_few step.RetireFence h p live es r e = omega (arith, ap length r.is, ap length e)
reads_few step.ReadAgain h p live es r e = omega (arith, ap length r.is, ap length e)
reads_few step.RetireReadAgain h p live es r e = omega (arith, ap length r.is, ap length e)
reads_few step.RetireJump h p live es r e = omega (arith, ap length r, ap length e)

-- ---- the stores

module _ (fates : Stored → ℕ → Fate) where
  abbrev track : Stored → Tracked
  track s = tracked (fates s) s

  abbrev open_in : List Stored → ℕ
  open_in ss = length (filter (λ (s : Stored). is_open_store fates s) ss)

  closed : (tag : ℕ) (s : Stored) → IsPerformed tag (track s) → is_open_store fates s ≡ false
  unfolding first_left
  closed tag s is =
      ap is_some (first_none (is_left (fates s) s) 8
      (λ k lt. and_right (nat_lt k (length s.piece.bytes)) _
      (ap not (sym (ap is_done (fate_here (fates s) s k lt)) ∙ is.done k lt))))

  none_open : (tag : ℕ) (ss : List Stored) → ArePerformed tag (map track ss) → open_in ss ≡ 0
  none_open tag [] are = refl
  none_open tag (s ∷ ss) are =
      ap (λ (b : Bool). length (cond b (s ∷ filter (λ (x : Stored). is_open_store fates x) ss)
      (filter (λ (x : Stored). is_open_store fates x) ss))) (closed tag s are.0)
      ∙ none_open tag ss are.1

  none_few : (tag : ℕ) (ss : List Stored) → ArePerformed tag (map track ss) → open_in ss ≤ 1
  none_few tag ss are = omega (arith, none_open tag ss are)

  newest_few : (tag : ℕ) (newest : Tracked) (older : List Tracked) (ss : List Stored)
      → map track ss ≡ newest ∷ older → ArePerformed tag older → open_in ss ≤ 1
  newest_few tag newest older [] is are = omega arith
  newest_few tag newest older (s ∷ ss) is are =
      let rest : map track ss ≡ older = cc in
      at (is_open_store fates s) (none_open tag ss (subst (ArePerformed tag) (sym rest) are))
    where
      at : (b : Bool) → open_in ss ≡ 0
          → length (cond b (s ∷ filter (λ (x : Stored). is_open_store fates x) ss)
          (filter (λ (x : Stored). is_open_store fates x) ss)) ≤ 1
      at true e = omega (arith, e)
      at false e = omega (arith, e)

  pub stores_few : (s : Step) (h : ℕ) (p : Progress) (ss : List Stored) → AreStored s h p (map track ss)
      → open_in ss ≤ 1
  stores_few step.ReadAhead h p ss a = none_few _ ss a
  stores_few step.ReadCounter h p ss a = none_few _ ss a
  stores_few step.RetireRead h p ss a = none_few _ ss a
  stores_few step.RetireStore h p ss a = none_few _ ss a
  stores_few step.ForwardStore h p ss a = newest_few _ a.newest a.older ss a.is a.done
  stores_few step.InsertStore h p ss a = newest_few _ a.newest a.older ss a.is a.done
  stores_few step.WriteStore h p ss a = newest_few _ a.newest a.older ss a.is a.done
  stores_few step.AddOne h p ss a = none_few _ ss a
  stores_few step.RetireAdd h p ss a = none_few _ ss a
  stores_few step.RetireFence h p ss a = none_few _ ss a
  stores_few step.ReadAgain h p ss a = none_few _ ss a
  stores_few step.RetireReadAgain h p ss a = none_few _ ss a
  stores_few step.RetireJump h p ss a = none_few _ ss a
