-- How far the harts are together: each turn is one step more.
use Rattle.std.proofs.Common.{◌≡◌, ℕ, zero, suc, ◌+◌, ◌*◌, ◌/◌, ◌%◌, ◌^◌, ◌<◌, ◌≤◌, false, nat_lt, ◌⊎◌, inl, inr}
use Rattle.std.proofs.Common.{List, [], ◌∷◌, length, get_or, slice_index, refl, sym, ◌∙◌, ap, subst, arith}
use Rattle.std.specs.List.{sum_by, All}
use Rattle.std.proofs.lemmas.Bool.{cases_Bool, ltb-true, ltb-false, le-ltb}
use Rattle.std.proofs.lemmas.List.Sums.{sum_by-set, sum_by-cons}
use Rattle.std.proofs.lemmas.List.Folds.{sum_by-replicate}
use Rattle.std.proofs.lemmas.List.Elements.{All-set, All-replicate}
use Rattle.std.proofs.lemmas.List.{length-set, length-replicate}
use Rattle.std.proofs.Math.Nat.{mul-suc, mul_right_comm, mod-lt}
use Rattle.trace_gen.specs.declared.rounds.Step.{Step}
use Rattle.trace_gen.specs.declared.rounds.Step.TheVariants as step
use Rattle.trace_gen.specs.declared.rounds.Progress.{Progress}
use Rattle.trace_gen.specs.Rounds.{moved_by, counted_by, first_progress}
use Rattle.trace_gen.specs.Schedule.{Moment, after_turns, turned, stepped, chosen, harts_left, next_random}
use Rattle.trace_gen.specs.Making.{before_turns}

-- how many steps of the round are behind a step
abbrev pub place_of : Step → ℕ
place_of step.ReadAhead = 0
place_of step.ReadCounter = 1
place_of step.RetireRead = 2
place_of step.RetireStore = 3
place_of step.ForwardStore = 4
place_of step.InsertStore = 5
place_of step.WriteStore = 6
place_of step.AddOne = 7
place_of step.RetireAdd = 8
place_of step.RetireFence = 9
place_of step.ReadAgain = 10
place_of step.RetireReadAgain = 11
place_of step.RetireJump = 12

pub place_bound : (s : Step) → place_of s ≤ 12
place_bound step.ReadAhead = omega arith
place_bound step.ReadCounter = omega arith
place_bound step.RetireRead = omega arith
place_bound step.RetireStore = omega arith
place_bound step.ForwardStore = omega arith
place_bound step.InsertStore = omega arith
place_bound step.WriteStore = omega arith
place_bound step.AddOne = omega arith
place_bound step.RetireAdd = omega arith
place_bound step.RetireFence = omega arith
place_bound step.ReadAgain = omega arith
place_bound step.RetireReadAgain = omega arith
place_bound step.RetireJump = omega arith

-- how many steps are behind a hart
abbrev pub steps_of : Progress → ℕ
steps_of p = 13 * p.round + place_of p.step

pub one_more : (s : Step) (c : ℕ) (p : Progress) → steps_of (moved_by s c p) ≡ 13 * p.round + place_of s + 1
one_more step.ReadAhead c p = omega arith
one_more step.ReadCounter c p = omega arith
one_more step.RetireRead c p = omega arith
one_more step.RetireStore c p = omega arith
one_more step.ForwardStore c p = omega arith
one_more step.InsertStore c p = omega arith
one_more step.WriteStore c p = omega arith
one_more step.AddOne c p = omega arith
one_more step.RetireAdd c p = omega arith
one_more step.RetireFence c p = omega arith
one_more step.ReadAgain c p = omega arith
one_more step.RetireReadAgain c p = omega arith
one_more step.RetireJump c p = omega arith

pub counted_bound : (s : Step) (c : ℕ) → counted_by s c ≤ c + 1
counted_bound step.ReadAhead c = omega arith
counted_bound step.ReadCounter c = omega arith
counted_bound step.RetireRead c = omega arith
counted_bound step.RetireStore c = omega arith
counted_bound step.ForwardStore c = omega arith
counted_bound step.InsertStore c = omega arith
counted_bound step.WriteStore c = omega arith
counted_bound step.AddOne c = omega arith
counted_bound step.RetireAdd c = omega arith
counted_bound step.RetireFence c = omega arith
counted_bound step.ReadAgain c = omega arith
counted_bound step.RetireReadAgain c = omega arith
counted_bound step.RetireJump c = omega arith

-- no hart goes past the end
abbrev pub IsWithin : ℕ → Progress → Type 0
IsWithin rounds p = steps_of p ≤ 13 * rounds

-- the hart at a place among those with steps left
pub record IsLeft (rounds h hart : ℕ) (ps : List Progress) : Type 0 where
  pub index : ℕ
  pub is : hart ≡ h + index
  pub bound : index < length ps
  pub left : (get_or ps index first_progress).round < rounds

left_later : (rounds h hart : ℕ) (p : Progress) (ps : List Progress) → IsLeft rounds (h + 1) hart ps
    → IsLeft rounds h hart (p ∷ ps)
left_later rounds h hart p ps found = record {
  index = suc found.index;
  is = omega (arith, found.is);
  bound = omega (arith, found.bound);
  left = found.left;
}

pub left_is : (rounds h : ℕ) (ps : List Progress) (k : ℕ) → k < length (harts_left rounds h ps)
    → IsLeft rounds h (slice_index (harts_left rounds h ps) k) ps
left_is rounds h [] k small = absurd (omega (arith, small))
left_is rounds h (p ∷ ps) k small = elim (cases_Bool (nat_lt p.round rounds)) [
  | inl under ↦
      let later = λ (k' : ℕ) (s : k' < length (harts_left rounds (h + 1) ps)).
      left_later rounds h _ p ps (left_is rounds (h + 1) ps k' s) in
      rw under (first k later (rw under at small) (ltb-true _ _ under))
  | inr past ↦ rw past (left_later rounds h _ p ps (left_is rounds (h + 1) ps k (rw past at small)))
]
  where
    first : (k : ℕ) → ((k' : ℕ) → k' < length (harts_left rounds (h + 1) ps)
        → IsLeft rounds h (slice_index (harts_left rounds (h + 1) ps) k') (p ∷ ps))
        → k < length (h ∷ harts_left rounds (h + 1) ps) → p.round < rounds
        → IsLeft rounds h (slice_index (h ∷ harts_left rounds (h + 1) ps) k) (p ∷ ps)
    first zero later s lt = record { index = 0; is = omega arith; bound = omega arith; left = lt }
    first (suc k) later s lt = later k (omega (arith, s))

-- a hart that has gone its rounds has gone all its steps
pub whole : (rounds : ℕ) (p : Progress) (ps : List Progress) → sum_by steps_of ps ≡ 13 * rounds * length ps
    → IsWithin rounds p → rounds ≤ p.round → sum_by steps_of (p ∷ ps) ≡ 13 * rounds * length (p ∷ ps)
whole rounds p ps all within over =
    sum_by-cons steps_of p ps ∙ rw (all, mul-suc (13 * rounds) (length ps)) (omega (arith, within, over))

pub some_left : (rounds h : ℕ) (ps : List Progress) → All (IsWithin rounds) ps
    → (0 < length (harts_left rounds h ps)) ⊎ (sum_by steps_of ps ≡ 13 * rounds * length ps)
some_left rounds h [] within = inr (omega arith)
some_left rounds h (p ∷ ps) within = elim (cases_Bool (nat_lt p.round rounds)) [
  | inl under ↦ inl (rw under (omega arith))
  | inr past ↦
      let others = some_left rounds (h + 1) ps (λ k d lt. within (suc k) d (omega (arith, lt))) in
      rw past (rest others (ltb-false _ _ past))
]
  where
    rest : (0 < length (harts_left rounds (h + 1) ps)) ⊎ (sum_by steps_of ps ≡ 13 * rounds * length ps)
        → rounds ≤ p.round
        → (0 < length (harts_left rounds (h + 1) ps)) ⊎ (sum_by steps_of (p ∷ ps) ≡ 13 * rounds * length (p ∷ ps))
    rest (inl some) over = inl some
    rest (inr all) over = inr (whole rounds p ps all (within 0 p (omega arith)) over)

-- all the steps there are
pub all_within : (rounds : ℕ) (ps : List Progress) → All (IsWithin rounds) ps
    → sum_by steps_of ps ≤ 13 * rounds * length ps
all_within rounds [] within = omega arith
all_within rounds (p ∷ ps) within =
    rw (sum_by-cons steps_of p ps, mul-suc (13 * rounds) (length ps))
    (omega (arith, within 0 p (omega arith), all_within rounds ps (λ k d lt. within (suc k) d (omega (arith, lt)))))

-- where all steps are behind, none are left
pub none_left : (rounds h : ℕ) (ps : List Progress) → All (IsWithin rounds) ps
    → sum_by steps_of ps ≡ 13 * rounds * length ps → harts_left rounds h ps ≡ []
none_left rounds h [] within all = refl
none_left rounds h (p ∷ ps) within all =
    let later : All (IsWithin rounds) ps = λ k d lt. within (suc k) d (omega (arith, lt)) in
    let here = within 0 p (omega arith) in
    let rest = all_within rounds ps later in
    let sum : steps_of p + sum_by steps_of ps ≡ 13 * rounds * length ps + 13 * rounds =
    sym (sum_by-cons steps_of p ps) ∙ all ∙ mul-suc (13 * rounds) (length ps) in
    let past : nat_lt p.round rounds ≡ false = le-ltb _ _ (omega (arith, place_bound p.step, here, rest, sum)) in
    rw past (none_left rounds (h + 1) ps later (omega (arith, here, rest, sum)))

-- how far a run is after so many turns
pub record IsAt (harts rounds n : ℕ) (m : Moment) : Type 0 where
  pub len : length m.harts ≡ harts
  pub sum : sum_by steps_of m.harts ≡ n
  pub within : All (IsWithin rounds) m.harts
  pub counter : m.counter ≤ n

pub at_first : (seed harts rounds : ℕ) → IsAt harts rounds 0 (before_turns seed harts)
at_first seed harts rounds = record {
  len = length-replicate harts first_progress;
  sum = sum_by-replicate steps_of harts first_progress ∙ omega arith;
  within = All-replicate (IsWithin rounds) harts first_progress (omega arith);
  counter = omega arith;
}

-- before a turn that isn't one too many some hart is left
pub left_at : (harts rounds n : ℕ) (m : Moment) → IsAt harts rounds n m → n < 13 * harts * rounds
    → 0 < length (harts_left rounds 0 m.harts)
left_at harts rounds n m at' more = elim (some_left rounds 0 m.harts at'.within) [
  | inl some ↦ some
  | inr all ↦
      let gone = sym at'.sum ∙ all ∙ ap (λ k. 13 * rounds * k) at'.len ∙ mul_right_comm 13 rounds harts in
      absurd (omega (arith, more, gone))
]

-- the step of a hart that has steps left is one more
pub step_at : (harts rounds n : ℕ) (m : Moment) (h : ℕ) → IsAt harts rounds n m
    → h < length m.harts → (get_or m.harts h first_progress).round < rounds → IsAt harts rounds (suc n) (stepped h m)
step_at harts rounds n m h at' small under =
    let p = get_or m.harts h first_progress in
    let moved = moved_by p.step m.counter p in
    let more = one_more p.step m.counter p in
    let set = sum_by-set steps_of m.harts h moved first_progress small in
    record {
      len = length-set m.harts h moved ∙ at'.len;
      sum = omega (arith, set, more, at'.sum);
      within = All-set (IsWithin rounds) m.harts h moved (omega (arith, more, under, place_bound p.step)) at'.within;
      counter = omega (arith, counted_bound p.step m.counter, at'.counter);
    }

-- the hart that a turn chooses has steps left
pub record IsChosen (rounds h : ℕ) (m : Moment) : Type 0 where
  pub hart : h < length m.harts
  pub left : (get_or m.harts h first_progress).round < rounds

pub chosen_is : (harts rounds n : ℕ) (m : Moment) → IsAt harts rounds n m → n < 13 * harts * rounds
    → IsChosen rounds (chosen (next_random m.random) (harts_left rounds 0 m.harts)) m
chosen_is harts rounds n m at' more =
    let random = next_random m.random in
    let left = harts_left rounds 0 m.harts in
    let some = left_at harts rounds n m at' more in
    let found = left_is rounds 0 m.harts (random / 2 ^ 33 % length left) (mod-lt (random / 2 ^ 33) some) in
    let is : chosen random left ≡ found.index = omega (arith, found.is) in
    let Small : ℕ → Type 0 = λ h. h < length m.harts in
    let Under : ℕ → Type 0 = λ h. (get_or m.harts h first_progress).round < rounds in
    record { hart = subst Small (sym is) found.bound; left = subst Under (sym is) found.left }

-- and so is a turn
pub turn_at : (harts rounds n : ℕ) (m : Moment) → IsAt harts rounds n m → n < 13 * harts * rounds
    → IsAt harts rounds (suc n) (turned rounds m)
turn_at harts rounds n m at' more =
    let random = next_random m.random in
    let found = chosen_is harts rounds n m at' more in
    let same : IsAt harts rounds n (record m { random = random }) =
    record { len = at'.len; sum = at'.sum; within = at'.within; counter = at'.counter } in
    step_at harts rounds n (record m { random = random }) (chosen random (harts_left rounds 0 m.harts)) same
    found.hart found.left

-- after so many turns a run is where it should be
pub at_turn : (seed harts rounds n : ℕ) → n ≤ 13 * harts * rounds
    → IsAt harts rounds n (after_turns rounds n (before_turns seed harts))
at_turn seed harts rounds zero le = at_first seed harts rounds
at_turn seed harts rounds (suc n) le =
    turn_at harts rounds n (after_turns rounds n (before_turns seed harts))
    (at_turn seed harts rounds n (omega (arith, le))) (omega (arith, le))

-- before each turn some hart has steps left
pub some_at : (seed harts rounds n : ℕ) → n < 13 * harts * rounds
    → 0 < length (harts_left rounds 0 (after_turns rounds n (before_turns seed harts)).harts)
some_at seed harts rounds n lt = left_at harts rounds n _ (at_turn seed harts rounds n (omega (arith, lt))) lt

-- after the last none has
pub none_at : (seed harts rounds : ℕ)
    → harts_left rounds 0 (after_turns rounds (13 * harts * rounds) (before_turns seed harts)).harts ≡ []
none_at seed harts rounds =
    let m = after_turns rounds (13 * harts * rounds) (before_turns seed harts) in
    let at' = at_turn seed harts rounds (13 * harts * rounds) (omega arith) in
    none_left rounds 0 m.harts at'.within
    (at'.sum ∙ sym (mul_right_comm 13 rounds harts) ∙ ap (λ k. 13 * rounds * k) (sym at'.len))

-- what holds before the first turn, and what no random number changes and each step of a hart that has steps left
-- keeps, holds after so many turns, whatever the schedule
module _ (seed harts rounds : ℕ) (P : Moment → Type 0)
    (first : P (before_turns seed harts))
    (any : (m : Moment) (random : ℕ) → P m → P (record m { random = random }))
    (keeps : (n h : ℕ) (m : Moment) → IsAt harts rounds n m → IsChosen rounds h m → P m → P (stepped h m)) where
  keeps_turn : (n : ℕ) (m : Moment) → IsAt harts rounds n m → n < 13 * harts * rounds → P m → P (turned rounds m)
  keeps_turn n m at' more p =
      let random = next_random m.random in
      let found = chosen_is harts rounds n m at' more in
      keeps n (chosen random (harts_left rounds 0 m.harts)) (record m { random = random })
      (record { len = at'.len; sum = at'.sum; within = at'.within; counter = at'.counter })
      (record { hart = found.hart; left = found.left }) (any m random p)

  pub each_turn : (n : ℕ) → n ≤ 13 * harts * rounds → P (after_turns rounds n (before_turns seed harts))
  each_turn zero le = first
  each_turn (suc n) le =
      keeps_turn n (after_turns rounds n (before_turns seed harts)) (at_turn seed harts rounds n (omega (arith, le)))
      (omega (arith, le)) (each_turn n (omega (arith, le)))

-- where all steps are behind, each hart is at the start of its last round's successor
pub record IsDone (rounds : ℕ) (p : Progress) : Type 0 where
  pub round : p.round ≡ rounds
  pub step : p.step ≡ step.ReadAhead

place_first : (s : Step) → place_of s ≡ 0 → s ≡ step.ReadAhead
place_first step.ReadAhead e = refl
place_first step.ReadCounter e = absurd (omega (arith, e))
place_first step.RetireRead e = absurd (omega (arith, e))
place_first step.RetireStore e = absurd (omega (arith, e))
place_first step.ForwardStore e = absurd (omega (arith, e))
place_first step.InsertStore e = absurd (omega (arith, e))
place_first step.WriteStore e = absurd (omega (arith, e))
place_first step.AddOne e = absurd (omega (arith, e))
place_first step.RetireAdd e = absurd (omega (arith, e))
place_first step.RetireFence e = absurd (omega (arith, e))
place_first step.ReadAgain e = absurd (omega (arith, e))
place_first step.RetireReadAgain e = absurd (omega (arith, e))
place_first step.RetireJump e = absurd (omega (arith, e))

done_is : (rounds : ℕ) (p : Progress) → steps_of p ≡ 13 * rounds → IsDone rounds p
done_is rounds p e = record {
  round = omega (arith, e, place_bound p.step);
  step = place_first p.step (omega (arith, e, place_bound p.step));
}

pub all_done : (rounds : ℕ) (ps : List Progress) → All (IsWithin rounds) ps
    → sum_by steps_of ps ≡ 13 * rounds * length ps → All (IsDone rounds) ps
all_done rounds [] within all = λ k d lt. absurd (omega (arith, lt))
all_done rounds (p ∷ ps) within all =
    let later : All (IsWithin rounds) ps = λ k d lt. within (suc k) d (omega (arith, lt)) in
    let here = within 0 p (omega arith) in
    let rest = all_within rounds ps later in
    let sum : steps_of p + sum_by steps_of ps ≡ 13 * rounds * length ps + 13 * rounds =
    sym (sum_by-cons steps_of p ps) ∙ all ∙ mul-suc (13 * rounds) (length ps) in
    each (done_is rounds p (omega (arith, here, rest, sum)))
    (all_done rounds ps later (omega (arith, here, rest, sum)))
  where
    each : IsDone rounds p → All (IsDone rounds) ps → All (IsDone rounds) (p ∷ ps)
    each first others zero d lt = first
    each first others (suc k) d lt = others k d (omega (arith, lt))

-- after the last turn all harts are done
pub done_at : (seed harts rounds : ℕ)
    → All (IsDone rounds) (after_turns rounds (13 * harts * rounds) (before_turns seed harts)).harts
done_at seed harts rounds =
    let m = after_turns rounds (13 * harts * rounds) (before_turns seed harts) in
    let at' = at_turn seed harts rounds (13 * harts * rounds) (omega arith) in
    all_done rounds m.harts at'.within
    (at'.sum ∙ sym (mul_right_comm 13 rounds harts) ∙ ap (λ k. 13 * rounds * k) (sym at'.len))
