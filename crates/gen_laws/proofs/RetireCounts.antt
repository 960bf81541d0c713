-- How many instructions retire in a made stream.
use Rattle.std.proofs.Common.{ℕ, zero, suc, ◌≡◌, ◌+◌, ◌*◌, ◌<◌, List, [], ◌∷◌, length, get_or, refl, ap, sym, ◌∙◌}
use Rattle.std.proofs.Common.{arith}
use Rattle.std.specs.List.{All, filter, sum_by}
use Rattle.std.proofs.lemmas.List.Sums.{sum_by-set, sum_by-cons}
use Rattle.std.proofs.lemmas.List.Folds.{sum_by-replicate}
use Rattle.std.proofs.lemmas.List.{length-reverse}
use Rattle.std.proofs.Math.Nat.{suc-mul}
use Rattle.msg_frames.specs.declared.message.Message.{Message}
use Rattle.matching.proofs.Reversed.{filter-reverse}
use Rattle.trace_gen.specs.declared.rounds.Step.{Step}
use Rattle.trace_gen.specs.declared.rounds.Step.TheVariants as step
use Rattle.trace_gen.specs.declared.rounds.Progress.{Progress}
use Rattle.trace_gen.specs.Rounds.{moved_by, sayings_at, first_progress}
use Rattle.trace_gen.specs.Schedule.{Moment, said, all_said, stepped}
use Rattle.trace_gen.specs.Making.{opened, made_messages, moment_of, ends}
use Rattle.trace_gen.proofs.Turns.{IsDone, at_turn, each_turn, done_at}
use Rattle.gen_laws.specs.Laws.{does_retire}
use Rattle.gen_laws.proofs.States.{next_at}

-- how many Retires are among these messages
abbrev retires_in : List Message → ℕ
retires_in ms = length (filter (λ (m : Message). does_retire m.body) ms)

-- how many a hart has said
abbrev retires_of : Progress → ℕ
retires_of p = 7 * p.round + next_at p.step

-- a step adds those that are said at it
adds_retires : (s : Step) (h c : ℕ) (p : Progress) (before : List Message)
    → retires_in (all_said h before (sayings_at s h c p)) + (7 * p.round + next_at s)
    ≡ retires_in before + retires_of (moved_by s c p)
adds_retires step.ReadAhead h c p before = omega arith
adds_retires step.ReadCounter h c p before = omega arith
adds_retires step.RetireRead h c p before = omega arith
adds_retires step.RetireStore h c p before = omega arith
adds_retires step.ForwardStore h c p before = omega arith
adds_retires step.InsertStore h c p before = omega arith
adds_retires step.WriteStore h c p before = omega arith
adds_retires step.AddOne h c p before = omega arith
adds_retires step.RetireAdd h c p before = omega arith
adds_retires step.RetireFence h c p before = omega arith
adds_retires step.ReadAgain h c p before = omega arith
adds_retires step.RetireReadAgain h c p before = omega arith
adds_retires step.RetireJump h c p before = omega arith

none_opened : (harts h : ℕ) → retires_in (opened harts h) ≡ 0
none_opened harts zero = refl
none_opened harts (suc h) = none_opened harts h

-- as many as the harts have said
abbrev HasRetired : Moment → Type 0
HasRetired m = retires_in m.messages ≡ sum_by retires_of m.harts

retired_at_step : (h : ℕ) (m : Moment) → h < length m.harts → HasRetired m → HasRetired (stepped h m)
retired_at_step h m small has =
    let p = get_or m.harts h first_progress in
    omega (
      arith,
      has,
      adds_retires p.step h m.counter p m.messages,
      sum_by-set retires_of m.harts h (moved_by p.step m.counter p) first_progress small,
    )

-- each hart that is done has said seven a round
all_retired : (rounds : ℕ) (ps : List Progress) → All (IsDone rounds) ps
    → sum_by retires_of ps ≡ 7 * (length ps * rounds)
all_retired rounds [] done = omega arith
all_retired rounds (p ∷ ps) done =
    let later = all_retired rounds ps (λ k d lt. done (suc k) d (omega (arith, lt))) in
    let here = done 0 p (omega arith) in
    let own : retires_of p ≡ 7 * rounds =
    ap (λ (s : Step). 7 * p.round + next_at s) here.step ∙ omega (arith, here.round) in
    sum_by-cons retires_of p ps ∙ rw (suc-mul (length ps) rounds) (omega (arith, own, later))

pub retired_number : (seed harts rounds : ℕ)
    → length (filter (λ (m : Message). does_retire m.body) (made_messages seed harts rounds)) ≡ 7 * (harts * rounds)
retired_number seed harts rounds =
    let n = 13 * harts * rounds in
    let m = moment_of seed harts rounds n in
    let has = each_turn seed harts rounds HasRetired
    (none_opened harts harts ∙ sym (sum_by-replicate retires_of harts first_progress ∙ omega arith))
    (λ m random p. p) (λ k h m at' chosen p. retired_at_step h m chosen.hart p) n (omega arith) in
    let at' = at_turn seed harts rounds n (omega arith) in
    let all = all_retired rounds m.harts (done_at seed harts rounds) ∙ ap (λ k. 7 * (k * rounds)) at'.len in
    ap length (sym (filter-reverse (λ (m : Message). does_retire m.body) (said 0 m.messages ends)))
    ∙ length-reverse (filter (λ (m : Message). does_retire m.body) m.messages) ∙ has ∙ all
