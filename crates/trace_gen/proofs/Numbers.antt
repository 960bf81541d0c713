-- How many messages are made.
use Rattle.std.proofs.Common.{◌≡◌, ℕ, zero, suc, ◌+◌, ◌*◌, ◌<◌, List, [], ◌∷◌, length, get_or}
use Rattle.std.proofs.Common.{◌∙◌, ap, arith}
use Rattle.std.specs.List.{sum_by, All}
use Rattle.std.proofs.lemmas.List.Sums.{sum_by-set, sum_by-cons}
use Rattle.std.proofs.lemmas.List.Folds.{sum_by-replicate}
use Rattle.std.proofs.lemmas.List.{length-reverse}
use Rattle.std.proofs.Math.Nat.{suc-mul}
use Rattle.msg_frames.specs.declared.message.Message.{Message}
use Rattle.trace_gen.specs.declared.rounds.Step.{Step}
use Rattle.trace_gen.specs.declared.rounds.Step.TheVariants as step
use Rattle.trace_gen.specs.declared.rounds.Progress.{Progress}
use Rattle.trace_gen.specs.declared.saying.Saying.{Saying}
use Rattle.trace_gen.specs.Rounds.{moved_by, sayings_at, first_progress}
use Rattle.trace_gen.specs.Schedule.{Moment, said, all_said, stepped}
use Rattle.trace_gen.specs.Making.{before_turns, opened, made_messages, moment_of, registers_of, ends}
use Rattle.trace_gen.proofs.Turns.{IsDone, at_turn, each_turn, done_at}

-- how many messages of the round are behind a step
abbrev pub messages_before : Step → ℕ
messages_before step.ReadAhead = 0
messages_before step.ReadCounter = 1
messages_before step.RetireRead = 2
messages_before step.RetireStore = 3
messages_before step.ForwardStore = 4
messages_before step.InsertStore = 6
messages_before step.WriteStore = 7
messages_before step.AddOne = 8
messages_before step.RetireAdd = 10
messages_before step.RetireFence = 11
messages_before step.ReadAgain = 12
messages_before step.RetireReadAgain = 13
messages_before step.RetireJump = 14

-- how many messages are of a hart's turns
abbrev pub messages_of : Progress → ℕ
messages_of p = 15 * p.round + messages_before p.step

-- a step adds what is said at it
pub adds_said : (s : Step) (h c : ℕ) (p : Progress)
    → messages_of (moved_by s c p) ≡ 15 * p.round + messages_before s + length (sayings_at s h c p)
adds_said step.ReadAhead h c p = omega arith
adds_said step.ReadCounter h c p = omega arith
adds_said step.RetireRead h c p = omega arith
adds_said step.RetireStore h c p = omega arith
adds_said step.ForwardStore h c p = omega arith
adds_said step.InsertStore h c p = omega arith
adds_said step.WriteStore h c p = omega arith
adds_said step.AddOne h c p = omega arith
adds_said step.RetireAdd h c p = omega arith
adds_said step.RetireFence h c p = omega arith
adds_said step.ReadAgain h c p = omega arith
adds_said step.RetireReadAgain h c p = omega arith
adds_said step.RetireJump h c p = omega arith

-- what is said is put in front
pub length_said : (h : ℕ) (before : List Message) (ss : List Saying)
    → length (all_said h before ss) ≡ length before + length ss
length_said h before [] = omega arith
length_said h before (s ∷ later) = omega (arith, length_said h (said h before s) later)

-- the Open and the Pokes
pub length_opened : (harts h : ℕ) → length (opened harts h) ≡ 1 + 3 * h
length_opened harts zero = omega arith
length_opened harts (suc h) = omega (arith, length_said h (opened harts h) (registers_of h), length_opened harts h)

-- as many messages as the harts have said
abbrev pub HasSaid : ℕ → Moment → Type 0
HasSaid harts m = length m.messages ≡ 1 + 3 * harts + sum_by messages_of m.harts

pub said_at_first : (seed harts : ℕ) → HasSaid harts (before_turns seed harts)
said_at_first seed harts = length_opened harts harts
    ∙ rw (sum_by-replicate messages_of harts first_progress) (omega arith)

pub said_at_step : (harts h : ℕ) (m : Moment) → h < length m.harts → HasSaid harts m → HasSaid harts (stepped h m)
said_at_step harts h m small has =
    let p = get_or m.harts h first_progress in
    omega (
      arith,
      has,
      length_said h m.messages (sayings_at p.step h m.counter p),
      adds_said p.step h m.counter p,
      sum_by-set messages_of m.harts h (moved_by p.step m.counter p) first_progress small,
    )

-- each hart that is done has said fifteen messages a round
all_said_are : (rounds : ℕ) (ps : List Progress) → All (IsDone rounds) ps
    → sum_by messages_of ps ≡ 15 * (length ps * rounds)
all_said_are rounds [] done = omega arith
all_said_are rounds (p ∷ ps) done =
    let later = all_said_are rounds ps (λ k d lt. done (suc k) d (omega (arith, lt))) in
    let here = done 0 p (omega arith) in
    sum_by-cons messages_of p ps
    ∙ rw (here.step, suc-mul (length ps) rounds) (omega (arith, here.round, later))

pub made_number : (seed harts rounds : ℕ)
    → length (made_messages seed harts rounds) ≡ 2 + 3 * harts + 15 * (harts * rounds)
made_number seed harts rounds =
    let n = 13 * harts * rounds in
    let m = moment_of seed harts rounds n in
    let has = each_turn seed harts rounds (HasSaid harts) (said_at_first seed harts) (λ m random p. p)
    (λ n h m at' chosen p. said_at_step harts h m chosen.hart p) n (omega arith) in
    let at' = at_turn seed harts rounds n (omega arith) in
    let all = all_said_are rounds m.harts (done_at seed harts rounds) ∙ ap (λ k. 15 * (k * rounds)) at'.len in
    length-reverse (said 0 m.messages ends) ∙ omega (arith, has, all)
