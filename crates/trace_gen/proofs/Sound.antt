-- Each message of a made stream is spelled by its frame.
use Rattle.std.proofs.Common.{ℕ, zero, suc, ◌+◌, ◌*◌, ◌^◌, ◌<◌, ◌≤◌, List, [], ◌∷◌, length, get_or}
use Rattle.std.proofs.Common.{ap, arith, lit<, lit≤}
use Rattle.std.specs.List.{sum_by, All}
use mathlib.Core.List.{reverse_aux}
use Rattle.std.proofs.lemmas.List.Elements.{All-cons, All-set, All-replicate}
use Rattle.std.proofs.Math.Nat.{mul_assoc, mul_comm, suc-mul}
use Rattle.msg_frames.specs.declared.message.Message.{Message}
use Rattle.msg_frames.specs.Frames.{Spells, frame}
use Rattle.trace_gen.specs.declared.rounds.Step.{Step}
use Rattle.trace_gen.specs.declared.rounds.Step.TheVariants as step
use Rattle.trace_gen.specs.declared.rounds.Progress.{Progress}
use Rattle.trace_gen.specs.declared.saying.Saying.{Saying}
use Rattle.trace_gen.specs.Program.{counter_addr, own_addr}
use Rattle.trace_gen.specs.Rounds.{moved_by, counted_by, sayings_at, first_progress}
use Rattle.trace_gen.specs.Schedule.{Moment, said, all_said, stepped}
use Rattle.trace_gen.specs.Making.{CanMake, before_turns, opened, opens, made_messages, moment_of, registers_of, ends}
use Rattle.trace_gen.proofs.Turns.{IsAt, IsChosen, all_within, at_turn, each_turn, step_at, steps_of}
use Rattle.trace_gen.proofs.Numbers.{length_said, length_opened}
use Rattle.trace_gen.proofs.Fitting.{AreSaid, are_said, end_said, open_said, poke_said, said_spells}

-- the frame of a message spells it
abbrev pub IsSpelled : Message → Type 0
IsSpelled m = Spells (frame m) m

-- what a hart read isn't above the counter
pub record IsBelow (counter : ℕ) (p : Progress) : Type 0 where
  pub taken : p.taken ≤ counter
  pub added : p.added ≤ counter

below_more : (c d : ℕ) (p : Progress) → c ≤ d → IsBelow c p → IsBelow d p
below_more c d p le b = record { taken = omega (arith, le, b.taken); added = omega (arith, le, b.added) }

counts_up : (s : Step) (c : ℕ) → c ≤ counted_by s c
counts_up step.ReadAhead c = omega arith
counts_up step.ReadCounter c = omega arith
counts_up step.RetireRead c = omega arith
counts_up step.RetireStore c = omega arith
counts_up step.ForwardStore c = omega arith
counts_up step.InsertStore c = omega arith
counts_up step.WriteStore c = omega arith
counts_up step.AddOne c = omega arith
counts_up step.RetireAdd c = omega arith
counts_up step.RetireFence c = omega arith
counts_up step.ReadAgain c = omega arith
counts_up step.RetireReadAgain c = omega arith
counts_up step.RetireJump c = omega arith

below_moved : (s : Step) (c : ℕ) (p : Progress) → IsBelow c p → IsBelow (counted_by s c) (moved_by s c p)
below_moved step.ReadAhead c p b = record { taken = b.taken; added = b.added }
below_moved step.ReadCounter c p b = record { taken = omega arith; added = b.added }
below_moved step.RetireRead c p b = record { taken = b.taken; added = b.added }
below_moved step.RetireStore c p b = record { taken = b.taken; added = b.added }
below_moved step.ForwardStore c p b = record { taken = b.taken; added = b.added }
below_moved step.InsertStore c p b = record { taken = b.taken; added = b.added }
below_moved step.WriteStore c p b = record { taken = b.taken; added = b.added }
below_moved step.AddOne c p b = record { taken = omega (arith, b.taken); added = omega arith }
below_moved step.RetireAdd c p b = record { taken = b.taken; added = b.added }
below_moved step.RetireFence c p b = record { taken = b.taken; added = b.added }
below_moved step.ReadAgain c p b = record { taken = b.taken; added = b.added }
below_moved step.RetireReadAgain c p b = record { taken = b.taken; added = b.added }
below_moved step.RetireJump c p b = record { taken = b.taken; added = b.added }

-- at most two things are said at a step
few_said : (s : Step) (h c : ℕ) (p : Progress) → length (sayings_at s h c p) ≤ 2
few_said step.ReadAhead h c p = lit≤ tt
few_said step.ReadCounter h c p = lit≤ tt
few_said step.RetireRead h c p = lit≤ tt
few_said step.RetireStore h c p = lit≤ tt
few_said step.ForwardStore h c p = lit≤ tt
few_said step.InsertStore h c p = lit≤ tt
few_said step.WriteStore h c p = lit≤ tt
few_said step.AddOne h c p = lit≤ tt
few_said step.RetireAdd h c p = lit≤ tt
few_said step.RetireFence h c p = lit≤ tt
few_said step.ReadAgain h c p = lit≤ tt
few_said step.RetireReadAgain h c p = lit≤ tt
few_said step.RetireJump h c p = lit≤ tt

-- several things are said
all_spell : (h : ℕ) (before : List Message) (ss : List Saying) → h < 256 → length before + length ss < 2 ^ 64
    → AreSaid h ss → All IsSpelled before → All IsSpelled (all_said h before ss)
all_spell h before [] h8 time are all = all
all_spell h before (s ∷ later) h8 time are all =
    all_spell h (said h before s) later h8 (omega (arith, time)) are.1
    (said_spells h before s h8 (omega (arith, time)) are.0 all)

-- the messages so far are spelled, not too many for their times, and nothing that was read is above the counter
pub record IsSound (harts : ℕ) (m : Moment) : Type 0 where
  pub spelled : All IsSpelled m.messages
  pub time : length m.messages ≤ 1 + 3 * harts + 2 * sum_by steps_of m.harts
  pub below : All (IsBelow m.counter) m.harts

opened_spells : (harts h : ℕ) → 1 ≤ harts → harts ≤ 16 → h ≤ 16 → All IsSpelled (opened harts h)
opened_spells harts zero low high h16 =
    said_spells 0 [] (opens harts) (lit< tt) (lit< tt) (open_said harts low high) (λ k d lt. absurd (omega (arith, lt)))
opened_spells harts (suc h) low high h16 =
    all_spell h (opened harts h) (registers_of h) (omega (arith, h16)) (omega (arith, h16, length_opened harts h)) (
      poke_said h 10 counter_addr (lit≤ tt) (lit≤ tt) (lit< tt),
      (
        poke_said h 11 (own_addr h) (lit≤ tt) (lit≤ tt) (omega (arith, h16)),
        (poke_said h 12 1 (lit≤ tt) (lit≤ tt) (lit< tt), tt),
      ),
    )
    (opened_spells harts h low high (omega (arith, h16)))

sound_first : (seed harts : ℕ) → 1 ≤ harts → harts ≤ 16 → IsSound harts (before_turns seed harts)
sound_first seed harts low high = record {
  spelled = opened_spells harts harts low high high;
  time = omega (arith, length_opened harts harts);
  below = All-replicate (IsBelow 0) harts first_progress (record { taken = omega arith; added = omega arith });
}

-- how many turns there are at most
at_bound : (harts rounds n : ℕ) (m : Moment) → IsAt harts rounds n m → n ≤ 13 * (harts * rounds)
at_bound harts rounds n m at' =
    let all = all_within rounds m.harts at'.within in
    omega (arith, at'.sum, all, ap (λ k. 13 * rounds * k) at'.len, mul_assoc 13 rounds harts, mul_comm rounds harts)

sound_step : (harts rounds n h : ℕ) (m : Moment) → harts ≤ 16 → harts * rounds ≤ 100000 → rounds ≤ 100000
    → IsAt harts rounds n m → IsChosen rounds h m → IsSound harts m → IsSound harts (stepped h m)
sound_step harts rounds n h m high room few at' chosen sound =
    let p = get_or m.harts h first_progress in
    let after = step_at harts rounds n m h at' chosen.hart chosen.left in
    let most = at_bound harts rounds n m at' in
    let below = sound.below h first_progress chosen.hart in
    let up = counts_up p.step m.counter in
    let said = length_said h m.messages (sayings_at p.step h m.counter p) in
    let two = few_said p.step h m.counter p in
    let h8 : h < 256 = omega (arith, chosen.hart, at'.len, high) in
    let c64 : m.counter + 1 < 2 ^ 64 = omega (arith, at'.counter, most, room) in
    record {
      spelled =
          all_spell h m.messages (sayings_at p.step h m.counter p) h8
          (omega (arith, sound.time, at'.sum, most, room, two, high))
          (are_said h m.counter p h8 (omega (arith, chosen.left, few)) c64 (omega (arith, below.taken, c64))
          (omega (arith, below.added, c64)) p.step)
          sound.spelled;
      time = omega (arith, sound.time, said, two, at'.sum, after.sum);
      below =
          All-set (IsBelow (counted_by p.step m.counter)) m.harts h (moved_by p.step m.counter p)
          (below_moved p.step m.counter p below)
          (λ k d lt. below_more m.counter _ _ up (sound.below k d lt));
    }

few_rounds : (harts rounds : ℕ) → 1 ≤ harts → harts * rounds ≤ 100000 → rounds ≤ 100000
few_rounds zero rounds low room = absurd (omega (arith, low))
few_rounds (suc h) rounds low room = omega (arith, room, suc-mul h rounds)

-- the run is sound at each turn
pub sound_at : (seed harts rounds n : ℕ) → 1 ≤ harts → harts ≤ 16 → harts * rounds ≤ 100000 → n ≤ 13 * harts * rounds
    → IsSound harts (moment_of seed harts rounds n)
sound_at seed harts rounds n low high room le =
    each_turn seed harts rounds (IsSound harts) (sound_first seed harts low high)
    (λ m random s. record { spelled = s.spelled; time = s.time; below = s.below })
    (λ k h m at' chosen s. sound_step harts rounds k h m high room (few_rounds harts rounds low room) at' chosen s)
    n le

-- each of a list that is turned round
all_reverse : (P : Message → Type 0) (ms done : List Message) → All P ms → All P done → All P (reverse_aux ms done)
all_reverse P [] done all rest = rest
all_reverse P (m ∷ ms) done all rest =
    let later : All P ms = λ k d lt. all (suc k) d (omega (arith, lt)) in
    all_reverse P ms (m ∷ done) later (All-cons P m done (all 0 m (omega arith)) rest)

pub made_spelled : (seed harts rounds : ℕ) → CanMake harts rounds → All IsSpelled (made_messages seed harts rounds)
made_spelled seed harts rounds can =
    let n = 13 * harts * rounds in
    let m = moment_of seed harts rounds n in
    let sound = sound_at seed harts rounds n can.0 can.1 can.3 (omega arith) in
    let at' = at_turn seed harts rounds n (omega arith) in
    let most = at_bound harts rounds n m at' in
    let time : length m.messages < 2 ^ 64 = omega (arith, sound.time, at'.sum, most, can.3, can.1) in
    let all = said_spells 0 m.messages ends (lit< tt) time end_said sound.spelled in
    all_reverse IsSpelled (said 0 m.messages ends) [] all (λ k d lt. absurd (omega (arith, lt)))
