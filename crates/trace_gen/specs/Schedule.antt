-- Which hart goes on, and what is said until no hart has steps left. The newest message stands first.
use Rattle.std.specs.Prelude.{ℕ, zero, suc, ◌+◌, ◌*◌, ◌/◌, ◌%◌, ◌^◌, nat_lt, if◌then◌else◌, List, [], ◌∷◌, length}
use Rattle.std.specs.Prelude.{slice_index, slice_index_or, slice_set}
use Rattle.msg_frames.specs.declared.message.Message.{Message}
use Rattle.trace_gen.specs.declared.rounds.Progress.{Progress}
use Rattle.trace_gen.specs.declared.saying.Saying.{Saying}
use Rattle.trace_gen.specs.Rounds.{sayings_at, moved_by, counted_by, first_progress}

-- hart h says something, at the time that is the number of messages so far
abbrev pub said : ℕ → List Message → Saying → List Message
said h before s =
    record { head = record { hart = h; time = length before; tag = s.tag }; body = s.body } ∷ before

-- it says several things
abbrev pub all_said : ℕ → List Message → List Saying → List Message
all_said h before [] = before
all_said h before (s ∷ later) = all_said h (said h before s) later

-- where a run stands: the random number, the counter that all harts share, how far each hart is, and the messages
pub record Moment : Type 0 where
  pub random : ℕ
  pub counter : ℕ
  pub harts : List Progress
  pub messages : List Message

-- the random number after this one
abbrev pub next_random : ℕ → ℕ
next_random random = (random * 6364136223846793005 + 1442695040888963407) % 2 ^ 64

-- the harts with steps left, in rising order, where these are hart h and those after it, and each goes so many rounds
abbrev pub harts_left : ℕ → ℕ → List Progress → List ℕ
harts_left rounds h [] = []
harts_left rounds h (p ∷ later) =
    if nat_lt p.round rounds then h ∷ harts_left rounds (h + 1) later else harts_left rounds (h + 1) later

-- the one that a random number chooses
abbrev pub chosen : ℕ → List ℕ → ℕ
chosen random left = slice_index left (random / 2 ^ 33 % length left)

-- the moment after a hart's next step
abbrev pub stepped : ℕ → Moment → Moment
stepped h m =
    let p = slice_index_or m.harts h first_progress in
    record m {
      counter = counted_by p.step m.counter;
      harts = slice_set m.harts h (moved_by p.step m.counter p);
      messages = all_said h m.messages (sayings_at p.step h m.counter p);
    }

-- a turn: the next random number, and the step of the hart that it chooses
abbrev pub turned : ℕ → Moment → Moment
turned rounds m =
    let random = next_random m.random in
    stepped (chosen random (harts_left rounds 0 m.harts)) (record m { random = random })

-- the moment after so many turns
abbrev pub after_turns : ℕ → ℕ → Moment → Moment
after_turns rounds zero m = m
after_turns rounds (suc n) m = turned rounds (after_turns rounds n m)
