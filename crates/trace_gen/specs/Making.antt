-- The messages that are made. The newest stands first, but in the list as it is made.
use Rattle.std.specs.Prelude.{ℕ, zero, suc, ◌*◌, ◌≤◌, List, [], ◌∷◌, reverse, replicate}
use Rattle.msg_frames.specs.declared.message.Target.TheVariants.{X}
use Rattle.msg_frames.specs.declared.message.Body.TheVariants as body
use Rattle.msg_frames.specs.declared.message.Message.{Message}
use Rattle.trace_gen.specs.Program.{counter_addr, own_addr}
use Rattle.trace_gen.specs.declared.saying.Saying.{Saying}
use Rattle.trace_gen.specs.Rounds.{first_progress}
use Rattle.trace_gen.specs.Schedule.{Moment, said, all_said, after_turns}

-- there is a stream of so many harts, each with so many rounds
abbrev pub CanMake : ℕ → ℕ → Type 0
CanMake harts rounds = (1 ≤ harts) × (harts ≤ 16) × (1 ≤ rounds) × (harts * rounds ≤ 100000)

-- the stream is opened: version 1, without flags
abbrev pub opens : ℕ → Saying
opens harts = record {
  tag = 0;
  body = body.Open (record { version = 1; harts = harts; flags = 0; granule = 0; skew = 0 });
}

-- a register is set before the first Retire
abbrev pub pokes : ℕ → ℕ → Saying
pokes number value = record { tag = 0; body = body.Poke (record { target = X number; value = value }) }

-- the stream is over
abbrev pub ends : Saying
ends = record { tag = 0; body = body.End }

-- what is set of hart h: where the counter is, where its own number is, and 1
abbrev pub registers_of : ℕ → List Saying
registers_of h = pokes 10 counter_addr ∷ pokes 11 (own_addr h) ∷ pokes 12 1 ∷ []

-- the stream is opened for so many harts, and the registers of the first of them are set, hart by hart
abbrev pub opened : ℕ → ℕ → List Message
opened harts zero = said 0 [] (opens harts)
opened harts (suc h) = all_said h (opened harts h) (registers_of h)

-- the moment before the first turn
abbrev pub before_turns : ℕ → ℕ → Moment
before_turns seed harts = record {
  random = seed;
  counter = 0;
  harts = replicate harts first_progress;
  messages = opened harts harts;
}

-- the moment after so many turns, for a seed, so many harts, and so many rounds of each
abbrev pub moment_of : ℕ → ℕ → ℕ → ℕ → Moment
moment_of seed harts rounds n = after_turns rounds n (before_turns seed harts)

-- The messages that are made: there are thirteen turns for each round of each hart, and then the End.
abbrev pub made_messages : ℕ → ℕ → ℕ → List Message
made_messages seed harts rounds = reverse (said 0 (moment_of seed harts rounds (13 * harts * rounds)).messages ends)
