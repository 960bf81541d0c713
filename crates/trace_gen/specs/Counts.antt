-- What is known of made messages by the way they are made: their number, and that each has a frame.
use Rattle.std.specs.Prelude.{ℕ, ◌≡◌, ◌+◌, ◌*◌, ◌<◌, [], length}
use Rattle.std.specs.List.{All}
use Rattle.msg_frames.specs.Frames.{Spells, frame}
use Rattle.trace_gen.specs.Schedule.{harts_left}
use Rattle.trace_gen.specs.Making.{CanMake, made_messages, moment_of}

-- before each of the turns some hart has steps left, and after them all none has: the turns are just those that there
-- are as long as a hart has steps left
pub record TurnsAreAll (seed harts rounds : ℕ) : Type 0 where
  pub before : (n : ℕ) → n < 13 * harts * rounds
      → 0 < length (harts_left rounds 0 (moment_of seed harts rounds n).harts)
  pub after : harts_left rounds 0 (moment_of seed harts rounds (13 * harts * rounds)).harts ≡ []

-- how many messages are made: the Open, three Pokes for each hart, fifteen for each round of each hart, and the End
abbrev pub MadeMessagesAre : Type 0
MadeMessagesAre = (seed harts rounds : ℕ)
    → length (made_messages seed harts rounds) ≡ 2 + 3 * harts + 15 * (harts * rounds)

-- the frame of each made message spells it
abbrev pub MadeMessagesAreSpelled : Type 0
MadeMessagesAreSpelled = (seed harts rounds : ℕ) → CanMake harts rounds
    → All (λ m. Spells (frame m) m) (made_messages seed harts rounds)
