-- What is counted in made streams.
use Rattle.std.specs.Prelude.{ℕ, ◌≡◌, ◌*◌, reverse, Some}
use Rattle.order_laws.specs.Decisions.{operations_of}
use Rattle.order_laws.specs.Limits.{Bounds, StaysInBounds}
use Rattle.trace_gen.specs.Program.{made_image}
use Rattle.trace_gen.specs.Making.{CanMake, made_messages}

-- five operations come of each round of each hart
abbrev pub MadeOperationsAre : Type 0
MadeOperationsAre = (seed harts rounds : ℕ) → CanMake harts rounds
    → operations_of made_image (reverse (made_messages seed harts rounds)) ≡ 5 * (harts * rounds)

-- the bounds of a run that has the greatest there are
abbrev pub made_bounds : Bounds
made_bounds = record { reads = Some 4096; stores = Some 4096; kept = Some 16384; messages = Some 4000000000 }

-- after each message of a made stream no count is over its bound
abbrev pub MadeStreamsStayInBounds : Type 0
MadeStreamsStayInBounds = (seed harts rounds : ℕ) → CanMake harts rounds
    → StaysInBounds made_image made_bounds (reverse (made_messages seed harts rounds))
