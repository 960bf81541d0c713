-- What is known of made streams by the definition of lawful lists.
use Rattle.std.specs.Prelude.{ℕ, ◌≡◌, ◌≤◌, [], length, reverse, Some}
use Rattle.order_laws.specs.Decisions.{Accepts, first_decision}
use Rattle.order_laws.specs.Lawful.{Lawful}
use Rattle.order_laws.specs.Limits.{messages_up_to}
use Rattle.trace_gen.specs.Program.{made_image}
use Rattle.trace_gen.specs.Making.{CanMake, made_messages}

-- each made stream is lawful over the image that is made
abbrev pub MadeStreamsAreLawful : Type 0
MadeStreamsAreLawful = (seed harts rounds : ℕ) → CanMake harts rounds
    → Lawful made_image (reverse (made_messages seed harts rounds))

-- where as many messages may come as it has, and no other count has a bound, its last message is the first at which
-- anything is decided, and accepts
abbrev pub MadeStreamsAreAccepted : Type 0
MadeStreamsAreAccepted = (seed harts rounds n : ℕ) → CanMake harts rounds
    → length (made_messages seed harts rounds) ≤ n
    → first_decision made_image (messages_up_to n) [] (made_messages seed harts rounds)
    ≡ Some (record { number = length (made_messages seed harts rounds); decision = Accepts })
