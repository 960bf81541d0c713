-- What is known of made streams by the definition of matching.
use Rattle.std.specs.Prelude.{ℕ, ◌≡◌, ◌*◌, Bool, true, false, length, reverse}
use Rattle.std.specs.List.{filter}
use Rattle.msg_frames.specs.declared.message.Body.{Body}
use Rattle.msg_frames.specs.declared.message.Body.TheVariants as body
use Rattle.msg_frames.specs.declared.message.Message.{Message}
use Rattle.matching.specs.Matching.{IsClean}
use Rattle.trace_gen.specs.Program.{made_image}
use Rattle.trace_gen.specs.Making.{CanMake, made_messages}

-- each message of a made stream is well-formed and has no fault after those before it, over the image that is made
abbrev pub MadeStreamsAreClean : Type 0
MadeStreamsAreClean = (seed harts rounds : ℕ) → CanMake harts rounds
    → IsClean made_image (reverse (made_messages seed harts rounds))

-- an instruction ends
abbrev pub does_retire : Body → Bool
does_retire (body.Open info) = false
does_retire (body.Poke poke) = false
does_retire (body.Read piece) = false
does_retire (body.Insert piece) = false
does_retire (body.Write write) = false
does_retire (body.Bypass piece) = false
does_retire (body.Retire retire) = true
does_retire body.Squash = false
does_retire body.End = false

-- seven instructions retire in each round of each hart
abbrev pub MadeRetiresAre : Type 0
MadeRetiresAre = (seed harts rounds : ℕ)
    → length (filter (λ (m : Message). does_retire m.body) (made_messages seed harts rounds)) ≡ 7 * (harts * rounds)
