-- What later messages can't change. A list of messages has the newest first.
use Rattle.std.specs.Prelude.{ℕ, ◌≡◌, ◌⊎◌, List, ◌++◌, true, false, None, Some}
use Rattle.std.specs.List.{Contains}
use Rattle.std.specs.declared.option.Option.{Option}
use Rattle.tandem_base.specs.declared.names.Place.{Place}
use Rattle.tandem_base.specs.Places.{earlier}
use Rattle.msg_frames.specs.declared.message.Message.{Message}
use Rattle.elf_image.specs.Images.{Loaded}
use Rattle.rvwmo_model.specs.declared.operations.Op.{Op}
use Rattle.rvwmo_model.specs.Order.{reads}
use Rattle.rvwmo_model.specs.Sources.{origin}
use Rattle.elf_image.specs.Images.{initial_byte}
use Rattle.rvwmo_model.specs.Legal.{Legal}
use Rattle.growth_laws.specs.Laws.{HasOverlap, IsLater, PrecedesLater}
use Rattle.matching.specs.Matching.{IsClean}
use Rattle.trace_model.specs.Kept.{oldest_place}
use Rattle.trace_model.specs.Traces.{trace_of}

-- the order of these messages is legal: that of their completed trace, over the image
abbrev pub IsLegal : Loaded → List Message → Type 0
IsLegal image messages = Legal (initial_byte image) (trace_of image messages)

-- stable sources: after more messages the source of a loaded byte is the same, or a pair of rule 1 is broken
abbrev pub SourcesAreStable : Type 0
SourcesAreStable = (image : Loaded) (later before : List Message) (i : Op) (x : ℕ) → IsClean image (later ++ before)
    → Contains (trace_of image before).ops i → reads x i ≡ true
    → (origin (trace_of image (later ++ before)) i x ≡ origin (trace_of image before) i x)
    ⊎ HasOverlap (trace_of image (later ++ before))

-- no mending: where the order of all messages is legal, that of the first of them is; so what isn't legal stays so
abbrev pub MessagesMendNothing : Type 0
MessagesMendNothing = (image : Loaded) (later before : List Message) → IsClean image (later ++ before)
    → IsLegal image (later ++ before) → IsLegal image before

-- ---- windows

-- the place isn't after another, where there is one
abbrev pub IsNotAfter : Place → Option Place → Type 0
IsNotAfter p None = Unit {0}
IsNotAfter p (Some q) = earlier q p ≡ false

-- a is an operation of an instruction that retired, and was performed no later than the oldest report that its hart
-- has open
pub record IsClosed (image : Loaded) (before : List Message) (a : Op) : Type 0 where
  pub in_ops : Contains (trace_of image before).ops a
  pub place : Place
  pub placed : a.place ≡ Some place
  pub oldest : IsNotAfter place (oldest_place before a.name.hart)

-- windows: where the order of some messages is legal, what is closed precedes each operation of an instruction of its
-- hart that retires later, and so does what rules 1, 9 and 10 put before it; so it breaks no rule with that
abbrev pub ClosedPrecedesLater : Type 0
ClosedPrecedesLater = (image : Loaded) (later before : List Message) (a b : Op) → IsClean image (later ++ before)
    → IsLegal image before → IsClosed image before a
    → IsLater (trace_of image before) (trace_of image (later ++ before)) a b
    → PrecedesLater (trace_of image before) (trace_of image (later ++ before)) a b
