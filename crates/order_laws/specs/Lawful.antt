-- Which lists of messages are lawful, and that just these are accepted. A list has the newest message first.
use Rattle.std.specs.Prelude.{◌≡◌, ◌↔◌, List, [], ◌∷◌, reverse, length, All, true, false, Some}
use Rattle.msg_frames.specs.declared.message.Message.{Message}
use Rattle.msg_frames.specs.Cut.{is_end}
use Rattle.msg_frames.specs.Frames.{Fits}
use Rattle.elf_image.specs.Images.{Loaded}
use Rattle.matching.specs.Matching.{IsClean}
use Rattle.order_laws.specs.Decisions.{Decided, Accepts, decision_at, IsUndecided, first_decision, IsFirstDecision}
use Rattle.order_laws.specs.Formed.{IsWellFormed}
use Rattle.order_laws.specs.Limits.{Bounds, StaysInBounds}
use Rattle.order_laws.specs.Prefixes.{IsLegal}
use Rattle.order_laws.specs.Stepped.{AreSteps, ArePaired, AreWritten}

-- the newest message is an End, and no other is one
abbrev pub EndsOnce : List Message → Type 0
EndsOnce [] = ⊥
EndsOnce (m ∷ before) = (is_end m.body ≡ true) × All (λ n. is_end n.body ≡ false) before

-- a list of messages is lawful: it ends with its only End, the stream is well-formed, every retirement is the step,
-- every store that retired is written, every successful SC has its LR, and the order of all is legal
pub record Lawful (image : Loaded) (messages : List Message) : Type 0 where
  pub ended : EndsOnce messages
  pub formed : IsWellFormed image messages
  pub stepped : AreSteps image messages
  pub written : AreWritten image messages
  pub paired : ArePaired image messages
  pub legal : IsLegal image messages

-- where a list ends with its only End, all its messages match exactly where it is lawful but for the order of memory
abbrev pub MatchedInWords : Type 0
MatchedInWords = (image : Loaded) (messages : List Message) → EndsOnce messages
    → IsClean image messages
    ↔ (IsWellFormed image messages × AreSteps image messages × AreWritten image messages × ArePaired image messages)

-- the newest message accepts, and nothing was decided before it
abbrev pub IsAcceptedList : Loaded → Bounds → List Message → Type 0
IsAcceptedList image bounds [] = ⊥
IsAcceptedList image bounds (m ∷ before) =
    IsUndecided image bounds before × (decision_at image bounds before m ≡ Some Accepts)

-- messages that are well-formed are accepted exactly where they are lawful and no count was over its bound
abbrev pub AcceptedIsLawful : Type 0
AcceptedIsLawful = (image : Loaded) (bounds : Bounds) (messages : List Message) → All Fits messages
    → IsAcceptedList image bounds messages ↔ (Lawful image messages × StaysInBounds image bounds messages)

-- the decision on a list of messages is that at the first of them at which anything is decided
abbrev pub DecisionIsFirst : Type 0
DecisionIsFirst = (image : Loaded) (bounds : Bounds) (messages : List Message) (d : Decided)
    → (first_decision image bounds [] messages ≡ Some d) ↔ IsFirstDecision image bounds messages d

-- so a list, in the order in which its messages came, is accepted at its last message exactly where it is lawful and no
-- count was over its bound
abbrev pub AcceptsExactlyLawful : Type 0
AcceptsExactlyLawful = (image : Loaded) (bounds : Bounds) (messages : List Message) → All Fits messages
    → (first_decision image bounds [] messages ≡ Some (record { number = length messages; decision = Accepts }))
    ↔ (Lawful image (reverse messages) × StaysInBounds image bounds (reverse messages))
