-- Where a fault of memory order stands, and what it says.
use Rattle.std.specs.Prelude.{ℕ, ◌<◌, ◌≡◌, ◌⊎◌, ◌↔◌, ◌||◌, is_some, List, ◌∷◌, true, false, Some, None}
use Rattle.tandem_base.specs.declared.names.Place.{Place}
use Rattle.msg_frames.specs.declared.message.Head.{Head}
use Rattle.msg_frames.specs.declared.message.Body.TheVariants as body
use Rattle.msg_frames.specs.declared.message.Message.{Message}
use Rattle.elf_image.specs.Images.{Loaded}
use Rattle.rvwmo_model.specs.declared.operations.Op.{Op}
use Rattle.rvwmo_model.specs.declared.traces.Trace.{Trace}
use Rattle.rvwmo_model.specs.declared.preserved.Rule.{Rule}
use Rattle.rvwmo_model.specs.declared.preserved.Rule.TheVariants.{R1, R4, R6}
use Rattle.elf_image.specs.Images.{initial_byte}
use Rattle.rvwmo_model.specs.Last.{IsRetiring, IsLast}
use Rattle.rvwmo_model.specs.Rules.{Broken}
use Rattle.growth_laws.specs.Kinds.{IsPlainStore}
use Rattle.growth_laws.specs.Laws.{IsLeastRule}
use Rattle.matching.specs.Matching.{IsClean}
use Rattle.matching.specs.Settings.{number_after}
use Rattle.trace_model.specs.Traces.{trace_of}
use Rattle.order_laws.specs.Faults.{last_of, order_fault, IsFaultless}
use Rattle.order_laws.specs.Prefixes.{IsLegal}
use Rattle.trace_model.specs.Breaking.{may_break}
use Rattle.order_laws.specs.Retired.{retired_tag, performs_stores}

-- the fault of memory order at a message that matches is the one that the memory model names in the trace then
abbrev pub OrderFaultIsLast : Type 0
OrderFaultIsLast = (image : Loaded) (before : List Message) (m : Message) → IsClean image (m ∷ before)
    → IsLast (initial_byte image) (trace_of image (m ∷ before)) m.head.hart (retired_tag m.head m.body)
    (last_of image before m)

-- no message has a fault exactly where all match and their order is legal; so judging each message when it comes, and
-- judging all at the end, accept the same lists
abbrev pub FaultlessIsLegal : Type 0
FaultlessIsLegal = (image : Loaded) (messages : List Message) → IsFaultless image messages
    ↔ (IsClean image messages × IsLegal image messages)

-- o was performed by message n
abbrev pub IsPerformedBy : ℕ → Op → Type 0
IsPerformedBy n o = (p : Place) × (o.place ≡ Some p) × (p.message ≡ n)

-- a was performed by message n, as b was, from an Insert that is later than that of b
pub record IsInsertedLater (n : ℕ) (a b : Op) : Type 0 where
  pub first : Place
  pub second : Place
  pub first_at : a.place ≡ Some first
  pub second_at : b.place ≡ Some second
  pub one_message : first.message ≡ n
  pub later : second.insert < first.insert

-- the pair that message n breaks: by same address, fence or release; the second operation was performed by the message;
-- the first is of a plain store, and isn't performed, or was by the same message from a later Insert
pub record IsBrokenBy (t : Trace) (n : ℕ) (k : Rule) (a b : Op) : Type 0 where
  pub rule : (k ≡ R1) ⊎ (k ≡ R4) ⊎ (k ≡ R6)
  pub second : IsPerformedBy n b
  pub plain : IsPlainStore t a
  pub first : (a.place ≡ None) ⊎ IsInsertedLater n a b

-- where a message that matches, after messages without a fault, breaks the order
pub record OrderFaultHasPlace (image : Loaded) (before : List Message) (m : Message) : Type 0 where
  -- the order is legal then exactly where the message has no fault of memory order
  pub legal : (order_fault image before m ≡ None) ↔ IsLegal image (m ∷ before)
  -- a pair is broken only where the message retires an instruction, or performs stores of one that retired
  pub message : (k : Rule) (a b : Op) → Broken k (trace_of image (m ∷ before)) a b
      → (is_some (retired_tag m.head m.body) || performs_stores before m.head m.body) ≡ true
  -- at a Retire the second operation of each broken pair is one of its instruction
  pub retire : (k : Rule) (a b : Op) → is_some (retired_tag m.head m.body) ≡ true
      → Broken k (trace_of image (m ∷ before)) a b → IsRetiring m.head.hart (retired_tag m.head m.body) b
  -- at a Write or a plain Bypass each broken pair of the least rule is such a pair
  pub stores : (k : Rule) (a b : Op) → performs_stores before m.head m.body ≡ true
      → IsLeastRule (trace_of image (m ∷ before)) k → Broken k (trace_of image (m ∷ before)) a b
      → IsBrokenBy (trace_of image (m ∷ before)) (number_after before) k a b

-- place of the fault
abbrev pub OrderFaultsHavePlaces : Type 0
OrderFaultsHavePlaces = (image : Loaded) (before : List Message) (m : Message) → IsFaultless image before
    → IsClean image (m ∷ before) → OrderFaultHasPlace image before m

-- an End never has a fault of memory order, after messages without a fault: so what is left open is its first fault,
-- whichever of the two is looked for first
abbrev pub EndBreaksNothing : Type 0
EndBreaksNothing = (image : Loaded) (before : List Message) (head : Head) → IsFaultless image before
    → order_fault image before (record { head = head; body = body.End }) ≡ None

-- a message that matches, after messages without a fault, has no fault of memory order where it can break nothing
abbrev pub OthersBreakNothing : Type 0
OthersBreakNothing = (image : Loaded) (before : List Message) (m : Message) → IsFaultless image before
    → IsClean image (m ∷ before) → may_break image before m.head m.body ≡ false → order_fault image before m ≡ None
