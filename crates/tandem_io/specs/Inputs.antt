-- What is told of inputs by name, and what attaching one of them does.
use Rattle.std.specs.Prelude.{◌≡◌, ◌≤◌, ℕ, Bool, if◌then◌else◌, List, [], ◌∷◌, Option, Some, None}
use Rattle.std.specs.Prelude.{IfSome, is_some, Result, Ok, Err, IfOk, MatchResult, MatchBool, bytes_eq}
use Rattle.std.specs.Io.KnownBytes.{Keeps}
use Rattle.tandem_io.specs.Causes.{HasCause}
use Rattle.tandem_io.specs.Told.{Log, Logs}
use Rattle.tandem_io.specs.declared.types.Slot.{Slot}
use Rattle.tandem_io.specs.declared.types.Slot.TheVariants.{Image, Stream}

-- a content and the name under which it is there
pub record Named : Type 0 where
  pub name : List ℕ
  pub bytes : List ℕ

-- the content under a name
abbrev pub content_of : List Named → List ℕ → Option (List ℕ)
content_of [] name = None
content_of (file ∷ files) name = if bytes_eq file.name name then Some file.bytes else content_of files name

-- what is told of one slot: the bytes that it still holds, whether its last read answered 0,
-- the last answer of its attach, and its count of faults
pub record SlotView : Type 0 where
  pub left : Option (List ℕ)
  pub ended : Bool
  pub attached : Option Bool
  pub faults : ℕ

-- what is told of both slots
pub record Slots : Type 0 where
  pub image : SlotView
  pub stream : SlotView

-- what is told of inputs beside the bytes of the stream: the contents by name, the slot of the
-- image, and the last answer of attach for the stream
pub record Beside : Type 0 where
  pub names : Option (List Named)
  pub image : SlotView
  pub attached : Option Bool

-- what is told beside the bytes of the stream
abbrev pub beside_of : Option (List Named) → Slots → Beside
beside_of names slots = record { names = names; image = slots.image; attached = slots.stream.attached }

-- the slot of the stream tells what the source tells, which is open once attach has answered
pub record IsStream (stream : SlotView) (left : Option (List ℕ)) (ended : Bool) (faults : ℕ) (is_open : Bool)
    : Type 0 where
  pub left_is : stream.left ≡ left
  pub ended_is : stream.ended ≡ ended
  pub faults_is : stream.faults ≡ faults
  pub open_is : is_open ≡ is_some stream.attached

-- the names, the slot of the image, and the last answer of attach for the stream are the same
pub record IsBeside (names names' : Option (List Named)) (slots slots' : Slots) : Type 0 where
  pub names_is : names ≡ names'
  pub image_is : slots.image ≡ slots'.image
  pub attached_is : slots.stream.attached ≡ slots'.stream.attached

-- what is told of the slot that a call names
abbrev pub view_of : Slot → Slots → SlotView
view_of Image slots = slots.image
view_of Stream slots = slots.stream

-- what is told of the other slot
abbrev pub other_of : Slot → Slots → SlotView
other_of Image slots = slots.stream
other_of Stream slots = slots.image

-- the last answer of attach after one more call of it, which answers neither where it failed
abbrev pub last_answer : {E : Type 0} → Option Bool → Result Bool E → Option Bool
last_answer old (Ok found) = Some found
last_answer old (Err _) = old

-- what a call of attach did to the slot that it names, and when it may give each answer
pub record Attaches {E : Type 0} (names : Option (List Named)) (name : List ℕ) (old new : SlotView) (r : Result Bool E)
    : Type 0 where
  -- where the names are told, it answers whether the name is among them
  pub answer : IfSome names (λ files. IfOk r (λ found. found ≡ is_some (content_of files name)))
  -- true makes the slot hold the content of that name, and any other answer leaves it what it held
  pub left : MatchResult r
      (λ found. MatchBool found (IfSome names (λ files. new.left ≡ content_of files name)) (Keeps old.left new.left))
      (λ _. Keeps old.left new.left)
  pub ended : new.ended ≡ old.ended
  pub attached : new.attached ≡ last_answer old.attached r
  pub cause : HasCause old.faults new.faults r
  pub count : old.faults ≤ new.faults

-- a told log begins anew with each stream that is attached, and any other attach leaves it
abbrev pub LogsFrom : {E : Type 0} → Slot → Log → Log → Result Bool E → Type 0
LogsFrom Image old new r = Logs old new []
LogsFrom Stream old new r = MatchResult r
    (λ found. MatchBool found (IfSome old (λ _. new ≡ Some [])) (Logs old new []))
    (λ _. Logs old new [])
