-- What holds of the trace of every clean list of messages.
use Rattle.std.specs.Prelude.{ℕ, ◌<◌, ◌≡◌, List, ◌∷◌, ◌++◌, length, false, eqb}
use Rattle.msg_frames.specs.declared.message.Message.{Message}
use Rattle.elf_image.specs.Images.{Loaded}
use Rattle.growth_laws.specs.Kinds.{WellKinded}
use Rattle.growth_laws.specs.Growth.{Grows}
use Rattle.matching.specs.declared.stores.Fate.{Fate}
use Rattle.matching.specs.Counts.{reads_of, stores_of}
use Rattle.matching.specs.Fates.{fate}
use Rattle.matching.specs.Matching.{IsClean}
use Rattle.trace_model.specs.FirstWrites.{IsFate}
use Rattle.trace_model.specs.Kept.{kept_of}
use Rattle.trace_model.specs.Traces.{trace_of}

-- the trace is well kinded, and so in form
abbrev pub ListsAreWellKinded : Type 0
ListsAreWellKinded = (image : Loaded) (before : List Message) → IsClean image before → 0 < length before
    → WellKinded (trace_of image before)

-- the trace of a longer list comes from that of the shorter by growths
abbrev pub ListsGrow : Type 0
ListsGrow = (image : Loaded) (later before : List Message) → IsClean image (later ++ before) → 0 < length before
    → Grows (trace_of image before) (trace_of image (later ++ before))

-- what became of a byte is what the messages tell, also where the list isn't clean
abbrev pub FatesAreTold : Type 0
FatesAreTold = (messages : List Message) (h t x : ℕ) → IsFate messages h t x (fate messages h t x)

-- the messages of a clean list tell one fate of each byte
abbrev pub FatesAreOne : Type 0
FatesAreOne = (image : Loaded) (messages : List Message) (h t x : ℕ) (f g : Fate) → IsClean image messages
    → IsFate messages h t x f → IsFate messages h t x g → f ≡ g

-- the counts of hart h after one more message are those before it
pub record CountsStay (image : Loaded) (before : List Message) (m : Message) (h : ℕ) : Type 0 where
  pub reads : reads_of (m ∷ before) h ≡ reads_of before h
  pub stores : stores_of image (m ∷ before) h ≡ stores_of image before h
  pub kept : kept_of image (m ∷ before) h ≡ kept_of image before h

-- a message of another hart changes none of them
abbrev pub OthersCount : Type 0
OthersCount = (image : Loaded) (before : List Message) (m : Message) (h : ℕ) → eqb m.head.hart h ≡ false
    → CountsStay image before m h
