-- What became of a byte of a store, told by the messages alone: its Insert, and the first Write of its line after that.
use Rattle.std.specs.Prelude.{ℕ, ◌<◌, ◌≡◌, ◌⊎◌, List, ◌∷◌, ◌++◌, true, false}
use Rattle.tandem_base.specs.declared.names.Place.{Place}
use Rattle.msg_frames.specs.declared.message.Head.{Head}
use Rattle.msg_frames.specs.declared.message.Piece.{Piece}
use Rattle.msg_frames.specs.declared.message.LineWrite.{LineWrite}
use Rattle.msg_frames.specs.declared.message.Body.{Body}
use Rattle.msg_frames.specs.declared.message.Body.TheVariants as body
use Rattle.msg_frames.specs.declared.message.Message.{Message}
use Rattle.matching.specs.declared.stores.Fate.{Fate}
use Rattle.matching.specs.declared.stores.Fate.TheVariants.{Nothing, Waiting, Done}
use Rattle.matching.specs.Settings.{number_after}
use Rattle.msg_frames.specs.Pieces.{has}
use Rattle.matching.specs.Pieces.{line_start}
use Rattle.matching.specs.Tags.{is_of, is_early}

-- message k has this head and body, and `older` are the messages before it
pub record IsMessage (messages : List Message) (k : ℕ) (older : List Message) (head : Head) (b : Body) : Type 0 where
  pub later : List Message
  pub whole : messages ≡ later ++ record { head = head; body = b } ∷ older
  pub number : k ≡ number_after older

-- message k is an Insert of byte x of the store of hart h under tag t
pub record IsInsert (messages : List Message) (h t x k : ℕ) : Type 0 where
  pub older : List Message
  pub head : Head
  pub piece : Piece
  pub message : IsMessage messages k older head (body.Insert piece)
  pub of : is_of head h t ≡ true
  pub byte : has piece x ≡ true

-- message k is a plain Bypass of byte x of that store, at this time: its instruction had retired
pub record IsPlainBypass (messages : List Message) (h t x k time : ℕ) : Type 0 where
  pub older : List Message
  pub head : Head
  pub piece : Piece
  pub message : IsMessage messages k older head (body.Bypass piece)
  pub of : is_of head h t ≡ true
  pub byte : has piece x ≡ true
  pub plain : is_early older head ≡ false
  pub timed : head.time ≡ time

-- message k is a Write of line l by hart h, at this time
pub record IsWrite (messages : List Message) (h l k time : ℕ) : Type 0 where
  pub older : List Message
  pub head : Head
  pub write : LineWrite
  pub message : IsMessage messages k older head (body.Write write)
  pub hart : head.hart ≡ h
  pub line : write.line ≡ l
  pub timed : head.time ≡ time

-- no message after j is a Write of line l by hart h
abbrev pub NoWriteAfter : List Message → ℕ → ℕ → ℕ → Type 0
NoWriteAfter messages h l j = (k time : ℕ) → j < k → IsWrite messages h l k time → ⊥

-- message k is the first after j that is one, and it came at this time
pub record IsFirstWrite (messages : List Message) (h l j k time : ℕ) : Type 0 where
  pub after : j < k
  pub write : IsWrite messages h l k time
  pub first : (i at : ℕ) → j < i → i < k → IsWrite messages h l i at → ⊥

-- byte x of the store was performed at p: by the first Write of its line after its Insert, which is the third part of
-- the place, or by a plain Bypass
abbrev pub IsPerformed : List Message → ℕ → ℕ → ℕ → Place → Type 0
IsPerformed messages h t x p =
    (IsInsert messages h t x p.insert × IsFirstWrite messages h (line_start x) p.insert p.message p.time)
    ⊎ (IsPlainBypass messages h t x p.message p.time × (p.insert ≡ p.message))

-- what became of byte x of the store of hart h under tag t, by the messages
abbrev pub IsFate : List Message → ℕ → ℕ → ℕ → Fate → Type 0
IsFate messages h t x Nothing =
    ((k : ℕ) → IsInsert messages h t x k → ⊥) × ((k time : ℕ) → IsPlainBypass messages h t x k time → ⊥)
IsFate messages h t x (Waiting j) = IsInsert messages h t x j × NoWriteAfter messages h (line_start x) j
IsFate messages h t x (Done p) = IsPerformed messages h t x p
