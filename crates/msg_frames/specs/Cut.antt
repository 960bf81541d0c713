-- How a byte list is cut into messages from its front.
use Rattle.std.specs.Prelude.{ℕ, zero, suc, ◌-◌, ◌+◌, nat_lt, Bool, true, false, if◌then◌else◌, List, [], ◌∷◌}
use Rattle.std.specs.Prelude.{length, take, Result, Ok, Err}
use Rattle.msg_frames.specs.declared.message.Body.{Body}
use Rattle.msg_frames.specs.declared.message.Body.TheVariants as body
use Rattle.msg_frames.specs.declared.message.Message.{Message}
use Rattle.msg_frames.specs.declared.message.FrameFault.{FrameFault}
use Rattle.tandem_base.specs.Fields.{u16_at}
use Rattle.msg_frames.specs.Reading.{is_length, reading}

-- why a cut is over: an End, a frame that spells no message, or fewer bytes left than the frame needs
pub data Ending : Type 0 where
  End : Ending
  Bad : FrameFault → Ending
  Short : ℕ → Ending

-- the messages of a byte list, the End among them, and why there are no more
pub record Cut : Type 0 where
  pub messages : List Message
  pub ending : Ending

-- how many bytes the frame at the front needs: two until its length is known, and just these where
-- no frame has the length
abbrev pub needed : List ℕ → ℕ
needed bytes = if nat_lt (length bytes) 2 then 2 else if is_length (u16_at 0 bytes) then u16_at 0 bytes + 2 else 2

-- the message is an End
abbrev pub is_end : Body → Bool
is_end (body.Open _) = false
is_end (body.Poke _) = false
is_end (body.Read _) = false
is_end (body.Insert _) = false
is_end (body.Write _) = false
is_end (body.Bypass _) = false
is_end (body.Retire _) = false
is_end body.Squash = false
is_end body.End = true

-- a message before a cut
abbrev pub put_front : Message → Cut → Cut
put_front message cut = record { messages = message ∷ cut.messages; ending = cut.ending }

-- the cut where the frame at the front reads as this, and what follows it has this cut
unfoldable pub cut_read : Result Message FrameFault → Cut → Cut
cut_read (Err broken) later = record { messages = []; ending = Bad broken }
cut_read (Ok message) later =
    if is_end message.body then record { messages = message ∷ []; ending = End } else put_front message later

-- the cut of these bytes, where `after k` is the cut of what follows the first k + 1 of them
unfoldable pub cut_front : List ℕ → (ℕ → Cut) → Cut
cut_front bytes after =
    if nat_lt (length bytes) (needed bytes) then record { messages = []; ending = Short (length bytes) }
    else cut_read (reading (take (needed bytes) bytes)) (after (needed bytes - 1))

-- the cut of what follows the first k bytes
unfoldable pub cut_after : ℕ → List ℕ → Cut
cut_after k [] = record { messages = []; ending = Short 0 }
cut_after (suc k) (byte ∷ bytes) = cut_after k bytes
cut_after zero (byte ∷ bytes) = cut_front (byte ∷ bytes) (λ k. cut_after k bytes)

-- the cut of these bytes
abbrev pub cut : List ℕ → Cut
cut bytes = cut_after 0 bytes
