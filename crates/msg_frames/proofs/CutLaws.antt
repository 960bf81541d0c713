-- The laws of a cut.
use Rattle.std.proofs.Common.{◌≡◌, ℕ, zero, suc, ◌+◌, ◌-◌, ◌≤◌, true, false, cond, List, [], ◌∷◌, ◌++◌, length}
use Rattle.std.proofs.Common.{refl, sym, ◌∙◌, ap, arith, Ok, Err, length-append, ◌<◌, take, drop, inl, inr}
use Rattle.std.proofs.Common.{length-take-le, take-append-drop}
use Rattle.std.specs.Prelude.{nat_lt, nat_le, ◌&&◌}
use Rattle.std.specs.Int.{w16, from_le_bytes}
use Rattle.std.proofs.lemmas.Bool.{lt-ltb, le-ltb, cond-true, cond-false, cond_both, and_from, le-leb}
use Rattle.std.proofs.lemmas.Bool.{and_parts, leb-true}
use Rattle.std.proofs.lemmas.List.{take_at, take-append-le}
use Rattle.msg_frames.specs.declared.message.Message.{Message}
use Rattle.msg_frames.specs.declared.message.FrameFault.{FrameFault}
use Rattle.tandem_base.specs.Fields.{u16_at}
use Rattle.msg_frames.specs.Reading.{reading, is_length}
use Rattle.msg_frames.specs.Cut.{End, Bad, Short, needed, is_end, put_front, cut_read, cut_front, cut_after, cut}
use Rattle.msg_frames.specs.Frames.{frame, Fits, InRange}
use Rattle.msg_frames.specs.Taking.{IsWholeFrame, IsShort, size_at_front}
use Rattle.msg_frames.proofs.Steps.{chosen}
use Rattle.msg_frames.proofs.Ways.{reading_ok, whole_is}
use Rattle.msg_frames.proofs.Frames.{reading_frame}
use Rattle.msg_frames.proofs.Taking.{needed_more}

-- a frame needs at least its two length bytes
pub needed_least : (bytes : List ℕ) → 2 ≤ needed bytes
needed_least bytes =
    cond_both (nat_lt (length bytes) 2) 2 (cond (is_length (u16_at 0 bytes)) (u16_at 0 bytes + 2) 2) (λ n. 2 ≤ n)
    (λ e. omega arith)
    (λ e. cond_both (is_length (u16_at 0 bytes)) (u16_at 0 bytes + 2) 2 (λ n. 2 ≤ n) (λ f. omega arith)
    (λ f. omega arith))

-- what a frame needs is known by its first two bytes
pub needed_front : (front more : List ℕ) → 2 ≤ length front → needed (front ++ more) ≡ needed front
needed_front front more two =
    cond-false (nat_lt (length (front ++ more)) 2) 2 _ (le-ltb (length (front ++ more)) 2
    (omega (arith, length-append front more)))
    ∙ ap (λ (l : List ℕ). let n = from_le_bytes w16 l in cond (is_length n) (n + 2) 2) (take-append-le 2 front more two)
    ∙ sym (cond-false (nat_lt (length front) 2) 2 _ (le-ltb (length front) 2 two))

cut_skip : (k : ℕ) (front more : List ℕ) → length front ≡ k → cut_after k (front ++ more) ≡ cut_after 0 more
unfolding cut_after
cut_skip zero [] more e = refl
cut_skip zero (byte ∷ front) more e = absurd (omega arith)
cut_skip (suc k) [] more e = absurd (omega arith)
cut_skip (suc k) (byte ∷ front) more e = cut_skip k front more (omega arith)

-- a whole frame at the front is read, and what follows it is cut
cut_whole : (got more : List ℕ) → IsWholeFrame got → cut (got ++ more) ≡ cut_read (reading got) (cut more)
unfolding cut_after cut_front
cut_whole [] more whole = absurd (omega arith)
cut_whole (byte ∷ got) more whole =
    let least = needed_least (byte ∷ got) in
    let needs : needed (byte ∷ (got ++ more)) ≡ length (byte ∷ got) = needed_front (byte ∷ got) more (omega arith)
    ∙ sym whole in
    let room : needed (byte ∷ (got ++ more)) ≤ length (byte ∷ (got ++ more)) = omega (arith, length-append got more) in
    let rest : length got ≡ needed (byte ∷ (got ++ more)) - 1 = omega arith in
    cond-false (nat_lt (length (byte ∷ (got ++ more))) (needed (byte ∷ (got ++ more)))) _ _ (le-ltb _ _ room)
    ∙ ap (λ (l : List ℕ). cut_read (reading l) (cut_after (needed (byte ∷ (got ++ more)) - 1) (got ++ more)))
    (take_at (byte ∷ got) more (needed (byte ∷ (got ++ more))) (sym needs))
    ∙ ap (cut_read (reading (byte ∷ got))) (cut_skip (needed (byte ∷ (got ++ more)) - 1) got more rest)

-- a message that isn't End comes before the messages of the rest
pub cut_message : (got more : List ℕ) (message : Message) → IsWholeFrame got → reading got ≡ Ok message
    → is_end message.body ≡ false
    → cut (got ++ more) ≡ put_front message (cut more)
unfolding cut_read
cut_message got more message whole is goes_on =
    cut_whole got more whole ∙ ap (λ r. cut_read r (cut more)) is ∙ cond-false (is_end message.body) _ _ goes_on

-- an End is the last message
pub cut_end : (got more : List ℕ) (message : Message) → IsWholeFrame got → reading got ≡ Ok message
    → is_end message.body ≡ true
    → cut (got ++ more) ≡ record { messages = message ∷ []; ending = End }
unfolding cut_read
cut_end got more message whole is ends =
    cut_whole got more whole ∙ ap (λ r. cut_read r (cut more)) is ∙ cond-true (is_end message.body) _ _ ends

-- a frame that spells no message ends the cut
pub cut_bad : (got more : List ℕ) (fault : FrameFault) → IsWholeFrame got → reading got ≡ Err fault
    → cut (got ++ more) ≡ record { messages = []; ending = Bad fault }
unfolding cut_read
cut_bad got more fault whole is = cut_whole got more whole ∙ ap (λ r. cut_read r (cut more)) is

-- fewer bytes than the frame needs end the cut
pub cut_short : (got : List ℕ) → IsShort got → cut got ≡ record { messages = []; ending = Short (length got) }
unfolding cut_after cut_front
cut_short [] short = refl
cut_short (byte ∷ got) short = cond-true (nat_lt (length (byte ∷ got)) (needed (byte ∷ got))) _ _ (lt-ltb _ _ short)

-- what is read as a message is a whole frame
pub whole_read : (got : List ℕ) (message : Message) → reading got ≡ Ok message → IsWholeFrame got
whole_read got message is =
    let whole = whole_is got (reading_ok got message is).0 in
    let low = whole.low in
    let size = whole.size in
    size ∙ sym (needed_more got (u16_at 0 got) (omega arith) refl (and_from (nat_le 18 (u16_at 0 got))
    (nat_le (u16_at 0 got) 512)
    (le-leb 18 (u16_at 0 got) whole.low) (le-leb (u16_at 0 got) 512 whole.high)))

-- the frame of a message is a whole frame
pub whole_frame : (message : Message) → Fits message → InRange message → IsWholeFrame (frame message)
whole_frame message fits holds = whole_read (frame message) message (reading_frame message fits holds)

-- the frame that lies whole at the front is a whole frame
pub front_whole : (bytes : List ℕ) (size : ℕ) → size ≡ size_at_front bytes → 0 < size
    → (size ≤ length bytes) × IsWholeFrame (take size bytes)
front_whole bytes size e some =
    elim (chosen (nat_le 20 (needed bytes) && nat_le (needed bytes) (length bytes)) (needed bytes) 0 size (sym e)) [
      | inl way ↦
          let parts = and_parts (nat_le 20 (needed bytes)) (nat_le (needed bytes) (length bytes)) way.0 in
          let low = leb-true 20 (needed bytes) parts.0 in
          let room = leb-true (needed bytes) (length bytes) parts.1 in
          let is = way.1 in
          let long : length (take size bytes) ≡ size = length-take-le size bytes (omega arith) in (
            omega arith,
            long ∙ sym is ∙ ap needed (sym (take-append-drop size bytes))
                ∙ needed_front (take size bytes) (drop size bytes) (omega arith),
          )
      | inr way ↦ absurd (omega (arith, way.1))
    ]
