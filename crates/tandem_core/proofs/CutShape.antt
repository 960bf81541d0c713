-- The messages of a cut are well-formed, and an End is the last of them, where there is one.
use Rattle.std.proofs.Common.{◌≡◌, ℕ, zero, suc, ◌-◌, Bool, true, false, cond, List, [], ◌∷◌, length, take, All}
use Rattle.std.proofs.Common.{Result, Ok, Err}
use Rattle.std.proofs.Common.{inl, inr, refl, sym, subst, ◌⊎◌}
use Rattle.std.specs.Prelude.{nat_lt}
use Rattle.std.proofs.lemmas.List.Elements.{All-nil, All-cons}
use Rattle.msg_frames.specs.declared.message.Message.{Message}
use Rattle.msg_frames.specs.declared.message.FrameFault.{FrameFault}
use Rattle.msg_frames.specs.Cut.{Cut, Ending, End, Bad, Short, needed, is_end, put_front, cut_read, cut_front}
use Rattle.msg_frames.specs.Cut.{cut_after, cut}
use Rattle.msg_frames.specs.Frames.{AreBytes, Fits}
use Rattle.msg_frames.specs.Reading.{reading}
use Rattle.msg_frames.proofs.Bytes.{AreBytes-take}
use Rattle.msg_frames.proofs.Spelled.{spelled}

-- the last message is the End, exactly where the cut ends with it
abbrev pub IsShaped : List Message → Ending → Type 0
IsShaped [] End = ⊥
IsShaped [] (Bad f) = Unit {0}
IsShaped [] (Short n) = Unit {0}
IsShaped (m ∷ ms) e = Fits m
    × (((is_end m.body ≡ true) × (ms ≡ []) × (e ≡ End)) ⊎ ((is_end m.body ≡ false) × IsShaped ms e))

abbrev IsShapedCut : Cut → Type 0
IsShapedCut c = IsShaped c.messages c.ending

read_shaped : (r : Result Message FrameFault) (later : Cut) → ((m : Message) → r ≡ Ok m → Fits m)
    → IsShapedCut later → IsShapedCut (cut_read r later)
unfolding cut_read
read_shaped (Err f) later fits s = tt
read_shaped (Ok m) later fits s = at (is_end m.body) refl
  where
    at : (b : Bool) → is_end m.body ≡ b
        → IsShapedCut (cond b (let c : Cut = record { messages = m ∷ []; ending = End } in c) (put_front m later))
    at true q = (fits m refl, inl (q, refl, refl))
    at false q = (fits m refl, inr (q, s))

after_shaped : (k : ℕ) (bytes : List ℕ) → AreBytes bytes → IsShapedCut (cut_after k bytes)
unfolding cut_after cut_front
after_shaped k [] h = tt
after_shaped (suc k) (b ∷ bytes) h = after_shaped k bytes (λ i. h (suc i))
after_shaped zero (b ∷ bytes) h =
    at (nat_lt (length (b ∷ bytes)) (needed (b ∷ bytes)))
    (read_shaped (reading (take (needed (b ∷ bytes)) (b ∷ bytes))) (cut_after (needed (b ∷ bytes) - 1) bytes)
    (λ m e. (spelled (take (needed (b ∷ bytes)) (b ∷ bytes)) m (AreBytes-take (needed (b ∷ bytes)) (b ∷ bytes) h)
    e).fits) (after_shaped (needed (b ∷ bytes) - 1) bytes (λ i. h (suc i))))
  where
    at : (c : Bool) → IsShapedCut (cut_read (reading (take (needed (b ∷ bytes)) (b ∷ bytes)))
        (cut_after (needed (b ∷ bytes) - 1) bytes))
        → IsShapedCut (cond c (let d : Cut = record { messages = []; ending = Short (length (b ∷ bytes)) } in d)
        (cut_read (reading (take (needed (b ∷ bytes)) (b ∷ bytes))) (cut_after (needed (b ∷ bytes) - 1) bytes)))
    at true s = tt
    at false s = s

pub cut_shaped : (bytes : List ℕ) → AreBytes bytes → IsShaped (cut bytes).messages (cut bytes).ending
cut_shaped bytes h = after_shaped 0 bytes h

-- they are well-formed
pub shaped_fit : (ms : List Message) (e : Ending) → IsShaped ms e → All Fits ms
shaped_fit [] e s = All-nil Fits
shaped_fit (m ∷ ms) e s = elim s.1 [
  | inl last ↦ All-cons Fits m ms s.0 (subst (All Fits) (sym last.1) (All-nil Fits))
  | inr more ↦ All-cons Fits m ms s.0 (shaped_fit ms e more.1)
]
