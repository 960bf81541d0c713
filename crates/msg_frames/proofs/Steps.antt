-- What checks that found nothing say, and what an if-chain that ended says.
use Rattle.std.proofs.Common.{◌≡◌, ℕ, zero, suc, ◌+◌, ◌⊎◌, Bool, true, false, cond, List, [], ◌∷◌, get_or, refl}
use Rattle.std.proofs.Common.{arith, add-zero, inl, inr, Result, Ok, Err, Option, None, Some}
use Rattle.std.specs.Prelude.{◌==◌, not, ◌&&◌}
use Rattle.std.proofs.lemmas.Bool.{eqb-true}
use Rattle.std.proofs.lemmas.Bool.Decides.{nat_tests}
use Rattle.tandem_base.specs.FirstFault.{◌or_else◌, unless}
use Rattle.msg_frames.specs.declared.message.FrameFault.{FrameFault}
use Rattle.msg_frames.specs.declared.message.Form.{Form}
use Rattle.std.specs.Int.{bit_at}
use Rattle.msg_frames.specs.Reading.{rule, zeros, is_stray_byte, unmasked_zeros}

-- neither the first nor the next found a fault
pub none_else : (first next : Option FrameFault) → first or_else next ≡ None → (first ≡ None) × (next ≡ None)
none_else None next e = (refl, e)
none_else (Some broken) next e = cc

-- a value was given, so there was no fault
pub unless_ok : {A : Type 0} (found : Option FrameFault) (x y : A) → unless found x ≡ Ok y → (found ≡ None) × (x ≡ y)
unless_ok None x y e = (refl, cc)
unless_ok (Some broken) x y e = cc

-- the rule holds
pub rule_ok : (form : Form) (at : ℕ) (holds : Bool) → rule form at holds ≡ None → holds ≡ true
rule_ok form at true e = refl
rule_ok form at false e = cc

-- which way a choice went
pub chosen : {A : Type 0} (b : Bool) (x y z : A) → cond b x y ≡ z → ((b ≡ true) × (x ≡ z)) ⊎ ((b ≡ false) × (y ≡ z))
chosen true x y z e = inl (refl, e)
chosen false x y z e = inr (refl, e)

-- a choice that gave a message didn't go to a fault
pub chosen_ok : {A : Type 0} (b : Bool) (x : Result A FrameFault) (broken : FrameFault) (z : A)
    → cond b x (Err broken) ≡ Ok z → (b ≡ true) × (x ≡ Ok z)
chosen_ok true x broken z e = (refl, e)
chosen_ok false x broken z e = cc

-- a choice that found nothing went past the fault before it
chosen_none : (b : Bool) (x : Option FrameFault) (broken : FrameFault)
    → cond b x (Some broken) ≡ None → (b ≡ true) × (x ≡ None)
chosen_none true x broken e = (refl, e)
chosen_none false x broken e = cc

-- each byte is 0
pub zeros_ok : (at : ℕ) (bytes : List ℕ) → zeros at bytes ≡ None → (k : ℕ) → get_or bytes k 0 ≡ 0
zeros_ok at [] e k = refl
zeros_ok at (byte ∷ bytes) e zero = eqb-true byte 0 (chosen_none (byte == 0) (zeros (at + 1) bytes) _ e).0
zeros_ok at (byte ∷ bytes) e (suc k) = zeros_ok (at + 1) bytes (chosen_none (byte == 0) (zeros (at + 1) bytes) _ e).1 k

-- a choice that found nothing went past the fault behind it
chosen_later : (b : Bool) (y : Option FrameFault) (broken : FrameFault)
    → cond b (Some broken) y ≡ None → (b ≡ false) × (y ≡ None)
chosen_later true y broken e = cc
chosen_later false y broken e = (refl, e)

-- a byte outside the mask is 0
stray_no : (bit byte : ℕ) → (bit == 0 && not (byte == 0)) ≡ false → bit ≡ 0 → byte ≡ 0
stray_no bit byte e outside = grind (arith, nat_tests)

-- each byte outside the mask is 0
pub unmasked_ok : (mask k : ℕ) (bytes : List ℕ) → unmasked_zeros mask k bytes ≡ None → (i : ℕ)
    → bit_at mask (k + i) ≡ 0 → get_or bytes i 0 ≡ 0
unmasked_ok mask k [] e i outside = refl
unmasked_ok mask k (byte ∷ bytes) e zero outside =
    let here : bit_at mask k ≡ 0 = rw add-zero at outside in
    stray_no (bit_at mask k) byte
    (chosen_later (is_stray_byte mask k byte) (unmasked_zeros mask (k + 1) bytes) _ e).0 here
unmasked_ok mask k (byte ∷ bytes) e (suc i) outside =
    let same : k + suc i ≡ k + 1 + i = omega arith in
    unmasked_ok mask (k + 1) bytes
    (chosen_later (is_stray_byte mask k byte) (unmasked_zeros mask (k + 1) bytes) _ e).1 i
    (rw same at outside)
