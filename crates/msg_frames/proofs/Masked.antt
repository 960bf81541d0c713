-- The test of the bytes outside a mask.
use Rattle.std.proofs.Common.{◌≡◌, ℕ, ◌<◌, Bool, true, List, length, get_or, IsTrue, refl, sym, ◌∙◌, ap, arith}
use Rattle.std.proofs.Common.{zero-add, Result, Option, Some, None}
use Rattle.std.specs.Prelude.{is_ok}
use Rattle.tandem_base.specs.FirstFault.{passed}
use Rattle.msg_frames.specs.declared.message.FrameFault.{FrameFault}
use Rattle.std.specs.Int.{bit_at}
use Rattle.msg_frames.specs.Reading.{unmasked_zeros}
use Rattle.msg_frames.proofs.Steps.{unmasked_ok}
use Rattle.msg_frames.proofs.Again.{unmasked_from}

nothing_found : (found : Option FrameFault) → is_ok (passed found) ≡ true → found ≡ None
nothing_found None e = refl
nothing_found (Some broken) e = cc

pub masked_tells : (mask : ℕ) (bytes : List ℕ) (found : Result (Unit {0}) FrameFault) (answer : Bool)
    → length bytes ≡ 64
    → found ≡ passed (unmasked_zeros mask 0 bytes) → answer ≡ is_ok found
    → (IsTrue answer → (k : ℕ) → k < 64 → bit_at mask k ≡ 0 → get_or bytes k 0 ≡ 0)
    × (((k : ℕ) → k < 64 → bit_at mask k ≡ 0 → get_or bytes k 0 ≡ 0) → IsTrue answer)
masked_tells mask bytes found answer size is e = (
  λ yes k below outside. unmasked_ok mask 0 bytes (nothing_found (unmasked_zeros mask 0 bytes) (ap is_ok (sym is)
      ∙ sym e ∙ yes)) k (rw zero-add outside),
  λ all. e ∙ ap is_ok (is ∙ ap passed (unmasked_from mask 0 bytes (λ k below outside. all k (omega arith)
      (rw zero-add at outside)))),
)
