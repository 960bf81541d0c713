-- What an Insert or a Bypass is answered.
use Rattle.std.proofs.Common.{ℕ, ◌≡◌, ◌≢◌, List, Bool, true, false, Some, refl}
use Rattle.std.proofs.Common.{if◌then◌else◌}
use Rattle.msg_frames.specs.declared.message.Piece.{Piece}
use Rattle.store_buffer.specs.declared.parts.Taken.{Taken}
use Rattle.store_buffer.specs.declared.parts.Taken.TheVariants.{Yes, Unknown, Wrong, Torn}
use Rattle.store_buffer.specs.declared.store.Store.{Store}
use Rattle.store_buffer.specs.Store.{is_new_part, answer_for, answer_for_bytes, lowest_wrong_byte}
use Rattle.store_buffer.specs.Stores.{after_taken}

-- what is taken is new
pub taken_is_new : (s : Store) (piece : Piece) → answer_for (Some s) piece ≡ Yes → is_new_part s piece ≡ true
taken_is_new s piece e = at (is_new_part s piece) e
  where
    at : (b : Bool) → (if b then answer_for_bytes s piece (lowest_wrong_byte s piece) else Unknown) ≡ Yes → b ≡ true
    at true e = refl
    at false e = cc

-- what is refused changes nothing
pub refused_same : (taken : Taken) (tag : ℕ) (piece : Piece) (ss : List Store) → taken ≢ Yes
    → ss ≡ after_taken taken tag piece ss
refused_same Yes tag piece ss d = absurd (d refl)
refused_same Unknown tag piece ss d = refl
refused_same (Wrong at want got) tag piece ss d = refl
refused_same Torn tag piece ss d = refl
