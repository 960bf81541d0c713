-- Stores of rising tags.
use Rattle.std.proofs.Common.{ℕ, ◌≡◌, ◌+◌, ◌≤◌, List, [], ◌∷◌, length, ap, ◌∙◌, arith}
use Rattle.msg_frames.specs.declared.message.Piece.{Piece}
use Rattle.tandem_base.specs.declared.room.Took.{Took}
use Rattle.tandem_base.specs.declared.room.Took.TheVariants.{Yes, Full}
use Rattle.store_buffer.specs.declared.store.Store.{Store}
use Rattle.store_buffer.specs.declared.store.StoreMarks.{StoreMarks}
use Rattle.store_buffer.specs.Store.{untouched_store}
use Rattle.store_buffer.specs.Stores.{AllTagged, open_stores, after_retire}
use Rattle.store_buffer.proofs.Waits.{retired_open}

pub tagged_more : (tag : ℕ) (ss : List Store) → AllTagged tag ss → AllTagged (tag + 1) ss
tagged_more tag [] a = tt
tagged_more tag (s ∷ ss) a = (omega (arith, a.0), tagged_more tag ss a.1)

pub tagged_after : (r : Took) (tag : ℕ) (piece : Piece) (marks : StoreMarks) (ss : List Store) → AllTagged tag ss
    → AllTagged (tag + 1) (after_retire r (untouched_store tag piece marks) ss)
tagged_after Yes tag piece marks ss a = (omega arith, tagged_more tag ss a)
tagged_after (Full n) tag piece marks ss a = tagged_more tag ss a

pub swept_after : (r : Took) (tag : ℕ) (piece : Piece) (marks : StoreMarks) (ss : List Store)
    → 1 ≤ length piece.bytes → open_stores ss ≡ ss
    → open_stores (after_retire r (untouched_store tag piece marks) ss)
    ≡ after_retire r (untouched_store tag piece marks) ss
swept_after Yes tag piece marks ss l e =
    retired_open tag piece marks ss l ∙ ap (λ (xs : List Store). untouched_store tag piece marks ∷ xs) e
swept_after (Full n) tag piece marks ss l e = e
