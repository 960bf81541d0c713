-- Stores whose tags are below a bound.
use Rattle.std.proofs.Common.{ℕ, ◌≡◌, ◌<◌, ◌≤◌, ◌==◌, ◌+◌, List, [], ◌∷◌, Bool, true, false, cond, length, arith}
use Rattle.std.specs.List.{filter}
use Rattle.msg_frames.specs.declared.message.Piece.{Piece}
use Rattle.tandem_base.specs.declared.room.Took.{Took}
use Rattle.tandem_base.specs.declared.room.Took.TheVariants as took
use Rattle.store_buffer.specs.declared.parts.Taken.{Taken}
use Rattle.store_buffer.specs.declared.parts.Taken.TheVariants.{Yes, Unknown, Wrong, Torn}
use Rattle.store_buffer.specs.declared.store.ByteState.{ByteState}
use Rattle.store_buffer.specs.declared.store.ByteState.TheVariants.{Inserted}
use Rattle.store_buffer.specs.declared.store.Store.{Store}
use Rattle.store_buffer.specs.Store.{with_states}
use Rattle.store_buffer.specs.Stores.{AllTagged, after_taken, after_retire, all_given}

-- a higher bound
pub tagged_up : (low high : ℕ) (ss : List Store) → low ≤ high → AllTagged low ss → AllTagged high ss
tagged_up low high [] l a = tt
tagged_up low high (s ∷ ss) l a = (omega (arith, l, a.0), tagged_up low high ss l a.1)

-- some of them
pub tagged_filter : (stays : Store → Bool) (bound : ℕ) (ss : List Store) → AllTagged bound ss
    → AllTagged bound (filter stays ss)
tagged_filter stays bound [] a = tt
tagged_filter stays bound (s ∷ ss) a = at (stays s) (tagged_filter stays bound ss a.1)
  where
    at : (b : Bool) → AllTagged bound (filter stays ss)
        → AllTagged bound (cond b (s ∷ filter stays ss) (filter stays ss))
    at true r = (a.0, r)
    at false r = r

-- those whose bytes have another state
pub tagged_given : (bound tag : ℕ) (to : ByteState) (addr len : ℕ) (ss : List Store) → AllTagged bound ss
    → AllTagged bound (all_given tag to addr len ss)
tagged_given bound tag to addr len [] a = tt
tagged_given bound tag to addr len (s ∷ ss) a = (at (s.tag == tag), tagged_given bound tag to addr len ss a.1)
  where
    at : (b : Bool) → (cond b (with_states to addr len s) s).tag < bound
    at true = a.0
    at false = a.0

-- those after an answer to an Insert
pub tagged_taken : (bound tag : ℕ) (answer : Taken) (piece : Piece) (ss : List Store) → AllTagged bound ss
    → AllTagged bound (after_taken answer tag piece ss)
tagged_taken bound tag Yes piece ss a = tagged_given bound tag Inserted piece.addr (length piece.bytes) ss a
tagged_taken bound tag Unknown piece ss a = a
tagged_taken bound tag (Wrong at want got) piece ss a = a
tagged_taken bound tag Torn piece ss a = a

-- those after an answer to one more
pub tagged_retire : (tag : ℕ) (answer : Took) (s : Store) (ss : List Store) → s.tag ≡ tag → AllTagged tag ss
    → AllTagged (tag + 1) (after_retire answer s ss)
tagged_retire tag took.Yes s ss e a = (omega (arith, e), tagged_up tag (tag + 1) ss (omega (arith)) a)
tagged_retire tag (took.Full n) s ss e a = tagged_up tag (tag + 1) ss (omega (arith)) a
