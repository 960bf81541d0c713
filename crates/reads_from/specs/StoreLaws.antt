-- Laws of the stores of a hart while its trace grows.
use Rattle.std.specs.Prelude.{ℕ, ◌-◌, ◌≡◌, true, List, ◌∷◌, length, Option, slice_index}
use Rattle.msg_frames.specs.declared.message.Piece.{Piece}
use Rattle.tandem_base.specs.Extents.{is_among}
use Rattle.rvwmo_model.specs.declared.instructions.Retired.{Retired}
use Rattle.rvwmo_model.specs.declared.operations.Op.{Op}
use Rattle.rvwmo_model.specs.declared.traces.Trace.{Trace}
use Rattle.rvwmo_model.specs.Order.{writes, put_at}
use Rattle.growth_laws.specs.Kinds.{WellKinded}
use Rattle.growth_laws.specs.Growth.{AddInsn, AddsStore, PerformsPart}
use Rattle.store_buffer.specs.declared.store.ByteState.TheVariants.{Performed}
use Rattle.store_buffer.specs.declared.store.Store.{Store}
use Rattle.store_buffer.specs.declared.store.StoreMarks.{StoreMarks}
use Rattle.store_buffer.specs.Store.{untouched_store, answer_for}
use Rattle.store_buffer.specs.Stores.{store_of_tag, open_stores, all_given, after_taken}
use Rattle.store_buffer.specs.Waiting.{AreRetired, waiting_bytes}
use Rattle.window_laws.specs.Waiting.{AreWaiting}

-- the operation stores the bytes of the piece
pub record StoresPiece (o : Op) (piece : Piece) : Type 0 where
  pub extent : (x : ℕ) → writes x o ≡ is_among piece.addr (length piece.bytes) x
  pub bytes : (x : ℕ) → is_among piece.addr (length piece.bytes) x ≡ true
      → put_at o x ≡ slice_index piece.bytes (x - piece.addr)

-- a plain store of the hart retires: the bytes that wait are those of the stores with it in front
abbrev pub RetiredWait : Type 0
RetiredWait = (t t' : Trace) (r : Retired) (new : List Op) (o : Op) (piece : Piece) (marks : StoreMarks)
    (ss : List Store)
    → WellKinded t → AddInsn t t' r new → AddsStore t t' r new o → StoresPiece o piece
    → AreWaiting t r.hart (waiting_bytes ss)
    → AreWaiting t' r.hart (waiting_bytes (untouched_store o.name.tag piece marks ∷ ss))

-- a part of a store of the hart is performed: the bytes that wait are those of the stores once it is told
abbrev pub PerformedLeave : Type 0
PerformedLeave = (t t' : Trace) (o n : Op) (rest : Option Op) (addr len : ℕ) (ss : List Store)
    → WellKinded t → PerformsPart t t' o n rest → ((x : ℕ) → writes x n ≡ is_among addr len x) → AreRetired ss
    → AreWaiting t n.name.hart (waiting_bytes ss)
    → AreWaiting t' n.name.hart (waiting_bytes (all_given n.name.tag Performed addr len ss))

-- the same bytes wait after an Insert or a Bypass and after a sweep
pub record StoresStay : Type 0 where
  pub taken : (t : Trace) (h tag : ℕ) (piece : Piece) (ss : List Store) → AreRetired ss
      → AreWaiting t h (waiting_bytes ss)
      → AreWaiting t h (waiting_bytes (after_taken (answer_for (store_of_tag tag ss) piece) tag piece ss))
  pub swept : (t : Trace) (h : ℕ) (ss : List Store) → AreRetired ss → AreWaiting t h (waiting_bytes ss)
      → AreWaiting t h (waiting_bytes (open_stores ss))
