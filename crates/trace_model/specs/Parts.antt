-- The operations that one message performs.
use Rattle.std.specs.Prelude.{ℕ, ◌≡◌, List, [], ◌∷◌, Some}
use Rattle.tandem_base.specs.declared.names.Place.{Place}
use Rattle.msg_frames.specs.declared.message.Piece.{Piece}
use Rattle.rvwmo_model.specs.declared.operations.Op.{Op}
use Rattle.rvwmo_model.specs.Order.{has_byte}
use Rattle.matching.specs.declared.stores.Held.{Held}
use Rattle.msg_frames.specs.Pieces.{has}

-- o is of the instruction of hart h under tag t, performed at p, and its bytes are those of the piece
pub record IsPartFor (h t : ℕ) (p : Place) (piece : Piece) (o : Op) : Type 0 where
  pub hart : o.name.hart ≡ h
  pub tag : o.name.tag ≡ t
  pub place : o.place ≡ Some p
  pub bytes : (x : ℕ) → has_byte x o ≡ has piece x

-- the operations are those of the Inserts of a line of hart h, one for each, in their order: message n drains them
abbrev pub ArePartsFor : ℕ → ℕ → ℕ → List Held → List Op → Type 0
ArePartsFor h time n [] [] = Unit {0}
ArePartsFor h time n [] (o ∷ ops) = ⊥
ArePartsFor h time n (e ∷ es) [] = ⊥
ArePartsFor h time n (e ∷ es) (o ∷ ops) =
    IsPartFor h e.tag (record { time = time; message = n; insert = e.number }) e.piece o × ArePartsFor h time n es ops
