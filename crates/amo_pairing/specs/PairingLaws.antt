-- Laws of what is kept of a hart's open LR while a trace grows.
use Rattle.std.specs.Prelude.{ℕ, ◌≡◌, ◌≢◌, ◌⊎◌, List, [], ◌∷◌, Option, None, Some, true, false}
use Rattle.std.specs.List.{Contains}
use Rattle.tandem_base.specs.declared.extent.Extent.{Extent}
use Rattle.tandem_base.specs.declared.names.Place.{Place}
use Rattle.tandem_base.specs.Extents.{is_among, IsAligned}
use Rattle.rv_decode.specs.Kinds.{is_lr, is_sc}
use Rattle.rvwmo_model.specs.declared.instructions.Retired.{Retired}
use Rattle.rvwmo_model.specs.declared.operations.Op.{Op}
use Rattle.rvwmo_model.specs.declared.traces.Trace.{Trace}
use Rattle.rvwmo_model.specs.Order.{has_byte}
use Rattle.growth_laws.specs.Kinds.{WellKinded}
use Rattle.growth_laws.specs.Growth.{Same, AddEarly, AddInsn, Performs}
use Rattle.growth_laws.specs.Laws.{nothing_yet, HasOverlap}
use Rattle.window_laws.specs.Tables.{untimed}
use Rattle.amo_pairing.specs.declared.reservation.Reservation.{Reservation}
use Rattle.amo_pairing.specs.Reservations.{HasWholeExtent, IsReservationOf, IsOpenPairing}
use Rattle.amo_pairing.specs.Sources.{GivesPlacesIfAny}

-- in the trace of nothing no LR is open
abbrev pub PairingStarts : Type 0
PairingStarts = (initial : ℕ → ℕ) (granule h : ℕ) → IsOpenPairing initial (nothing_yet granule) h None

-- what is kept is right as before where nothing changes, where a store is performed early, where an instruction retires
-- that is no LR and no SC or is of another hart, and where a message performs stores of another hart and breaks no pair
-- of rule 1
pub record PairingStays : Type 0 where
  pub nothing : (initial : ℕ → ℕ) (t t' : Trace) (h : ℕ) (kept : Option Reservation) → WellKinded t → Same t t'
      → IsOpenPairing initial t h kept → IsOpenPairing initial t' h kept
  pub early : (initial : ℕ → ℕ) (t t' : Trace) (e : Op) (h : ℕ) (kept : Option Reservation) → WellKinded t
      → AddEarly t t' e → IsOpenPairing initial t h kept → IsOpenPairing initial t' h kept
  pub insn : (initial : ℕ → ℕ) (t t' : Trace) (r : Retired) (new : List Op) (h : ℕ) (kept : Option Reservation)
      → WellKinded t → AddInsn t t' r new → ((is_lr r.insn ≡ false) × (is_sc r.insn ≡ false)) ⊎ (r.hart ≢ h)
      → IsOpenPairing initial t h kept → IsOpenPairing initial t' h kept
  pub stores : (initial : ℕ → ℕ) (t t' : Trace) (g h : ℕ) (parts : List Op) (kept : Option Reservation)
      → WellKinded t → Performs g t parts t' → g ≢ h → (HasOverlap t' → ⊥)
      → IsOpenPairing initial t h kept → IsOpenPairing initial t' h kept

-- what is kept is told of the part n of a message, with its bytes and its place
pub record TellsPart (n : Op) (kept later : Option Reservation) : Type 0 where
  pub extent : Extent
  pub place : Place
  pub placed : n.place ≡ Some place
  pub bytes : (x : ℕ) → has_byte x n ≡ is_among extent.addr extent.len x
  pub gives : GivesPlacesIfAny n.name.tag extent (untimed place) kept later

-- and of all parts, one after the other; the last stands first in the list
abbrev pub TellsParts : List Op → Option Reservation → Option Reservation → Type 0
TellsParts [] kept later = later ≡ kept
TellsParts (n ∷ parts) kept later =
    (between : Option Reservation) × TellsParts parts kept between × TellsPart n between later

-- an LR that retires, with its aligned bytes and their sources, is the one that is kept; after an SC, failed or not,
-- none is; and the parts of a message of the hart that breaks no pair of rule 1 give sources their places
pub record PairingChanges : Type 0 where
  pub lr : (initial : ℕ → ℕ) (t t' : Trace) (r : Retired) (new : List Op) (l : Op) (kept : Reservation) → WellKinded t
      → AddInsn t t' r new → is_lr r.insn ≡ true → Contains new l → IsAligned l.extent → HasWholeExtent l
      → IsReservationOf initial t' l kept → IsOpenPairing initial t' r.hart (Some kept)
  pub sc : (initial : ℕ → ℕ) (t t' : Trace) (r : Retired) (new : List Op) → WellKinded t → AddInsn t t' r new
      → is_sc r.insn ≡ true → IsOpenPairing initial t' r.hart None
  pub performed : (initial : ℕ → ℕ) (t t' : Trace) (h : ℕ) (parts : List Op) (kept later : Option Reservation)
      → WellKinded t → Performs h t parts t' → (HasOverlap t' → ⊥) → TellsParts parts kept later
      → IsOpenPairing initial t h kept → IsOpenPairing initial t' h later
