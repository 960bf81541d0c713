-- What is answered to an SC that retires.
use Rattle.std.specs.Prelude.{ℕ, ◌<◌, ◌≡◌, ◌⊎◌, Option, Some, true}
use Rattle.std.specs.List.{Contains}
use Rattle.tandem_base.specs.declared.extent.Extent.{Extent}
use Rattle.tandem_base.specs.declared.names.Place.{Place}
use Rattle.rv_decode.specs.Kinds.{is_sc}
use Rattle.rvwmo_model.specs.declared.instructions.Retired.{Retired}
use Rattle.rvwmo_model.specs.declared.operations.Op.{Op}
use Rattle.rvwmo_model.specs.declared.traces.Trace.{Trace}
use Rattle.rvwmo_model.specs.Atomicity.{IsPair, IsCoveredBy, Torn}
use Rattle.rvwmo_model.specs.InForm.{IsOf}
use Rattle.rvwmo_model.specs.Report.{IsTorn, TornBy}
use Rattle.rvwmo_model.specs.Sources.{key_of}
use Rattle.growth_laws.specs.Kinds.{WellKinded}
use Rattle.growth_laws.specs.Growth.{Keeps}
use Rattle.byte_memory.specs.declared.capture.StoreCapture.{StoreCapture}
use Rattle.window_laws.specs.Captures.{IsStoreCaptureOf}
use Rattle.window_laws.specs.SourceLaws.{IsNewAt}
use Rattle.window_laws.specs.Tables.{ArePositioned}
use Rattle.amo_pairing.specs.declared.reservation.Reservation.{Reservation}
use Rattle.amo_pairing.specs.declared.sc.Sc.{Sc}
use Rattle.amo_pairing.specs.declared.sc.Sc.TheVariants as sc
use Rattle.amo_pairing.specs.Reservations.{HasWholeExtent, IsOpenPairing}

-- the successful SC r retires, the youngest of its hart, and w is its operation; whether it has a pair isn't said
pub record IsScMore (t t' : Trace) (r : Retired) (w : Op) : Type 0 where
  pub keeps : Keeps t t' (Some r)
  pub younger : (v : Retired) → Contains t.insns v → v.hart ≡ r.hart → v.tag < r.tag
  pub conditional : is_sc r.insn ≡ true
  pub stored : r.stored ≡ true
  pub own : IsOf r w
  pub whole : HasWholeExtent w
  pub added : Contains t'.ops w
  pub ops_on : (v : Op) → Contains t.ops v → Contains t'.ops v
  pub ops_back : (v : Op) → Contains t'.ops v → (v ≡ w) ⊎ Contains t.ops v

-- the SC w has a pair whose bytes contain its own
abbrev pub IsPairedWhole : Trace → Op → Type 0
IsPairedWhole t w = (l : Op) × IsPair t l w × IsCoveredBy w l

-- what the answer says of the pair of the SC w: it has none; its bytes aren't all among those of its LR; or it has one
-- that contains them
abbrev pub SaysPair : Trace → Op → Sc → Type 0
SaysPair t w sc.NoPair = (l : Op) → IsPair t l w → ⊥
SaysPair t w sc.Outside = (l : Op) × IsPair t l w × (IsCoveredBy w l → ⊥)
SaysPair t w sc.Fine = IsPairedWhole t w
SaysPair t w (sc.Atomicity at store) = IsPairedWhole t w

-- whatever trace what is kept stands for, and whatever SC of the hart and extent retires there, the answer says what is
-- so of its pair
abbrev pub TellsPair : Option Reservation → ℕ → Extent → Sc → Type 0
TellsPair kept hart extent answer = (initial : ℕ → ℕ) (t t' : Trace) (r : Retired) (w : Op)
    → IsOpenPairing initial t hart kept → IsScMore t t' r w → r.hart ≡ hart → w.extent ≡ extent
    → SaysPair t' w answer

-- the SC r retires with its pair; w is its operation, performed at the place, and what is kept and what its report saw
-- of memory and of the block of the trace stand for the trace before
pub record IsScAsked (initial : ℕ → ℕ) (t t' : Trace) (w : Op) (kept : Option Reservation) (hart : ℕ)
    (extent : Extent) (seen : StoreCapture) : Type 0 where
  pub kinded : WellKinded t
  pub r : Retired
  pub place : Place
  pub new : IsNewAt t t' r w place
  pub conditional : is_sc r.insn ≡ true
  pub one_hart : r.hart ≡ hart
  pub one_extent : w.extent ≡ extent
  pub whole : HasWholeExtent w
  pub positioned : ArePositioned t'
  pub keeps : IsOpenPairing initial t hart kept
  pub captured : IsStoreCaptureOf initial t place extent hart t.granule seen

-- what the answer says of the atomicity of the SC w with its LR: it holds; or it doesn't, as this byte and this store
-- show first. An SC that retires with its pair has one
abbrev pub SaysAtomicity : Trace → Op → Sc → Type 0
SaysAtomicity t w sc.Fine = IsTorn t w → ⊥
SaysAtomicity t w (sc.Atomicity at store) =
    (l : Op) × (s : Op) × Torn t l w × TornBy t l w at s × (key_of s ≡ store)
SaysAtomicity t w sc.NoPair = ⊥
SaysAtomicity t w sc.Outside = ⊥

-- whatever trace the tables stand for, the answer says what is so of the atomicity of the SC
abbrev pub TellsAtomicity : Option Reservation → ℕ → Extent → StoreCapture → Sc → Type 0
TellsAtomicity kept hart extent seen answer = (initial : ℕ → ℕ) (t t' : Trace) (w : Op)
    → IsScAsked initial t t' w kept hart extent seen → SaysAtomicity t' w answer
