-- What is kept of an LR, as it stands for a trace.
use Rattle.std.specs.Prelude.{ℕ, ◌+◌, ◌<◌, ◌≡◌, Option, None, Some, true}
use Rattle.std.specs.List.{Contains}
use Rattle.std.specs.Option.{option_map}
use Rattle.tandem_base.specs.Extents.{Covers, IsAligned}
use Rattle.rv_decode.specs.Kinds.{is_lr}
use Rattle.rvwmo_model.specs.declared.operations.Op.{Op}
use Rattle.rvwmo_model.specs.declared.traces.Trace.{Trace}
use Rattle.rvwmo_model.specs.Order.{has_byte}
use Rattle.rvwmo_model.specs.ProgramOrder.{insn_at, is_one}
use Rattle.rvwmo_model.specs.Rules.{Reserves}
use Rattle.rvwmo_model.specs.Sources.{source}
use Rattle.window_laws.specs.Tables.{untimed, source_told}
use Rattle.amo_pairing.specs.declared.reservation.Reservation.{Reservation}
use Rattle.amo_pairing.specs.Sources.{source_at_byte}

-- the instruction of hart h under the tag k is its open LR: no LR or SC of the hart, failed ones included, follows it
pub record IsOpenLr (t : Trace) (h k : ℕ) : Type 0 where
  pub lr : is_one is_lr (insn_at t.insns h k) ≡ true
  pub last : (j : ℕ) → k < j → Reserves t h j → ⊥

-- the operation has all bytes of its extent
abbrev pub HasWholeExtent : Op → Type 0
HasWholeExtent o = (x : ℕ) → Covers o.extent x → has_byte x o ≡ true

-- the operation l of an LR is kept: its bytes, its place, and of each byte the source by the load value axiom, told by
-- hart and tag, place and value
pub record IsReservationOf (initial : ℕ → ℕ) (t : Trace) (l : Op) (r : Reservation) : Type 0 where
  pub extent : r.extent ≡ l.extent
  pub place : Some r.place ≡ option_map untimed l.place
  pub sources : (k : ℕ) → k < l.extent.len
      → source_at_byte r k ≡ source_told initial (source t l (l.extent.addr + k)) (l.extent.addr + k)

-- l is the operation of the open LR of hart h, with all bytes of its aligned extent
pub record IsOfOpenLr (t : Trace) (h : ℕ) (l : Op) : Type 0 where
  pub here : Contains t.ops l
  pub hart : l.name.hart ≡ h
  pub latest : IsOpenLr t h l.name.tag
  pub aligned : IsAligned l.extent
  pub whole : HasWholeExtent l

-- what is kept of hart h is its open LR, and nothing where none is open
abbrev pub IsOpenPairing : (ℕ → ℕ) → Trace → ℕ → Option Reservation → Type 0
IsOpenPairing initial t h None = (k : ℕ) → IsOpenLr t h k → ⊥
IsOpenPairing initial t h (Some r) = (l : Op) × IsOfOpenLr t h l × IsReservationOf initial t l r
