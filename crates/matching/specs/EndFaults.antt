-- What is left open at the End: stores that aren't performed, and early Bypasses that have not retired.
use Rattle.std.specs.Prelude.{ℕ, zero, suc, ◌==◌, ◌&&◌, ◌||◌, nat_lt, not, is_some, List, [], ◌∷◌, length}
use Rattle.std.specs.Prelude.{Bool, Some, None, if◌then◌else◌}
use Rattle.std.specs.declared.option.Option.{Option}
use Rattle.msg_frames.specs.declared.message.Message.{Message}
use Rattle.elf_image.specs.Images.{Loaded}
use Rattle.rv_step.specs.Integers.{sum_of}
use Rattle.tandem_base.specs.FirstFault.{◌or_else◌}
use Rattle.verdict_report.specs.declared.fault.Fault.{Fault}
use Rattle.verdict_report.specs.declared.fault.Fault.TheVariants as fault
use Rattle.matching.specs.declared.reports.OpenReport.{OpenReport}
use Rattle.matching.specs.declared.stores.Fate.{Fate}
use Rattle.matching.specs.declared.stores.Stored.{Stored}
use Rattle.matching.specs.Searches.{first_below, earliest}
use Rattle.matching.specs.Fates.{is_done}
use Rattle.matching.specs.Stores.{retired_stores}
use Rattle.matching.specs.PartFaults.{fate_at}

-- byte k of a store isn't performed; the fates are those of its bytes
abbrev pub is_left : (ℕ → Fate) → Stored → ℕ → Bool
is_left fates s k = nat_lt k (length s.piece.bytes) && not (is_done (fates k))

-- the first byte of a store that isn't performed, of at most eight
unfoldable pub first_left : (ℕ → Fate) → Stored → Option ℕ
first_left fates s = first_below (is_left fates s) 8

-- the store has a byte that isn't performed
abbrev pub is_open_store : (Stored → ℕ → Fate) → Stored → Bool
is_open_store fates s = is_some (first_left (fates s) s)

-- the earliest of a hart's stores that has such a byte
abbrev pub earliest_left : (Stored → ℕ → Fate) → List Stored → Option Stored
earliest_left fates ss = earliest (is_open_store fates) ss

-- a byte that isn't performed
abbrev pub unwritten_fault_at : ℕ → Stored → Option ℕ → Option Fault
unwritten_fault_at h s None = None
unwritten_fault_at h s (Some k) =
    Some (fault.Unwritten (record { hart = h; tag = s.tag }) (sum_of s.piece.addr k))

-- the store, if there is one, with its first such byte
abbrev pub unwritten_fault_in : (Stored → ℕ → Fate) → ℕ → Option Stored → Option Fault
unwritten_fault_in fates h None = None
unwritten_fault_in fates h (Some s) = unwritten_fault_at h s (first_left (fates s) s)

-- a hart's earliest store that isn't performed
abbrev pub unwritten_fault_of : Loaded → List Message → ℕ → Option Fault
unwritten_fault_of image before h =
    unwritten_fault_in (fate_at before h) h (earliest_left (fate_at before h) (retired_stores image before h))

-- that of the lowest of the n harts from 0 on that has one
unfoldable pub unwritten_below : Loaded → List Message → ℕ → Option Fault
unwritten_below image before zero = None
unwritten_below image before (suc n) = unwritten_below image before n or_else unwritten_fault_of image before n

-- a Bypass comes before another: by hart, then by tag
abbrev pub comes_first : OpenReport → OpenReport → Bool
comes_first a b = nat_lt a.hart b.hart || ((a.hart == b.hart) && nat_lt a.tag b.tag)

-- the first of the two
abbrev pub first_of : OpenReport → Option OpenReport → OpenReport
first_of r None = r
first_of r (Some least) = if comes_first r least then r else least

-- the early Bypass of the lowest hart, then of the lowest tag
abbrev pub first_bypass : List OpenReport → Option OpenReport
first_bypass [] = None
first_bypass (r ∷ rs) = Some (first_of r (first_bypass rs))

-- an early Bypass that has not retired
abbrev pub unretired_fault_of : Option OpenReport → Option Fault
unretired_fault_of None = None
unretired_fault_of (Some r) = Some (fault.Unretired (record { hart = r.hart; tag = r.tag }))
