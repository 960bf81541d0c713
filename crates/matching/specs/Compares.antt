-- What a Retire reports against what the model gives: one definition for each fault.
use Rattle.std.specs.Prelude.{ℕ, ◌+◌, ◌==◌, ◌&&◌, not, nat_eq, nat_le, Bool, true, false, Option, Some, None}
use Rattle.std.specs.Prelude.{if◌then◌else◌, List, [], ◌∷◌}
use Rattle.std.specs.Option.{option_eq}
use Rattle.msg_frames.specs.declared.message.RdValue.{RdValue}
use Rattle.msg_frames.specs.declared.csrs.CsrValue.{CsrValue}
use Rattle.verdict_report.specs.declared.fault.Fault.{Fault}
use Rattle.verdict_report.specs.declared.fault.Fault.TheVariants as fault
use Rattle.verdict_report.specs.declared.fault.RdWant.{RdWant}
use Rattle.verdict_report.specs.declared.fault.RdWant.TheVariants as want
use Rattle.tandem_base.specs.FirstFault.{◌or_else◌}

-- a Retire's tag has to be above the last retired one
abbrev pub tag_fault_of : Option ℕ → ℕ → Option Fault
tag_fault_of None tag = None
tag_fault_of (Some last) tag = if nat_le tag last then Some (fault.TagOrder last) else None

-- the address of the instruction
abbrev pub pc_fault_of : ℕ → ℕ → Option Fault
pc_fault_of want got = if want == got then None else Some (fault.Pc want got)

-- the word of the instruction
abbrev pub word_fault_of : ℕ → ℕ → Option Fault
word_fault_of want got = if want == got then None else Some (fault.Word want got)

-- whether it trapped, and the cause
abbrev pub trap_fault_of : Option ℕ → Option ℕ → Option Fault
trap_fault_of want got = if option_eq nat_eq want got then None else Some (fault.Trap want got)

-- the address of the next instruction
abbrev pub next_fault_of : ℕ → ℕ → Option Fault
next_fault_of want got = if want == got then None else Some (fault.NextPc want got)

-- what is reported of a register is what is wanted of it
abbrev pub meets : RdWant → Option RdValue → Bool
meets want.Absent None = true
meets want.Absent (Some got) = false
meets (want.Value rd) None = false
meets (want.Value rd) (Some got) = (rd.number == got.number) && (rd.value == got.value)
meets (want.Nonzero number) None = false
meets (want.Nonzero number) (Some got) = (number == got.number) && not (got.value == 0)
meets (want.AtLeast rd) None = false
meets (want.AtLeast rd) (Some got) = (rd.number == got.number) && nat_le rd.value got.value

-- the register and its value
abbrev pub rd_fault_of : RdWant → Option RdValue → Option Fault
rd_fault_of want got = if meets want got then None else Some (fault.Rd want got)

-- the same CSR with the same value
abbrev pub same_csr : CsrValue → CsrValue → Bool
same_csr want got = (want.number == got.number) && (want.value == got.value)

-- one entry of the lists of written CSRs, which either list may lack
abbrev pub csr_entry_fault_of : ℕ → Option CsrValue → Option CsrValue → Option Fault
csr_entry_fault_of index want got = if option_eq same_csr want got then None else Some (fault.Csr index want got)

-- the first entry in which the lists differ, the first of them being at this index
abbrev pub csr_difference : ℕ → List CsrValue → List CsrValue → Option Fault
csr_difference index [] [] = None
csr_difference index [] (got ∷ gots) = csr_entry_fault_of index None (Some got)
csr_difference index (want ∷ wants) [] = csr_entry_fault_of index (Some want) None
csr_difference index (want ∷ wants) (got ∷ gots) =
    csr_entry_fault_of index (Some want) (Some got) or_else csr_difference (index + 1) wants gots

-- the CSRs that were written
abbrev pub csr_fault_of : List CsrValue → List CsrValue → Option Fault
csr_fault_of wants gots = csr_difference 0 wants gots
