-- The lines that tell a verdict, as bytes. A line ends with one newline, and one space separates
-- its parts.
use Rattle.std.specs.Prelude.{ℕ, List, [], ◌++◌, codes, Option, None, Some}
use Rattle.std.specs.Fmt.{decimal}
use Rattle.msg_frames.specs.declared.csrs.CsrValue.{CsrValue}
use Rattle.msg_frames.specs.declared.message.Form.{Form}
use Rattle.msg_frames.specs.declared.message.Form.TheVariants.{Length, Kind, Reserved, Field}
use Rattle.msg_frames.specs.declared.message.Head.{Head}
use Rattle.msg_frames.specs.declared.message.RdValue.{RdValue}
use Rattle.numerals.specs.Numerals.{decimal_or_dash, hexadecimal}
use Rattle.tandem_base.specs.Texts.{newline}
use Rattle.tandem_base.specs.declared.names.OpName.{OpName}
use Rattle.tandem_base.specs.declared.names.Origin.{Origin}
use Rattle.verdict_report.specs.Faults.{fault_number, fault_name}
use Rattle.verdict_report.specs.declared.fault.Fault.{Fault}
use Rattle.verdict_report.specs.declared.fault.Fault.TheVariants.{BadFrame, Truncated, BadOpen, BadHart, TimeBack}
use Rattle.verdict_report.specs.declared.fault.Fault.TheVariants.{LateTag}
use Rattle.verdict_report.specs.declared.fault.Fault.TheVariants.{BadRange, UnknownStore, StoreData, TornStore}
use Rattle.verdict_report.specs.declared.fault.Fault.TheVariants.{MergeMismatch, LatePoke}
use Rattle.verdict_report.specs.declared.fault.Fault.TheVariants.{TagOrder, StrayBypass, Pc, Word, Trap, MissingRead}
use Rattle.verdict_report.specs.declared.fault.Fault.TheVariants.{TornRead, MissingBypass, NextPc, Rd, Csr, AmoData}
use Rattle.verdict_report.specs.declared.fault.Fault.TheVariants.{ScPair, LoadValue, Order, Atomicity, Unwritten}
use Rattle.verdict_report.specs.declared.fault.Fault.TheVariants.{Unretired}
use Rattle.verdict_report.specs.declared.fault.RdWant.{RdWant}
use Rattle.verdict_report.specs.declared.fault.RdWant.TheVariants.{Absent, Value, Nonzero, AtLeast}
use Rattle.verdict_report.specs.declared.verdict.Limit.{Limit}
use Rattle.verdict_report.specs.declared.verdict.Limit.TheVariants.{Reads, Stores, Kept, Messages}
use Rattle.verdict_report.specs.declared.verdict.Report.{Report}
use Rattle.verdict_report.specs.declared.verdict.Verdict.{Verdict}
use Rattle.verdict_report.specs.declared.verdict.Verdict.TheVariants.{Accept, Reject, Undecided}

-- how a frame breaks the grammar
abbrev pub form_text : Form → List ℕ
form_text Length = codes "Length"
form_text Kind = codes "Kind"
form_text Reserved = codes "Reserved"
form_text Field = codes "Field"

-- `xN:` of register N
abbrev pub register_text : ℕ → List ℕ
register_text number = codes "x" ++ decimal number ++ codes ":"

-- a register with its value, or `-` for none
abbrev pub rd_value_text : Option RdValue → List ℕ
rd_value_text None = codes "-"
rd_value_text (Some rd) = register_text rd.number ++ hexadecimal rd.value

-- the register and the values that are wanted of it
abbrev pub rd_want_text : RdWant → List ℕ
rd_want_text Absent = codes "-"
rd_want_text (Value rd) = register_text rd.number ++ hexadecimal rd.value
rd_want_text (Nonzero number) = register_text number ++ codes "nonzero"
rd_want_text (AtLeast rd) = register_text rd.number ++ codes "atleast:" ++ hexadecimal rd.value

-- the number and the value of a CSR, or `-` for none
abbrev pub csr_value_text : Option CsrValue → List ℕ
csr_value_text None = codes "-"
csr_value_text (Some csr) = hexadecimal csr.number ++ codes ":" ++ hexadecimal csr.value

-- a byte, or `-` for none
abbrev pub byte_text : Option ℕ → List ℕ
byte_text None = codes "-"
byte_text (Some byte) = hexadecimal byte

-- the value of the reference model, then the reported one
abbrev pub differ : List ℕ → List ℕ → List ℕ
differ want got = codes " want=" ++ want ++ codes " got=" ++ got

-- the address of a byte
abbrev pub at_text : ℕ → List ℕ
at_text at = codes " at=" ++ hexadecimal at

-- a byte that differs, with its address
abbrev pub byte_differs : ℕ → Option ℕ → Option ℕ → List ℕ
byte_differs at want got = at_text at ++ differ (byte_text want) (byte_text got)

-- an instruction: `hart:tag`
abbrev pub origin_text : Origin → List ℕ
origin_text origin = decimal origin.hart ++ codes ":" ++ decimal origin.tag

-- a memory operation: `hart:tag.part`
abbrev pub operation_text : OpName → List ℕ
operation_text name = decimal name.hart ++ codes ":" ++ decimal name.tag ++ codes "." ++ decimal name.part

-- what a line tells of a fault beside its number and name
abbrev pub detail_of : Fault → List ℕ
detail_of (BadFrame form) = codes " form=" ++ form_text form
detail_of (Truncated have) = codes " have=" ++ decimal have
detail_of BadOpen = []
detail_of BadHart = []
detail_of (TimeBack last) = codes " last=" ++ decimal last
detail_of (LateTag last) = codes " last=" ++ decimal last
detail_of BadRange = []
detail_of UnknownStore = []
detail_of (StoreData at want got) = byte_differs at want got
detail_of TornStore = []
detail_of (MergeMismatch at want got) = byte_differs at want got
detail_of LatePoke = []
detail_of (TagOrder last) = codes " last=" ++ decimal last
detail_of (StrayBypass bypass) = codes " bypass=" ++ decimal bypass
detail_of (Pc want got) = differ (hexadecimal want) (hexadecimal got)
detail_of (Word want got) = differ (hexadecimal want) (hexadecimal got)
detail_of (Trap want got) = differ (decimal_or_dash want) (decimal_or_dash got)
detail_of (MissingRead at) = at_text at
detail_of (TornRead at) = at_text at
detail_of MissingBypass = []
detail_of (NextPc want got) = differ (hexadecimal want) (hexadecimal got)
detail_of (Rd want got) = differ (rd_want_text want) (rd_value_text got)
detail_of (Csr index want got) = codes " index=" ++ decimal index ++ differ (csr_value_text want) (csr_value_text got)
detail_of (AmoData at want got) = byte_differs at want got
detail_of ScPair = []
detail_of (LoadValue at want got) = byte_differs at want got
detail_of (Order rule first second) =
    codes " rule=" ++ decimal rule ++ codes " first=" ++ operation_text first
    ++ codes " second=" ++ operation_text second
detail_of (Atomicity at store) = at_text at ++ codes " store=" ++ origin_text store
detail_of (Unwritten store at) = codes " store=" ++ origin_text store ++ at_text at
detail_of (Unretired bypass) = codes " bypass=" ++ origin_text bypass

-- the number and the name of a fault
abbrev pub fault_text : Fault → List ℕ
fault_text fault = codes " fault=" ++ decimal (fault_number fault) ++ codes " " ++ fault_name fault

-- the hart and the tag of the message, where there is one
abbrev pub head_text : Option Head → List ℕ
head_text None = []
head_text (Some head) = codes " hart=" ++ decimal head.hart ++ codes " tag=" ++ decimal head.tag

-- where the report is, and what is wrong there
abbrev pub report_text : Report → List ℕ
report_text report =
    codes "REJECT message=" ++ decimal report.message ++ codes " offset=" ++ decimal report.offset
    ++ fault_text report.fault ++ head_text report.head ++ detail_of report.fault

-- the name of a limit
abbrev pub limit_text : Limit → List ℕ
limit_text Reads = codes "READS"
limit_text Stores = codes "STORES"
limit_text Kept = codes "KEPT"
limit_text Messages = codes "MESSAGES"

-- the hart whose count it is, or `-` where the count is of none
abbrev pub limit_hart_text : Limit → ℕ → List ℕ
limit_hart_text Reads hart = decimal hart
limit_hart_text Stores hart = decimal hart
limit_hart_text Kept hart = decimal hart
limit_hart_text Messages _ = codes "-"

-- the line of a verdict
abbrev pub verdict_line : Verdict → List ℕ
verdict_line (Accept messages retired operations) =
    codes "ACCEPT messages=" ++ decimal messages ++ codes " retired=" ++ decimal retired
    ++ codes " operations=" ++ decimal operations ++ newline
verdict_line (Reject report) = report_text report ++ newline
verdict_line (Undecided message limit hart count) =
    codes "UNDECIDED message=" ++ decimal message ++ codes " limit=" ++ limit_text limit
    ++ codes " hart=" ++ limit_hart_text limit hart ++ codes " count=" ++ decimal count ++ newline
