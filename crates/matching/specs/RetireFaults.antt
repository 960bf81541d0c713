-- What is wrong with a Retire: one definition for each fault, and their order.
use Rattle.std.specs.Prelude.{ℕ, ◌+◌, ◌%◌, ◌==◌, ◌&&◌, ◌||◌, not, nat_le, nat_lt, is_some, List, [], ◌∷◌, length}
use Rattle.std.specs.Prelude.{Bool, true, false, Some, None, if◌then◌else◌}
use Rattle.std.specs.declared.option.Option.{Option}
use Rattle.msg_frames.specs.declared.message.Head.{Head}
use Rattle.msg_frames.specs.declared.message.Piece.{Piece}
use Rattle.msg_frames.specs.declared.message.RdValue.{RdValue}
use Rattle.msg_frames.specs.declared.message.Retire.{Retire}
use Rattle.rv_step.specs.declared.effect.Effect.{Effect}
use Rattle.rv_step.specs.Steps.{Doing, trap, plain, counter, load, store, lr, sc, amo}
use Rattle.rv_step.specs.Plans.{PlanOf}
use Rattle.tandem_base.specs.FirstFault.{◌or_else◌}
use Rattle.verdict_report.specs.declared.fault.Fault.{Fault}
use Rattle.verdict_report.specs.declared.fault.Fault.TheVariants as fault
use Rattle.verdict_report.specs.declared.fault.RdWant.{RdWant}
use Rattle.verdict_report.specs.declared.fault.RdWant.TheVariants as want
use Rattle.matching.specs.declared.reports.OpenReport.{OpenReport}
use Rattle.matching.specs.declared.run.Clocks.{Clocks}
use Rattle.matching.specs.declared.run.Pair.{Pair}
use Rattle.matching.specs.Searches.{first_below}
use Rattle.msg_frames.specs.Pieces.{byte_in}
use Rattle.matching.specs.Pieces.{first_other}
use Rattle.matching.specs.Reports.{counting}
use Rattle.matching.specs.Runs.{Run, csr_number, clock_at}
use Rattle.matching.specs.Compares.{pc_fault_of, word_fault_of, trap_fault_of, next_fault_of, rd_fault_of}
use Rattle.matching.specs.Compares.{csr_fault_of}

-- ---- early Bypasses that belong to no AMO or SC

-- the bytes of a Bypass are just these
abbrev pub is_over : ℕ → ℕ → Piece → Bool
is_over addr len piece = (piece.addr == addr) && (length piece.bytes == len)

-- an instruction that may have this early Bypass: an AMO or SC over just these bytes
abbrev pub is_bypassed : Doing → Piece → Bool
is_bypassed (trap cause value) piece = false
is_bypassed (plain i) piece = false
is_bypassed (counter i) piece = false
is_bypassed (load i addr len) piece = false
is_bypassed (store i addr len) piece = false
is_bypassed (lr i addr len) piece = false
is_bypassed (sc i addr len) piece = is_over addr len piece
is_bypassed (amo i addr len) piece = is_over addr len piece

-- an early Bypass of the hart under a lower tag, or under this one where the instruction may not have it
abbrev pub is_stray : Doing → ℕ → ℕ → OpenReport → Bool
is_stray doing h t r =
    (r.hart == h) && (nat_lt r.tag t || ((r.tag == t) && not (is_bypassed doing r.piece)))

-- the lower of two tags
abbrev pub lower : ℕ → Option ℕ → ℕ
lower t None = t
lower t (Some least) = if nat_lt t least then t else least

-- the lowest tag of such a Bypass
abbrev pub lowest_stray : Doing → ℕ → ℕ → List OpenReport → Option ℕ
lowest_stray doing h t [] = None
lowest_stray doing h t (r ∷ rs) =
    if is_stray doing h t r then Some (lower r.tag (lowest_stray doing h t rs)) else lowest_stray doing h t rs

-- a stray Bypass is told by its tag
abbrev pub stray_fault_of : Option ℕ → Option Fault
stray_fault_of None = None
stray_fault_of (Some bypass) = Some (fault.StrayBypass bypass)

-- ---- the Reads of a load

-- byte k of a load has no Read that counts
abbrev pub is_missing : List OpenReport → ℕ → ℕ → ℕ → Bool
is_missing live t addr k = not (is_some (counting live t (addr + k)))

-- the same Read, or none both times
abbrev pub same_read : Option OpenReport → Option OpenReport → Bool
same_read None None = true
same_read None (Some b) = false
same_read (Some a) None = false
same_read (Some a) (Some b) = a.number == b.number

-- byte k of a load counts from another Read than its first byte
abbrev pub is_torn : List OpenReport → ℕ → ℕ → ℕ → Bool
is_torn live t addr k = not (same_read (counting live t addr) (counting live t (addr + k)))

-- the first byte that has no Read
abbrev pub missing_fault_in : ℕ → Option ℕ → Option Fault
missing_fault_in addr None = None
missing_fault_in addr (Some k) = Some (fault.MissingRead (addr + k))

-- the first byte that has another Read
abbrev pub torn_fault_in : ℕ → Option ℕ → Option Fault
torn_fault_in addr None = None
torn_fault_in addr (Some k) = Some (fault.TornRead (addr + k))

-- each of these bytes has a Read
abbrev pub reads_missing : List OpenReport → ℕ → ℕ → ℕ → Option Fault
reads_missing live t addr len = missing_fault_in addr (first_below (is_missing live t addr) len)

-- these bytes have one Read
abbrev pub reads_torn : List OpenReport → ℕ → ℕ → ℕ → Option Fault
reads_torn live t addr len = torn_fault_in addr (first_below (is_torn live t addr) len)

-- each byte of a load, an LR or an AMO has a Read
abbrev pub missing_fault_of : List OpenReport → ℕ → Doing → Option Fault
missing_fault_of live t (trap cause value) = None
missing_fault_of live t (plain i) = None
missing_fault_of live t (counter i) = None
missing_fault_of live t (load i addr len) = reads_missing live t addr len
missing_fault_of live t (store i addr len) = None
missing_fault_of live t (lr i addr len) = reads_missing live t addr len
missing_fault_of live t (sc i addr len) = None
missing_fault_of live t (amo i addr len) = reads_missing live t addr len

-- the bytes of an aligned load, of an LR or of an AMO have one Read
abbrev pub torn_fault_of : List OpenReport → ℕ → Doing → Option Fault
torn_fault_of live t (trap cause value) = None
torn_fault_of live t (plain i) = None
torn_fault_of live t (counter i) = None
torn_fault_of live t (load i addr len) = if addr % len == 0 then reads_torn live t addr len else None
torn_fault_of live t (store i addr len) = None
torn_fault_of live t (lr i addr len) = reads_torn live t addr len
torn_fault_of live t (sc i addr len) = None
torn_fault_of live t (amo i addr len) = reads_torn live t addr len

-- ---- the Bypass of an AMO or SC

-- the instruction is an AMO
abbrev pub does_amo : Doing → Bool
does_amo (trap cause value) = false
does_amo (plain i) = false
does_amo (counter i) = false
does_amo (load i addr len) = false
does_amo (store i addr len) = false
does_amo (lr i addr len) = false
does_amo (sc i addr len) = false
does_amo (amo i addr len) = true

-- an AMO has an early Bypass
abbrev pub bypass_fault_of : Option OpenReport → Doing → Option Fault
bypass_fault_of bypass doing = if does_amo doing && not (is_some bypass) then Some fault.MissingBypass else None

-- the byte that differs
abbrev pub amo_fault_in : ℕ → Piece → Piece → Option ℕ → Option Fault
amo_fault_in addr result got None = None
amo_fault_in addr result got (Some k) =
    Some (fault.AmoData (addr + k) (byte_in result (addr + k)) (byte_in got (addr + k)))

-- the first of these bytes that isn't the result's
abbrev pub amo_fault : ℕ → ℕ → Option Piece → Option OpenReport → Option Fault
amo_fault addr len None bypass = None
amo_fault addr len (Some result) None = None
amo_fault addr len (Some result) (Some bypass) =
    amo_fault_in addr result bypass.piece (first_other (byte_in result) (byte_in bypass.piece) addr len)

-- the Bypass of an AMO or SC has the bytes that the instruction stores
unfoldable pub amo_fault_of : Doing → Option Piece → Option OpenReport → Option Fault
amo_fault_of (trap cause value) result bypass = None
amo_fault_of (plain i) result bypass = None
amo_fault_of (counter i) result bypass = None
amo_fault_of (load i addr len) result bypass = None
amo_fault_of (store i addr len) result bypass = None
amo_fault_of (lr i addr len) result bypass = None
amo_fault_of (sc i addr len) result bypass = amo_fault addr len result bypass
amo_fault_of (amo i addr len) result bypass = amo_fault addr len result bypass

-- ---- the register

-- what is wanted of a counter, a failed SC, and all else, in the register that the model writes
abbrev pub want_of : Doing → Bool → Clocks → RdValue → RdWant
want_of (trap cause value) stored clocks rd = want.Value rd
want_of (plain i) stored clocks rd = want.Value rd
want_of (counter i) stored clocks rd =
    want.AtLeast (record { number = rd.number; value = clock_at (csr_number i) clocks })
want_of (load i addr len) stored clocks rd = want.Value rd
want_of (store i addr len) stored clocks rd = want.Value rd
want_of (lr i addr len) stored clocks rd = want.Value rd
want_of (sc i addr len) stored clocks rd = if stored then want.Value rd else want.Nonzero rd.number
want_of (amo i addr len) stored clocks rd = want.Value rd

-- what is wanted of the register that the model writes, if it writes one
abbrev pub rd_want_of : Doing → Bool → Clocks → Option RdValue → RdWant
rd_want_of doing stored clocks None = want.Absent
rd_want_of doing stored clocks (Some rd) = want_of doing stored clocks rd

-- the register and its value are what is wanted
unfoldable pub register_fault_of : Doing → Bool → Clocks → Option RdValue → Option RdValue → Option Fault
register_fault_of doing stored clocks rd got = rd_fault_of (rd_want_of doing stored clocks rd) got

-- ---- pairs

-- the bytes are all among those of the LR
abbrev pub is_in_pair : ℕ → ℕ → Option Pair → Bool
is_in_pair addr len None = false
is_in_pair addr len (Some pair) = nat_le pair.addr addr && nat_le (addr + len) (pair.addr + pair.len)

-- a successful SC has a pair, which has its bytes
abbrev pub pair_fault_of : Option Pair → Bool → Doing → Option Fault
pair_fault_of pair stored (trap cause value) = None
pair_fault_of pair stored (plain i) = None
pair_fault_of pair stored (counter i) = None
pair_fault_of pair stored (load i addr len) = None
pair_fault_of pair stored (store i addr len) = None
pair_fault_of pair stored (lr i addr len) = None
pair_fault_of pair stored (sc i addr len) = if stored && not (is_in_pair addr len pair) then Some fault.ScPair else None
pair_fault_of pair stored (amo i addr len) = None

-- ---- the order

-- The faults of what an instruction did, in their order.
unfoldable pub effect_fault_in : Run → Retire → Doing → Effect → Option OpenReport → Option Fault
effect_fault_in run retire doing effect bypass =
    next_fault_of effect.next retire.next
    or_else register_fault_of doing (is_some bypass) run.clocks effect.rd retire.rd
    or_else csr_fault_of effect.csrs retire.csrs
    or_else amo_fault_of doing effect.store bypass
    or_else pair_fault_of run.pair (is_some bypass) doing

-- The faults of what an instruction loaded and did, in their order: the live Reads of its hart are these.
abbrev pub loaded_fault_in : Run → List OpenReport → Head → Retire → Doing → Effect → Option OpenReport → Option Fault
loaded_fault_in run live head retire doing effect bypass =
    missing_fault_of live head.tag doing
    or_else torn_fault_of live head.tag doing
    or_else bypass_fault_of bypass doing
    or_else effect_fault_in run retire doing effect bypass

-- The faults of a Retire but that of its tag, in their order: the hart is so before it, its live Reads and all early
-- Bypasses are these, and the model has this plan, this effect and this Bypass.
unfoldable pub retire_fault_in : Run → List OpenReport → List OpenReport → Head → Retire → PlanOf → Effect
    → Option OpenReport
    → Option Fault
retire_fault_in run live early head retire plan effect bypass =
    stray_fault_of (lowest_stray plan.doing head.hart head.tag early)
    or_else pc_fault_of run.hart.pc retire.pc
    or_else word_fault_of plan.word retire.word
    or_else trap_fault_of effect.trap retire.trap
    or_else loaded_fault_in run live head retire plan.doing effect bypass
