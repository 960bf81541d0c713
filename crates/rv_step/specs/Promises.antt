-- What a plan says of the instruction that doesn't trap.
use Rattle.std.specs.Prelude.{ℕ, ◌≡◌, ◌%◌, Bool, true, false, not, IfSome}
use Rattle.std.specs.Prelude.{Option, Some, None, if◌then◌else◌}
use Rattle.tandem_base.specs.declared.extent.Extent.{Extent}
use Rattle.rv_decode.specs.Kinds.{is_load, is_store, is_lr, is_sc, is_amo}
use Rattle.rv_decode.specs.declared.instruction.Insn.{Insn}
use Rattle.rv_decode.specs.declared.instruction.Insn.TheVariants.{Lui, Auipc, Jal, Jalr, Branch, Load, Store, AluImm}
use Rattle.rv_decode.specs.declared.instruction.Insn.TheVariants.{Alu, Fence, Ecall, Ebreak, Mret, Wfi, Csr, Lr, Sc}
use Rattle.rv_decode.specs.declared.instruction.Insn.TheVariants.{Amo}
use Rattle.rv_step.specs.declared.plan.What.{What}
use Rattle.rv_step.specs.declared.plan.What.TheVariants as what
use Rattle.rv_step.specs.CsrUse.{is_legal_csr, is_counter}
use Rattle.rv_step.specs.Harts.{HartState, x_of, plus}
use Rattle.rv_step.specs.Integers.{is_taken, without_low_bit}
use Rattle.rv_step.specs.Plans.{access_size}
use Rattle.rv_step.specs.Steps.{Doing, trap, plain, counter, load, store, lr, sc, amo}

-- the instruction that is to be done, none of a trap
abbrev pub planned_insn : Doing → Option Insn
planned_insn (trap cause value) = None
planned_insn (plain insn) = Some insn
planned_insn (counter insn) = Some insn
planned_insn (load insn addr len) = Some insn
planned_insn (store insn addr len) = Some insn
planned_insn (lr insn addr len) = Some insn
planned_insn (sc insn addr len) = Some insn
planned_insn (amo insn addr len) = Some insn

-- the bytes that a plan accesses
abbrev pub planned_extent : What → Option Extent
planned_extent (what.Trap cause value) = None
planned_extent (what.Plain insn) = None
planned_extent (what.Counter insn) = None
planned_extent (what.Load insn extent) = Some extent
planned_extent (what.Store insn extent) = Some extent
planned_extent (what.Lr insn extent) = Some extent
planned_extent (what.Sc insn extent) = Some extent
planned_extent (what.Amo insn extent) = Some extent

-- a CSR instruction that reads cycle or time
abbrev pub reads_counter : Insn → Bool
reads_counter (Csr op rd source number) = is_counter number
reads_counter _ = false

-- ECALL or EBREAK
abbrev pub is_call : Insn → Bool
is_call Ecall = true
is_call Ebreak = true
is_call _ = false

-- an instruction that accesses no memory, calls no environment and needs nothing from outside
abbrev pub is_plain : Insn → Bool
is_plain (Lui rd imm) = true
is_plain (Auipc rd imm) = true
is_plain (Jal rd imm) = true
is_plain (Jalr rd rs1 imm) = true
is_plain (Branch op rs1 rs2 imm) = true
is_plain (Load op rd rs1 imm) = false
is_plain (Store op rs1 rs2 imm) = false
is_plain (AluImm op rd rs1 imm) = true
is_plain (Alu op rd rs1 rs2) = true
is_plain (Fence fm pred succ rd rs1) = true
is_plain Ecall = false
is_plain Ebreak = false
is_plain Mret = true
is_plain Wfi = true
is_plain (Csr op rd source number) = not (is_counter number)
is_plain (Lr wide aq rl rd rs1) = false
is_plain (Sc wide aq rl rd rs1 rs2) = false
is_plain (Amo op wide aq rl rd rs1 rs2) = false

-- the instruction is of the kind that is said, and an access has as many bytes as it covers
abbrev pub IsOfKind : Doing → Type 0
IsOfKind (trap cause value) = Unit {0}
IsOfKind (plain insn) = is_plain insn ≡ true
IsOfKind (counter insn) = reads_counter insn ≡ true
IsOfKind (load insn addr len) = (is_load insn ≡ true) × (len ≡ access_size insn)
IsOfKind (store insn addr len) = (is_store insn ≡ true) × (len ≡ access_size insn)
IsOfKind (lr insn addr len) = (is_lr insn ≡ true) × (len ≡ access_size insn)
IsOfKind (sc insn addr len) = (is_sc insn ≡ true) × (len ≡ access_size insn)
IsOfKind (amo insn addr len) = (is_amo insn ≡ true) × (len ≡ access_size insn)

-- LR, SC and AMO are aligned
abbrev pub IsAlignedAtomic : Doing → Type 0
IsAlignedAtomic (trap cause value) = Unit {0}
IsAlignedAtomic (plain insn) = Unit {0}
IsAlignedAtomic (counter insn) = Unit {0}
IsAlignedAtomic (load insn addr len) = Unit {0}
IsAlignedAtomic (store insn addr len) = Unit {0}
IsAlignedAtomic (lr insn addr len) = addr % len ≡ 0
IsAlignedAtomic (sc insn addr len) = addr % len ≡ 0
IsAlignedAtomic (amo insn addr len) = addr % len ≡ 0

-- a CSR instruction may use its CSR: it is there, and isn't a read-only one that is written
abbrev pub HasCsr : Insn → Type 0
HasCsr (Csr op rd source number) = is_legal_csr op source number ≡ true
HasCsr _ = Unit {0}

-- where a jump goes, and a branch that is taken
abbrev pub target_of : HartState → Insn → Option ℕ
target_of hart (Jal rd imm) = Some (plus hart.pc imm)
target_of hart (Jalr rd rs1 imm) = Some (without_low_bit (plus (x_of hart rs1) imm))
target_of hart (Branch op rs1 rs2 imm) =
    if is_taken op (x_of hart rs1) (x_of hart rs2) then Some (plus hart.pc imm) else None
target_of hart _ = None

-- it is a multiple of 4
abbrev pub IsTarget : HartState → Insn → Type 0
IsTarget hart insn = IfSome (target_of hart insn) (λ target. target % 4 ≡ 0)
