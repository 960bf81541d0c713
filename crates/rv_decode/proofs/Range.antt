-- Each word has 32 bits.
use Rattle.std.proofs.Common.{◌↔◌, ℕ, ◌^◌, ◌<◌, ℤ, pos, negsuc, Bool, true, false, refl, arith}
use Rattle.rv_decode.specs.Formats.{twos_complement, bit_of, IsAmount}
use Rattle.rv_decode.specs.Operations.{imm_word, IsOperand, reg_row, branch_funct3, load_funct3, store_funct3}
use Rattle.rv_decode.specs.Operations.{csr_funct3, amo_funct5, atomic_funct3}
use Rattle.rv_decode.specs.Listing.{Encodes, encoding, IsInsn}
use Rattle.rv_decode.specs.declared.operations.BranchOp.{BranchOp}
use Rattle.rv_decode.specs.declared.operations.BranchOp.TheVariants as branch
use Rattle.rv_decode.specs.declared.operations.LoadOp.{LoadOp}
use Rattle.rv_decode.specs.declared.operations.LoadOp.TheVariants as load
use Rattle.rv_decode.specs.declared.operations.StoreOp.{StoreOp}
use Rattle.rv_decode.specs.declared.operations.StoreOp.TheVariants as store
use Rattle.rv_decode.specs.declared.operations.ImmOp.{ImmOp}
use Rattle.rv_decode.specs.declared.operations.ImmOp.TheVariants as imm_op
use Rattle.rv_decode.specs.declared.operations.RegOp.{RegOp}
use Rattle.rv_decode.specs.declared.operations.RegOp.TheVariants as reg_op
use Rattle.rv_decode.specs.declared.operations.CsrOp.{CsrOp}
use Rattle.rv_decode.specs.declared.operations.CsrOp.TheVariants as csr
use Rattle.rv_decode.specs.declared.operations.AmoOp.{AmoOp}
use Rattle.rv_decode.specs.declared.operations.AmoOp.TheVariants as amo
use Rattle.rv_decode.specs.declared.instruction.Insn.{Insn}
use Rattle.rv_decode.specs.declared.instruction.Insn.TheVariants.{Lui, Auipc, Jal, Jalr, Branch, Load, Store, AluImm}
use Rattle.rv_decode.specs.declared.instruction.Insn.TheVariants.{Alu, Fence, Ecall, Ebreak, Mret, Wfi, Csr, Lr, Sc}
use Rattle.rv_decode.specs.declared.instruction.Insn.TheVariants.{Amo}

pub branch_funct3-lt : (op : BranchOp) → branch_funct3 op < 8
branch_funct3-lt branch.Beq = omega arith
branch_funct3-lt _ = omega arith

pub load_funct3-lt : (op : LoadOp) → load_funct3 op < 8
load_funct3-lt load.Lb = omega arith
load_funct3-lt _ = omega arith

pub store_funct3-lt : (op : StoreOp) → store_funct3 op < 8
store_funct3-lt store.Sb = omega arith
store_funct3-lt _ = omega arith

pub csr_funct3-lt : (op : CsrOp) → csr_funct3 op < 8
csr_funct3-lt csr.Rw = omega arith
csr_funct3-lt _ = omega arith

pub amo_funct5-lt : (op : AmoOp) → amo_funct5 op < 32
amo_funct5-lt amo.Swap = omega arith
amo_funct5-lt _ = omega arith

pub atomic_funct3-lt : (wide : Bool) → atomic_funct3 wide < 8
atomic_funct3-lt false = omega arith
atomic_funct3-lt true = omega arith

pub bit-lt : (b : Bool) → bit_of b < 2
bit-lt false = omega arith
bit-lt true = omega arith

-- the columns of an operation on registers fit their fields
pub reg_row-lt : (op : RegOp) → ((reg_row op).funct7 < 128) × ((reg_row op).funct3 < 8) × ((reg_row op).opcode < 128)
reg_row-lt reg_op.Add = (omega arith, omega arith, omega arith)
reg_row-lt _ = (omega arith, omega arith, omega arith)

pub amount-lt_6 : (imm : ℤ) → IsAmount 6 imm → twos_complement 6 imm < 64
amount-lt_6 (pos n) h = h
amount-lt_6 (negsuc n) h = absurd h

pub amount-lt_5 : (imm : ℤ) → IsAmount 5 imm → twos_complement 5 imm < 32
amount-lt_5 (pos n) h = h
amount-lt_5 (negsuc n) h = absurd h

imm_word-lt : (op : ImmOp) (imm : ℤ) (rs1 rd : ℕ) → IsOperand op imm → rs1 < 32 → rd < 32 → imm_word op imm rs1 rd
    < 2 ^ 32
imm_word-lt imm_op.Addi imm rs1 rd h x y = omega arith
imm_word-lt imm_op.Slti imm rs1 rd h x y = omega arith
imm_word-lt imm_op.Sltiu imm rs1 rd h x y = omega arith
imm_word-lt imm_op.Xori imm rs1 rd h x y = omega arith
imm_word-lt imm_op.Ori imm rs1 rd h x y = omega arith
imm_word-lt imm_op.Andi imm rs1 rd h x y = omega arith
imm_word-lt imm_op.Slli imm rs1 rd h x y = omega (arith, amount-lt_6 imm h)
imm_word-lt imm_op.Srli imm rs1 rd h x y = omega (arith, amount-lt_6 imm h)
imm_word-lt imm_op.Srai imm rs1 rd h x y = omega (arith, amount-lt_6 imm h)
imm_word-lt imm_op.Addiw imm rs1 rd h x y = omega arith
imm_word-lt imm_op.Slliw imm rs1 rd h x y = omega (arith, amount-lt_5 imm h)
imm_word-lt imm_op.Srliw imm rs1 rd h x y = omega (arith, amount-lt_5 imm h)
imm_word-lt imm_op.Sraiw imm rs1 rd h x y = omega (arith, amount-lt_5 imm h)

pub encoding-lt : (i : Insn) → IsInsn i → encoding i < 2 ^ 32
encoding-lt (Lui rd imm) h = omega (arith, h.0)
encoding-lt (Auipc rd imm) h = omega (arith, h.0)
encoding-lt (Jal rd imm) h = omega (arith, h.0)
encoding-lt (Jalr rd rs1 imm) h = omega (arith, h.0, h.1)
encoding-lt (Branch op rs1 rs2 imm) h = omega (arith, h.0, h.1, branch_funct3-lt op)
encoding-lt (Load op rd rs1 imm) h = omega (arith, h.0, h.1, load_funct3-lt op)
encoding-lt (Store op rs1 rs2 imm) h = omega (arith, h.0, h.1, store_funct3-lt op)
encoding-lt (AluImm op rd rs1 imm) h = imm_word-lt op imm rs1 rd h.2 h.1 h.0
encoding-lt (Alu op rd rs1 rs2) h = let r = reg_row-lt op in omega (arith, h.0, h.1, h.2, r.0, r.1, r.2)
encoding-lt (Fence fm pred succ rd rs1) h = omega (arith, h.0, h.1, h.2, h.3, h.4)
encoding-lt Ecall h = omega arith
encoding-lt Ebreak h = omega arith
encoding-lt Mret h = omega arith
encoding-lt Wfi h = omega arith
encoding-lt (Csr op rd source number) h = omega (arith, h.0, h.1, h.2, csr_funct3-lt op)
encoding-lt (Lr wide aq rl rd rs1) h = omega (arith, h.0, h.1, bit-lt aq, bit-lt rl, atomic_funct3-lt wide)
encoding-lt (Sc wide aq rl rd rs1 rs2) h = omega (arith, h.0, h.1, h.2, bit-lt aq, bit-lt rl, atomic_funct3-lt wide)
encoding-lt (Amo op wide aq rl rd rs1 rs2) h =
    omega (arith, h.0, h.1, h.2, bit-lt aq, bit-lt rl, atomic_funct3-lt wide, amo_funct5-lt op)

-- the parts of an instruction fit exactly where some word of 32 bits is its word
pub has_word : (i : Insn) → IsInsn i ↔ ((w : ℕ) × (w < 2 ^ 32) × Encodes w i)
has_word i = (λ h. (encoding i, encoding-lt i h, record { is = refl; fits = h }), λ x. x.2.fits)
