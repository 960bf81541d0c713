-- What tells the operations of one form apart: the columns of the listings of chapter 24.
use Rattle.std.specs.Prelude.{ℕ, ℤ, Bool, true, false}
use Rattle.rv_decode.specs.Formats.{twos_complement, IsSigned, IsAmount, i_type, r_type, shift_type}
use Rattle.rv_decode.specs.declared.rows.Row.{Row}
use Rattle.rv_decode.specs.declared.operations.BranchOp.{BranchOp}
use Rattle.rv_decode.specs.declared.operations.BranchOp.TheVariants.{Beq, Bne, Blt, Bge, Bltu, Bgeu}
use Rattle.rv_decode.specs.declared.operations.LoadOp.{LoadOp}
use Rattle.rv_decode.specs.declared.operations.LoadOp.TheVariants.{Lb, Lh, Lw, Ld, Lbu, Lhu, Lwu}
use Rattle.rv_decode.specs.declared.operations.StoreOp.{StoreOp}
use Rattle.rv_decode.specs.declared.operations.StoreOp.TheVariants.{Sb, Sh, Sw, Sd}
use Rattle.rv_decode.specs.declared.operations.ImmOp.{ImmOp}
use Rattle.rv_decode.specs.declared.operations.ImmOp.TheVariants.{Addi, Slti, Sltiu, Xori, Ori, Andi, Slli, Srli, Srai}
use Rattle.rv_decode.specs.declared.operations.ImmOp.TheVariants.{Addiw, Slliw, Srliw, Sraiw}
use Rattle.rv_decode.specs.declared.operations.RegOp.{RegOp}
use Rattle.rv_decode.specs.declared.operations.RegOp.TheVariants.{Add, Sub, Sll, Slt, Sltu, Xor, Srl, Sra, Or, And, Mul}
use Rattle.rv_decode.specs.declared.operations.RegOp.TheVariants.{Mulh, Mulhsu, Mulhu, Div, Divu, Rem, Remu, Addw, Subw}
use Rattle.rv_decode.specs.declared.operations.RegOp.TheVariants.{Sllw, Srlw, Sraw, Mulw, Divw, Divuw, Remw, Remuw}
use Rattle.rv_decode.specs.declared.operations.CsrOp.{CsrOp}
use Rattle.rv_decode.specs.declared.operations.CsrOp.TheVariants.{Rw, Rs, Rc, Rwi, Rsi, Rci}
use Rattle.rv_decode.specs.declared.operations.AmoOp.{AmoOp}
use Rattle.rv_decode.specs.declared.operations.AmoOp.TheVariants as amo

-- funct3 of the branches
abbrev pub branch_funct3 : BranchOp → ℕ
branch_funct3 Beq = 0b000
branch_funct3 Bne = 0b001
branch_funct3 Blt = 0b100
branch_funct3 Bge = 0b101
branch_funct3 Bltu = 0b110
branch_funct3 Bgeu = 0b111

-- funct3 of the loads
abbrev pub load_funct3 : LoadOp → ℕ
load_funct3 Lb = 0b000
load_funct3 Lh = 0b001
load_funct3 Lw = 0b010
load_funct3 Ld = 0b011
load_funct3 Lbu = 0b100
load_funct3 Lhu = 0b101
load_funct3 Lwu = 0b110

-- funct3 of the stores
abbrev pub store_funct3 : StoreOp → ℕ
store_funct3 Sb = 0b000
store_funct3 Sh = 0b001
store_funct3 Sw = 0b010
store_funct3 Sd = 0b011

-- what stands where an operation on an immediate has it: 12 signed bits; or, under funct6 or funct7, the amount of a
-- shift on 64 bits, which has 6 bits, or on words, which has 5
pub data ImmField : Type 0 where
  signed_12 : ImmField
  amount_6 : (funct6 : ℕ) → ImmField
  amount_5 : (funct7 : ℕ) → ImmField

-- the three columns of an operation on an immediate
pub record ImmRow : Type 0 where
  pub imm : ImmField
  pub funct3 : ℕ
  pub opcode : ℕ

-- a line of the listing
abbrev pub imm_line : ImmField → ℕ → ℕ → ImmRow
imm_line imm funct3 opcode = record { imm = imm; funct3 = funct3; opcode = opcode }

-- the operations on an immediate
abbrev pub imm_row : ImmOp → ImmRow
imm_row Addi = imm_line signed_12 0b000 0b0010011
imm_row Slti = imm_line signed_12 0b010 0b0010011
imm_row Sltiu = imm_line signed_12 0b011 0b0010011
imm_row Xori = imm_line signed_12 0b100 0b0010011
imm_row Ori = imm_line signed_12 0b110 0b0010011
imm_row Andi = imm_line signed_12 0b111 0b0010011
imm_row Slli = imm_line (amount_6 0b000000) 0b001 0b0010011
imm_row Srli = imm_line (amount_6 0b000000) 0b101 0b0010011
imm_row Srai = imm_line (amount_6 0b010000) 0b101 0b0010011
imm_row Addiw = imm_line signed_12 0b000 0b0011011
imm_row Slliw = imm_line (amount_5 0b0000000) 0b001 0b0011011
imm_row Srliw = imm_line (amount_5 0b0000000) 0b101 0b0011011
imm_row Sraiw = imm_line (amount_5 0b0100000) 0b101 0b0011011

-- the immediates that the field holds
abbrev pub IsHeld : ImmField → ℤ → Type 0
IsHeld signed_12 imm = IsSigned 12 imm
IsHeld (amount_6 funct6) imm = IsAmount 6 imm
IsHeld (amount_5 funct7) imm = IsAmount 5 imm

-- a word with the field
abbrev pub word_with : ImmField → ℤ → ℕ → ℕ → ℕ → ℕ → ℕ
word_with signed_12 imm rs1 funct3 rd opcode = i_type (twos_complement 12 imm) rs1 funct3 rd opcode
word_with (amount_6 funct6) imm rs1 funct3 rd opcode = shift_type funct6 (twos_complement 6 imm) rs1 funct3 rd opcode
word_with (amount_5 funct7) imm rs1 funct3 rd opcode = r_type funct7 (twos_complement 5 imm) rs1 funct3 rd opcode

-- the immediates of an operation
abbrev pub IsOperand : ImmOp → ℤ → Type 0
IsOperand op imm = IsHeld (imm_row op).imm imm

-- the word of an operation on an immediate, rs1 and rd
abbrev pub imm_word : ImmOp → ℤ → ℕ → ℕ → ℕ
imm_word op imm rs1 rd = word_with (imm_row op).imm imm rs1 (imm_row op).funct3 rd (imm_row op).opcode

-- a line of the listing: the three columns of an operation on registers
abbrev pub row : ℕ → ℕ → ℕ → Row
row funct7 funct3 opcode = record { funct7 = funct7; funct3 = funct3; opcode = opcode }

-- the operations on registers
abbrev pub reg_row : RegOp → Row
reg_row Add = row 0b0000000 0b000 0b0110011
reg_row Sub = row 0b0100000 0b000 0b0110011
reg_row Sll = row 0b0000000 0b001 0b0110011
reg_row Slt = row 0b0000000 0b010 0b0110011
reg_row Sltu = row 0b0000000 0b011 0b0110011
reg_row Xor = row 0b0000000 0b100 0b0110011
reg_row Srl = row 0b0000000 0b101 0b0110011
reg_row Sra = row 0b0100000 0b101 0b0110011
reg_row Or = row 0b0000000 0b110 0b0110011
reg_row And = row 0b0000000 0b111 0b0110011
reg_row Mul = row 0b0000001 0b000 0b0110011
reg_row Mulh = row 0b0000001 0b001 0b0110011
reg_row Mulhsu = row 0b0000001 0b010 0b0110011
reg_row Mulhu = row 0b0000001 0b011 0b0110011
reg_row Div = row 0b0000001 0b100 0b0110011
reg_row Divu = row 0b0000001 0b101 0b0110011
reg_row Rem = row 0b0000001 0b110 0b0110011
reg_row Remu = row 0b0000001 0b111 0b0110011
reg_row Addw = row 0b0000000 0b000 0b0111011
reg_row Subw = row 0b0100000 0b000 0b0111011
reg_row Sllw = row 0b0000000 0b001 0b0111011
reg_row Srlw = row 0b0000000 0b101 0b0111011
reg_row Sraw = row 0b0100000 0b101 0b0111011
reg_row Mulw = row 0b0000001 0b000 0b0111011
reg_row Divw = row 0b0000001 0b100 0b0111011
reg_row Divuw = row 0b0000001 0b101 0b0111011
reg_row Remw = row 0b0000001 0b110 0b0111011
reg_row Remuw = row 0b0000001 0b111 0b0111011

-- funct3 of the CSR instructions
abbrev pub csr_funct3 : CsrOp → ℕ
csr_funct3 Rw = 0b001
csr_funct3 Rs = 0b010
csr_funct3 Rc = 0b011
csr_funct3 Rwi = 0b101
csr_funct3 Rsi = 0b110
csr_funct3 Rci = 0b111

-- funct5 of the atomic operations
abbrev pub amo_funct5 : AmoOp → ℕ
amo_funct5 amo.Swap = 0b00001
amo_funct5 amo.Add = 0b00000
amo_funct5 amo.Xor = 0b00100
amo_funct5 amo.And = 0b01100
amo_funct5 amo.Or = 0b01000
amo_funct5 amo.Min = 0b10000
amo_funct5 amo.Max = 0b10100
amo_funct5 amo.Minu = 0b11000
amo_funct5 amo.Maxu = 0b11100

-- funct3 of the atomic instructions, on words or on doublewords
abbrev pub atomic_funct3 : Bool → ℕ
atomic_funct3 false = 0b010
atomic_funct3 true = 0b011
