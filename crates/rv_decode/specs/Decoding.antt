-- What each word encodes: the listings of chapter 24, read by the opcode and then by the other fields.
use Rattle.std.specs.Prelude.{ℕ, ◌+◌, ◌*◌, ◌^◌, ◌==◌, ℤ, pos, Bool, true, false, ◌&&◌}
use Rattle.std.specs.Prelude.{if◌then◌else◌, List, [], ◌∷◌, find, Option, None, Some, option_map, option_and_then}
use Rattle.tandem_base.specs.Signs.{represents}
use Rattle.rv_decode.specs.Formats.{part}
use Rattle.rv_decode.specs.declared.rows.Row.{Row}
use Rattle.rv_decode.specs.Operations.{row, branch_funct3, load_funct3, store_funct3, reg_row, csr_funct3}
use Rattle.rv_decode.specs.Operations.{amo_funct5, atomic_funct3}
use Rattle.rv_decode.specs.declared.operations.BranchOp.{BranchOp}
use Rattle.rv_decode.specs.declared.operations.BranchOp.TheVariants.{Beq, Bne, Blt, Bge, Bltu, Bgeu}
use Rattle.rv_decode.specs.declared.operations.LoadOp.{LoadOp}
use Rattle.rv_decode.specs.declared.operations.LoadOp.TheVariants.{Lb, Lh, Lw, Ld, Lbu, Lhu, Lwu}
use Rattle.rv_decode.specs.declared.operations.StoreOp.{StoreOp}
use Rattle.rv_decode.specs.declared.operations.StoreOp.TheVariants.{Sb, Sh, Sw, Sd}
use Rattle.rv_decode.specs.declared.operations.ImmOp.TheVariants.{Addi, Slti, Sltiu, Xori, Ori, Andi, Slli, Srli, Srai}
use Rattle.rv_decode.specs.declared.operations.ImmOp.TheVariants.{Addiw, Slliw, Srliw, Sraiw}
use Rattle.rv_decode.specs.declared.operations.RegOp.{RegOp}
use Rattle.rv_decode.specs.declared.operations.RegOp.TheVariants.{Add, Sub, Sll, Slt, Sltu, Xor, Srl, Sra, Or, And, Mul}
use Rattle.rv_decode.specs.declared.operations.RegOp.TheVariants.{Mulh, Mulhsu, Mulhu, Div, Divu, Rem, Remu, Addw, Subw}
use Rattle.rv_decode.specs.declared.operations.RegOp.TheVariants.{Sllw, Srlw, Sraw, Mulw, Divw, Divuw, Remw, Remuw}
use Rattle.rv_decode.specs.declared.operations.CsrOp.{CsrOp}
use Rattle.rv_decode.specs.declared.operations.CsrOp.TheVariants.{Rw, Rs, Rc, Rwi, Rsi, Rci}
use Rattle.rv_decode.specs.declared.operations.AmoOp.{AmoOp}
use Rattle.rv_decode.specs.declared.operations.AmoOp.TheVariants as amo
use Rattle.rv_decode.specs.declared.instruction.Insn.{Insn}
use Rattle.rv_decode.specs.declared.instruction.Insn.TheVariants.{Lui, Auipc, Jal, Jalr, Branch, Load, Store, AluImm}
use Rattle.rv_decode.specs.declared.instruction.Insn.TheVariants.{Alu, Fence, Ecall, Ebreak, Mret, Wfi, Csr, Lr, Sc}
use Rattle.rv_decode.specs.declared.instruction.Insn.TheVariants.{Amo}

-- ---- the fields (sections 2.2 and 2.3)

-- the opcode
abbrev pub opcode_field : ℕ → ℕ
opcode_field word = part word 6 0

-- the number of rd
abbrev pub rd_field : ℕ → ℕ
rd_field word = part word 11 7

-- funct3
abbrev pub funct3_field : ℕ → ℕ
funct3_field word = part word 14 12

-- the number of rs1
abbrev pub rs1_field : ℕ → ℕ
rs1_field word = part word 19 15

-- the number of rs2
abbrev pub rs2_field : ℕ → ℕ
rs2_field word = part word 24 20

-- funct7
abbrev pub funct7_field : ℕ → ℕ
funct7_field word = part word 31 25

-- the upper six bits of funct7, of a shift on 64 bits
abbrev pub funct6_field : ℕ → ℕ
funct6_field word = part word 31 26

-- the upper five bits of funct7, of an atomic instruction
abbrev pub funct5_field : ℕ → ℕ
funct5_field word = part word 31 27

-- acquire
abbrev pub aq_bit : ℕ → Bool
aq_bit word = part word 26 26 == 1

-- release
abbrev pub rl_bit : ℕ → Bool
rl_bit word = part word 25 25 == 1

-- the immediate of the I-type
abbrev pub i_imm : ℕ → ℤ
i_imm word = represents 12 (part word 31 20)

-- that of the S-type
abbrev pub s_imm : ℕ → ℤ
s_imm word = represents 12 (part word 31 25 * 2 ^ 5 + part word 11 7)

-- that of the B-type
abbrev pub b_imm : ℕ → ℤ
b_imm word =
    represents 13
    (part word 31 31 * 2 ^ 12 + part word 7 7 * 2 ^ 11 + part word 30 25 * 2 ^ 5 + part word 11 8 * 2)

-- that of the U-type
abbrev pub u_imm : ℕ → ℤ
u_imm word = represents 32 (part word 31 12 * 2 ^ 12)

-- that of the J-type
abbrev pub j_imm : ℕ → ℤ
j_imm word =
    represents 21
    (part word 31 31 * 2 ^ 20 + part word 19 12 * 2 ^ 12 + part word 20 20 * 2 ^ 11 + part word 30 21 * 2)

-- ---- the operations of each form, by the columns of the listings

-- the branches
abbrev pub listed_branch_ops : List BranchOp
listed_branch_ops = Beq ∷ Bne ∷ Blt ∷ Bge ∷ Bltu ∷ Bgeu ∷ []

-- the one with this field
abbrev pub branch_at : ℕ → Option BranchOp
branch_at funct3 = find (λ op. branch_funct3 op == funct3) listed_branch_ops

-- the loads
abbrev pub listed_load_ops : List LoadOp
listed_load_ops = Lb ∷ Lh ∷ Lw ∷ Ld ∷ Lbu ∷ Lhu ∷ Lwu ∷ []

-- the one with this field
abbrev pub load_at : ℕ → Option LoadOp
load_at funct3 = find (λ op. load_funct3 op == funct3) listed_load_ops

-- the stores
abbrev pub listed_store_ops : List StoreOp
listed_store_ops = Sb ∷ Sh ∷ Sw ∷ Sd ∷ []

-- the one with this field
abbrev pub store_at : ℕ → Option StoreOp
store_at funct3 = find (λ op. store_funct3 op == funct3) listed_store_ops

-- the CSR instructions
abbrev pub listed_csr_ops : List CsrOp
listed_csr_ops = Rw ∷ Rs ∷ Rc ∷ Rwi ∷ Rsi ∷ Rci ∷ []

-- the one with this field
abbrev pub csr_at : ℕ → Option CsrOp
csr_at funct3 = find (λ op. csr_funct3 op == funct3) listed_csr_ops

-- the atomic operations
abbrev pub listed_amo_ops : List AmoOp
listed_amo_ops = amo.Swap ∷ amo.Add ∷ amo.Xor ∷ amo.And ∷ amo.Or ∷ amo.Min ∷ amo.Max ∷ amo.Minu ∷ amo.Maxu ∷ []

-- the one with this field
abbrev pub amo_at : ℕ → Option AmoOp
amo_at funct5 =
    find (λ op. amo_funct5 op == funct5)
    listed_amo_ops

-- words, and doublewords
abbrev pub widths : List Bool
widths = false ∷ true ∷ []

-- the one with this field
abbrev pub width_at : ℕ → Option Bool
width_at funct3 = find (λ wide. atomic_funct3 wide == funct3) widths

-- two lines of the listing are one
abbrev pub same_row : Row → Row → Bool
same_row a b = (a.funct7 == b.funct7) && (a.funct3 == b.funct3) && (a.opcode == b.opcode)

-- the operations on registers
abbrev pub listed_reg_ops : List RegOp
listed_reg_ops =
    Add ∷ Sub ∷ Sll ∷ Slt ∷ Sltu ∷ Xor ∷ Srl ∷ Sra ∷ Or ∷ And
    ∷ Mul ∷ Mulh ∷ Mulhsu ∷ Mulhu ∷ Div ∷ Divu ∷ Rem ∷ Remu
    ∷ Addw ∷ Subw ∷ Sllw ∷ Srlw ∷ Sraw ∷ Mulw ∷ Divw ∷ Divuw ∷ Remw ∷ Remuw ∷ []

-- the one of this line
abbrev pub reg_at : Row → Option RegOp
reg_at line = find (λ op. same_row (reg_row op) line) listed_reg_ops

-- ---- the words of each opcode

-- JALR
abbrev pub as_jalr : ℕ → Option Insn
as_jalr word = if funct3_field word == 0b000 then Some (Jalr (rd_field word) (rs1_field word) (i_imm word)) else None

-- the branches
abbrev pub as_branch : ℕ → Option Insn
as_branch word =
    option_map (λ op. Branch op (rs1_field word) (rs2_field word) (b_imm word)) (branch_at (funct3_field word))

-- the loads
abbrev pub as_load : ℕ → Option Insn
as_load word = option_map (λ op. Load op (rd_field word) (rs1_field word) (i_imm word)) (load_at (funct3_field word))

-- the stores
abbrev pub as_store : ℕ → Option Insn
as_store word =
    option_map (λ op. Store op (rs1_field word) (rs2_field word) (s_imm word)) (store_at (funct3_field word))

-- the operations on an immediate of 64 bits; the shift amount has 6 bits
abbrev pub as_alu_imm : ℕ → Option Insn
as_alu_imm word =
    let funct3 = funct3_field word in
    let shift = pos (part word 25 20) in
    if funct3 == 0b000 then Some (AluImm Addi (rd_field word) (rs1_field word) (i_imm word))
    else if funct3 == 0b010 then Some (AluImm Slti (rd_field word) (rs1_field word) (i_imm word))
    else if funct3 == 0b011 then Some (AluImm Sltiu (rd_field word) (rs1_field word) (i_imm word))
    else if funct3 == 0b100 then Some (AluImm Xori (rd_field word) (rs1_field word) (i_imm word))
    else if funct3 == 0b110 then Some (AluImm Ori (rd_field word) (rs1_field word) (i_imm word))
    else if funct3 == 0b111 then Some (AluImm Andi (rd_field word) (rs1_field word) (i_imm word))
    else if (funct6_field word == 0b000000) && (funct3 == 0b001)
    then Some (AluImm Slli (rd_field word) (rs1_field word) shift)
    else if (funct6_field word == 0b000000) && (funct3 == 0b101)
    then Some (AluImm Srli (rd_field word) (rs1_field word) shift)
    else if (funct6_field word == 0b010000) && (funct3 == 0b101)
    then Some (AluImm Srai (rd_field word) (rs1_field word) shift)
    else None

-- the same on the low 32 bits; the shift amount has 5 bits
abbrev pub as_alu_imm_word : ℕ → Option Insn
as_alu_imm_word word =
    let funct3 = funct3_field word in
    let shift = pos (rs2_field word) in
    if funct3 == 0b000 then Some (AluImm Addiw (rd_field word) (rs1_field word) (i_imm word))
    else if (funct7_field word == 0b0000000) && (funct3 == 0b001)
    then Some (AluImm Slliw (rd_field word) (rs1_field word) shift)
    else if (funct7_field word == 0b0000000) && (funct3 == 0b101)
    then Some (AluImm Srliw (rd_field word) (rs1_field word) shift)
    else if (funct7_field word == 0b0100000) && (funct3 == 0b101)
    then Some (AluImm Sraiw (rd_field word) (rs1_field word) shift)
    else None

-- the operations on registers, of 64 bits or of 32
abbrev pub as_alu : ℕ → ℕ → Option Insn
as_alu opcode word =
    option_map (λ op. Alu op (rd_field word) (rs1_field word) (rs2_field word))
    (reg_at (row (funct7_field word) (funct3_field word) opcode))

-- FENCE
abbrev pub as_fence : ℕ → Option Insn
as_fence word =
    if funct3_field word == 0b000
    then Some (Fence (part word 31 28) (part word 27 24) (part word 23 20) (rd_field word) (rs1_field word))
    else None

-- the CSR instructions
abbrev pub as_csr : ℕ → Option Insn
as_csr word =
    option_map (λ op. Csr op (rd_field word) (rs1_field word) (part word 31 20)) (csr_at (funct3_field word))

-- the calls of the environment, MRET, WFI and the CSR instructions
abbrev pub as_system : ℕ → Option Insn
as_system word =
    if word == 0x00000073 then Some Ecall
    else if word == 0x00100073 then Some Ebreak
    else if word == 0x30200073 then Some Mret
    else if word == 0x10500073 then Some Wfi
    else as_csr word

-- LR, SC and the atomic operations, on words or on doublewords
abbrev pub as_atomic_of : ℕ → Bool → Option Insn
as_atomic_of word wide =
    if (funct5_field word == 0b00010) && (rs2_field word == 0)
    then Some (Lr wide (aq_bit word) (rl_bit word) (rd_field word) (rs1_field word))
    else if funct5_field word == 0b00011
    then Some (Sc wide (aq_bit word) (rl_bit word) (rd_field word) (rs1_field word) (rs2_field word))
    else
    option_map (λ op. Amo op wide (aq_bit word) (rl_bit word) (rd_field word) (rs1_field word) (rs2_field word))
    (amo_at (funct5_field word))

-- the atomic instructions
abbrev pub as_atomic : ℕ → Option Insn
as_atomic word = option_and_then (as_atomic_of word) (width_at (funct3_field word))

-- the instruction of a word, by its opcode
unfoldable pub decoding : ℕ → Option Insn
decoding word =
    if opcode_field word == 0b0110111 then Some (Lui (rd_field word) (u_imm word))
    else if opcode_field word == 0b0010111 then Some (Auipc (rd_field word) (u_imm word))
    else if opcode_field word == 0b1101111 then Some (Jal (rd_field word) (j_imm word))
    else if opcode_field word == 0b1100111 then as_jalr word
    else if opcode_field word == 0b1100011 then as_branch word
    else if opcode_field word == 0b0000011 then as_load word
    else if opcode_field word == 0b0100011 then as_store word
    else if opcode_field word == 0b0010011 then as_alu_imm word
    else if opcode_field word == 0b0011011 then as_alu_imm_word word
    else if opcode_field word == 0b0110011 then as_alu 0b0110011 word
    else if opcode_field word == 0b0111011 then as_alu 0b0111011 word
    else if opcode_field word == 0b0001111 then as_fence word
    else if opcode_field word == 0b1110011 then as_system word
    else if opcode_field word == 0b0101111 then as_atomic word
    else None
