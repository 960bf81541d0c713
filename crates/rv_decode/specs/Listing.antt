-- The instruction words (chapter 24; MRET and WFI: Volume II, Privileged Instruction Set Listings).
use Rattle.std.specs.Prelude.{◌≡◌, ℕ, ◌^◌, ◌<◌}
use Rattle.rv_decode.specs.Formats.{twos_complement, IsSigned, IsMultiple, r_type, i_type, s_type, b_type}
use Rattle.rv_decode.specs.Formats.{u_type, j_type, a_type, fence_type}
use Rattle.rv_decode.specs.Operations.{branch_funct3, load_funct3, store_funct3, imm_word, IsOperand, reg_row}
use Rattle.rv_decode.specs.Operations.{csr_funct3, amo_funct5, atomic_funct3}
use Rattle.rv_decode.specs.declared.instruction.Insn.{Insn}
use Rattle.rv_decode.specs.declared.instruction.Insn.TheVariants.{Lui, Auipc, Jal, Jalr, Branch, Load, Store, AluImm}
use Rattle.rv_decode.specs.declared.instruction.Insn.TheVariants.{Alu, Fence, Ecall, Ebreak, Mret, Wfi, Csr, Lr, Sc}
use Rattle.rv_decode.specs.declared.instruction.Insn.TheVariants.{Amo}

-- the word of an instruction
abbrev pub encoding : Insn → ℕ
encoding (Lui rd imm) = u_type (twos_complement 32 imm) rd 0b0110111
encoding (Auipc rd imm) = u_type (twos_complement 32 imm) rd 0b0010111
encoding (Jal rd imm) = j_type (twos_complement 21 imm) rd 0b1101111
encoding (Jalr rd rs1 imm) = i_type (twos_complement 12 imm) rs1 0b000 rd 0b1100111
encoding (Branch op rs1 rs2 imm) = b_type (twos_complement 13 imm) rs2 rs1 (branch_funct3 op) 0b1100011
encoding (Load op rd rs1 imm) = i_type (twos_complement 12 imm) rs1 (load_funct3 op) rd 0b0000011
encoding (Store op rs1 rs2 imm) = s_type (twos_complement 12 imm) rs2 rs1 (store_funct3 op) 0b0100011
encoding (AluImm op rd rs1 imm) = imm_word op imm rs1 rd
encoding (Alu op rd rs1 rs2) = r_type (reg_row op).funct7 rs2 rs1 (reg_row op).funct3 rd (reg_row op).opcode
encoding (Fence fm pred succ rd rs1) = fence_type fm pred succ rs1 0b000 rd 0b0001111
encoding Ecall = 0x00000073
encoding Ebreak = 0x00100073
encoding Mret = 0x30200073
encoding Wfi = 0x10500073
encoding (Csr op rd source number) = i_type number source (csr_funct3 op) rd 0b1110011
encoding (Lr wide aq rl rd rs1) = a_type 0b00010 aq rl 0b00000 rs1 (atomic_funct3 wide) rd 0b0101111
encoding (Sc wide aq rl rd rs1 rs2) = a_type 0b00011 aq rl rs2 rs1 (atomic_funct3 wide) rd 0b0101111
encoding (Amo op wide aq rl rd rs1 rs2) = a_type (amo_funct5 op) aq rl rs2 rs1 (atomic_funct3 wide) rd 0b0101111

-- each part of the instruction fits its field
abbrev pub IsInsn : Insn → Type 0
IsInsn (Lui rd imm) = (rd < 32) × IsMultiple 32 12 imm
IsInsn (Auipc rd imm) = (rd < 32) × IsMultiple 32 12 imm
IsInsn (Jal rd imm) = (rd < 32) × IsMultiple 21 1 imm
IsInsn (Jalr rd rs1 imm) = (rd < 32) × (rs1 < 32) × IsSigned 12 imm
IsInsn (Branch op rs1 rs2 imm) = (rs1 < 32) × (rs2 < 32) × IsMultiple 13 1 imm
IsInsn (Load op rd rs1 imm) = (rd < 32) × (rs1 < 32) × IsSigned 12 imm
IsInsn (Store op rs1 rs2 imm) = (rs1 < 32) × (rs2 < 32) × IsSigned 12 imm
IsInsn (AluImm op rd rs1 imm) = (rd < 32) × (rs1 < 32) × IsOperand op imm
IsInsn (Alu op rd rs1 rs2) = (rd < 32) × (rs1 < 32) × (rs2 < 32)
IsInsn (Fence fm pred succ rd rs1) = (fm < 16) × (pred < 16) × (succ < 16) × (rd < 32) × (rs1 < 32)
IsInsn Ecall = Unit {0}
IsInsn Ebreak = Unit {0}
IsInsn Mret = Unit {0}
IsInsn Wfi = Unit {0}
IsInsn (Csr op rd source number) = (rd < 32) × (source < 32) × (number < 2 ^ 12)
IsInsn (Lr wide aq rl rd rs1) = (rd < 32) × (rs1 < 32)
IsInsn (Sc wide aq rl rd rs1 rs2) = (rd < 32) × (rs1 < 32) × (rs2 < 32)
IsInsn (Amo op wide aq rl rd rs1 rs2) = (rd < 32) × (rs1 < 32) × (rs2 < 32)

-- the word is that of the instruction
pub record Encodes (word : ℕ) (insn : Insn) : Type 0 where
  pub is : word ≡ encoding insn
  pub fits : IsInsn insn
