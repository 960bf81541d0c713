-- The opcode tells the forms of instructions apart.
use Rattle.std.proofs.Common.{◌≡◌, ℕ, ◌+◌, ◌*◌, ◌^◌, ◌<◌, ◌⊎◌, ℤ, refl, arith, inl}
use Rattle.std.proofs.Common.{inr}
use Rattle.rv_decode.specs.Formats.{part}
use Rattle.rv_decode.specs.Operations.{imm_word, reg_row}
use Rattle.rv_decode.specs.Listing.{Encodes}
use Rattle.rv_decode.specs.declared.operations.ImmOp.{ImmOp}
use Rattle.rv_decode.specs.declared.operations.ImmOp.TheVariants as imm_op
use Rattle.rv_decode.specs.declared.operations.RegOp.{RegOp}
use Rattle.rv_decode.specs.declared.operations.RegOp.TheVariants as reg_op
use Rattle.rv_decode.specs.declared.instruction.Insn.{Insn}
use Rattle.rv_decode.specs.declared.instruction.Insn.TheVariants.{Lui, Auipc, Jal, Jalr, Branch, Load, Store, AluImm}
use Rattle.rv_decode.specs.declared.instruction.Insn.TheVariants.{Alu, Fence, Ecall, Ebreak, Mret, Wfi, Csr, Lr, Sc}
use Rattle.rv_decode.specs.declared.instruction.Insn.TheVariants.{Amo}

-- the opcode of an operation on an immediate
imm_opcode : (op : ImmOp) (imm : ℤ) (rs1 rd : ℕ) → rd < 32
    → (part (imm_word op imm rs1 rd) 6 0 ≡ 0b0010011) ⊎ (part (imm_word op imm rs1 rd) 6 0 ≡ 0b0011011)
imm_opcode imm_op.Addi imm rs1 rd h = inl (omega arith)
imm_opcode imm_op.Slti imm rs1 rd h = inl (omega arith)
imm_opcode imm_op.Sltiu imm rs1 rd h = inl (omega arith)
imm_opcode imm_op.Xori imm rs1 rd h = inl (omega arith)
imm_opcode imm_op.Ori imm rs1 rd h = inl (omega arith)
imm_opcode imm_op.Andi imm rs1 rd h = inl (omega arith)
imm_opcode imm_op.Slli imm rs1 rd h = inl (omega arith)
imm_opcode imm_op.Srli imm rs1 rd h = inl (omega arith)
imm_opcode imm_op.Srai imm rs1 rd h = inl (omega arith)
imm_opcode imm_op.Addiw imm rs1 rd h = inr (omega arith)
imm_opcode imm_op.Slliw imm rs1 rd h = inr (omega arith)
imm_opcode imm_op.Srliw imm rs1 rd h = inr (omega arith)
imm_opcode imm_op.Sraiw imm rs1 rd h = inr (omega arith)

-- the opcode of an operation on registers
pub reg_opcode : (op : RegOp) → ((reg_row op).opcode ≡ 0b0110011) ⊎ ((reg_row op).opcode ≡ 0b0111011)
reg_opcode reg_op.Addw = inr refl
reg_opcode reg_op.Subw = inr refl
reg_opcode reg_op.Sllw = inr refl
reg_opcode reg_op.Srlw = inr refl
reg_opcode reg_op.Sraw = inr refl
reg_opcode reg_op.Mulw = inr refl
reg_opcode reg_op.Divw = inr refl
reg_opcode reg_op.Divuw = inr refl
reg_opcode reg_op.Remw = inr refl
reg_opcode reg_op.Remuw = inr refl
reg_opcode _ = inl refl

-- the opcodes of a form
abbrev pub IsOpcode : Insn → ℕ → Type 0
IsOpcode (Lui _ _) n = n ≡ 0b0110111
IsOpcode (Auipc _ _) n = n ≡ 0b0010111
IsOpcode (Jal _ _) n = n ≡ 0b1101111
IsOpcode (Jalr _ _ _) n = n ≡ 0b1100111
IsOpcode (Branch _ _ _ _) n = n ≡ 0b1100011
IsOpcode (Load _ _ _ _) n = n ≡ 0b0000011
IsOpcode (Store _ _ _ _) n = n ≡ 0b0100011
IsOpcode (AluImm _ _ _ _) n = (n ≡ 0b0010011) ⊎ (n ≡ 0b0011011)
IsOpcode (Alu _ _ _ _) n = (n ≡ 0b0110011) ⊎ (n ≡ 0b0111011)
IsOpcode (Fence _ _ _ _ _) n = n ≡ 0b0001111
IsOpcode Ecall n = n ≡ 0b1110011
IsOpcode Ebreak n = n ≡ 0b1110011
IsOpcode Mret n = n ≡ 0b1110011
IsOpcode Wfi n = n ≡ 0b1110011
IsOpcode (Csr _ _ _ _) n = n ≡ 0b1110011
IsOpcode (Lr _ _ _ _ _) n = n ≡ 0b0101111
IsOpcode (Sc _ _ _ _ _ _) n = n ≡ 0b0101111
IsOpcode (Amo _ _ _ _ _ _ _) n = n ≡ 0b0101111

-- the low 7 bits of a sum above them
low_of : (w n opcode : ℕ) → opcode < 2 ^ 7 → w ≡ n * 2 ^ 7 + opcode → part w 6 0 ≡ opcode
low_of w n opcode h e = omega arith

-- the word of an instruction has its form's opcode
pub opcode_is : (w : ℕ) (i : Insn) → Encodes w i → IsOpcode i (part w 6 0)
opcode_is w (Lui rd imm) e = let h = e.is in omega arith
opcode_is w (Auipc rd imm) e = let h = e.is in omega arith
opcode_is w (Jal rd imm) e = let h = e.is in omega arith
opcode_is w (Jalr rd rs1 imm) e = let h = e.is in omega arith
opcode_is w (Branch op rs1 rs2 imm) e = let h = e.is in omega arith
opcode_is w (Load op rd rs1 imm) e = let h = e.is in omega arith
opcode_is w (Store op rs1 rs2 imm) e = let h = e.is in omega arith
opcode_is w (AluImm op rd rs1 imm) e = rw e.is (imm_opcode op imm rs1 rd e.fits.0)
opcode_is w (Alu op rd rs1 rs2) e =
    let h = e.is in
    elim (reg_opcode op) [ inl x ↦ inl (omega arith) | inr x ↦ inr (omega arith) ]
opcode_is w (Fence fm pred succ rd rs1) e = let h = e.is in omega arith
opcode_is w Ecall e = let h = e.is in omega arith
opcode_is w Ebreak e = let h = e.is in omega arith
opcode_is w Mret e = let h = e.is in omega arith
opcode_is w Wfi e = let h = e.is in omega arith
opcode_is w (Csr op rd source number) e = let h = e.is in omega arith
opcode_is w (Lr wide aq rl rd rs1) e = let h = e.is in omega arith
opcode_is w (Sc wide aq rl rd rs1 rs2) e = let h = e.is in omega arith
opcode_is w (Amo op wide aq rl rd rs1 rs2) e = let h = e.is in omega arith
