-- A word is read as the instruction that it is the word of.
use Rattle.std.proofs.Common.{◌≡◌, ◌↔◌, ◌∙◌, ℕ, ◌+◌, ◌*◌, ◌/◌, ◌%◌, ◌^◌, ◌<◌, ℤ, pos, negsuc, Bool, true, false, Option}
use Rattle.std.proofs.Common.{None, Some, IfNone, refl, ap, inl, inr, arith}
use Rattle.std.specs.Prelude.{◌==◌}
use Rattle.tandem_base.specs.Signs.{represents}
use Rattle.rv_decode.specs.Formats.{part, twos_complement, bit_of, IsSigned, IsMultiple}
use Rattle.rv_decode.specs.Operations.{row, reg_row, branch_funct3, load_funct3, store_funct3, csr_funct3, amo_funct5}
use Rattle.rv_decode.specs.Operations.{atomic_funct3}
use Rattle.rv_decode.specs.Listing.{Encodes}
use Rattle.rv_decode.specs.Decoding.{decoding, rd_field, funct3_field, rs1_field, rs2_field, funct7_field, funct6_field}
use Rattle.rv_decode.specs.Decoding.{aq_bit, rl_bit, i_imm, s_imm, b_imm, u_imm, j_imm, as_jalr, as_branch}
use Rattle.rv_decode.specs.Decoding.{as_load, as_store, as_alu_imm, as_alu_imm_word, as_alu, as_fence}
use Rattle.rv_decode.specs.Decoding.{branch_at, load_at, store_at, csr_at, amo_at, width_at, reg_at, as_system}
use Rattle.rv_decode.specs.Decoding.{as_atomic_of, as_atomic}
use Rattle.rv_decode.specs.declared.operations.BranchOp.{BranchOp}
use Rattle.rv_decode.specs.declared.operations.BranchOp.TheVariants as branch
use Rattle.rv_decode.specs.declared.operations.LoadOp.{LoadOp}
use Rattle.rv_decode.specs.declared.operations.LoadOp.TheVariants as load
use Rattle.rv_decode.specs.declared.operations.StoreOp.{StoreOp}
use Rattle.rv_decode.specs.declared.operations.StoreOp.TheVariants as store
use Rattle.rv_decode.specs.declared.operations.CsrOp.{CsrOp}
use Rattle.rv_decode.specs.declared.operations.CsrOp.TheVariants as csr
use Rattle.rv_decode.specs.declared.operations.ImmOp.{ImmOp}
use Rattle.rv_decode.specs.declared.operations.ImmOp.TheVariants as imm
use Rattle.rv_decode.specs.declared.operations.RegOp.{RegOp}
use Rattle.rv_decode.specs.declared.operations.RegOp.TheVariants as reg
use Rattle.rv_decode.specs.declared.operations.AmoOp.{AmoOp}
use Rattle.rv_decode.specs.declared.operations.AmoOp.TheVariants as amo
use Rattle.rv_decode.specs.declared.instruction.Insn.{Insn}
use Rattle.rv_decode.specs.declared.instruction.Insn.TheVariants.{Lui, Auipc, Jal, Jalr, Branch, Load, Store, AluImm}
use Rattle.rv_decode.specs.declared.instruction.Insn.TheVariants.{Alu, Fence, Ecall, Ebreak, Mret, Wfi, Csr, Lr, Sc}
use Rattle.rv_decode.specs.declared.instruction.Insn.TheVariants.{Amo}
use Rattle.rv_decode.proofs.TwosComplement.{number_again, bits_lt}
use Rattle.std.proofs.lemmas.Bool.{ne_eqb}
use Rattle.rv_decode.proofs.Found.{decoding_found}
use Rattle.rv_decode.proofs.Opcodes.{reg_opcode}
use Rattle.rv_decode.proofs.Range.{branch_funct3-lt, load_funct3-lt, store_funct3-lt, csr_funct3-lt, amo_funct5-lt}
use Rattle.rv_decode.proofs.Range.{atomic_funct3-lt, bit-lt, reg_row-lt}

-- the operation of each field
branch_at-funct3 : (op : BranchOp) → branch_at (branch_funct3 op) ≡ Some op
branch_at-funct3 branch.Beq = refl
branch_at-funct3 branch.Bne = refl
branch_at-funct3 branch.Blt = refl
branch_at-funct3 branch.Bge = refl
branch_at-funct3 branch.Bltu = refl
branch_at-funct3 branch.Bgeu = refl

load_at-funct3 : (op : LoadOp) → load_at (load_funct3 op) ≡ Some op
load_at-funct3 load.Lb = refl
load_at-funct3 _ = refl

store_at-funct3 : (op : StoreOp) → store_at (store_funct3 op) ≡ Some op
store_at-funct3 store.Sb = refl
store_at-funct3 _ = refl

csr_at-funct3 : (op : CsrOp) → csr_at (csr_funct3 op) ≡ Some op
csr_at-funct3 csr.Rw = refl
csr_at-funct3 _ = refl

amo_at-funct5 : (op : AmoOp) → amo_at (amo_funct5 op) ≡ Some op
amo_at-funct5 amo.Swap = refl
amo_at-funct5 _ = refl

width_at-funct3 : (wide : Bool) → width_at (atomic_funct3 wide) ≡ Some wide
width_at-funct3 false = refl
width_at-funct3 true = refl

reg_at-row : (op : RegOp) → reg_at (row (reg_row op).funct7 (reg_row op).funct3 (reg_row op).opcode) ≡ Some op
reg_at-row reg.Add = refl
reg_at-row _ = refl

bit_is : (b : Bool) → (bit_of b == 1) ≡ b
bit_is false = refl
bit_is true = refl

-- the fields of a word that is the sum of these
record Fields (w f7 y x f3 d o : ℕ) : Type 0 where
  opcode : part w 6 0 ≡ o
  rd : part w 11 7 ≡ d
  funct3 : part w 14 12 ≡ f3
  rs1 : part w 19 15 ≡ x
  rs2 : part w 24 20 ≡ y
  funct7 : part w 31 25 ≡ f7
  upper : part w 31 20 ≡ f7 * 2 ^ 5 + y

fields : (w f7 y x f3 d o : ℕ) → f7 < 2 ^ 7 → y < 2 ^ 5 → x < 2 ^ 5 → f3 < 2 ^ 3 → d < 2 ^ 5 → o < 2 ^ 7
    → w ≡ f7 * 2 ^ 25 + y * 2 ^ 20 + x * 2 ^ 15 + f3 * 2 ^ 12 + d * 2 ^ 7 + o → Fields w f7 y x f3 d o
fields w f7 y x f3 d o h7 hy hx h3 hd ho e = record {
  opcode = omega arith;
  rd = omega arith;
  funct3 = omega arith;
  rs1 = omega arith;
  rs2 = omega arith;
  funct7 = omega arith;
  upper = omega arith;
}

module _ (w : ℕ) where
  -- the words of each opcode
  at_lui : part w 6 0 ≡ 0b0110111 → decoding w ≡ Some (Lui (rd_field w) (u_imm w))
  unfolding decoding
  at_lui o = rw o refl

  at_auipc : part w 6 0 ≡ 0b0010111 → decoding w ≡ Some (Auipc (rd_field w) (u_imm w))
  unfolding decoding
  at_auipc o = rw o refl

  at_jal : part w 6 0 ≡ 0b1101111 → decoding w ≡ Some (Jal (rd_field w) (j_imm w))
  unfolding decoding
  at_jal o = rw o refl

  at_jalr : part w 6 0 ≡ 0b1100111 → decoding w ≡ as_jalr w
  unfolding decoding
  at_jalr o = rw o refl

  at_branch : part w 6 0 ≡ 0b1100011 → decoding w ≡ as_branch w
  unfolding decoding
  at_branch o = rw o refl

  at_load : part w 6 0 ≡ 0b0000011 → decoding w ≡ as_load w
  unfolding decoding
  at_load o = rw o refl

  at_store : part w 6 0 ≡ 0b0100011 → decoding w ≡ as_store w
  unfolding decoding
  at_store o = rw o refl

  at_alu_imm : part w 6 0 ≡ 0b0010011 → decoding w ≡ as_alu_imm w
  unfolding decoding
  at_alu_imm o = rw o refl

  at_alu_imm_word : part w 6 0 ≡ 0b0011011 → decoding w ≡ as_alu_imm_word w
  unfolding decoding
  at_alu_imm_word o = rw o refl

  at_alu : part w 6 0 ≡ 0b0110011 → decoding w ≡ as_alu 0b0110011 w
  unfolding decoding
  at_alu o = rw o refl

  at_alu_word : part w 6 0 ≡ 0b0111011 → decoding w ≡ as_alu 0b0111011 w
  unfolding decoding
  at_alu_word o = rw o refl

  at_fence : part w 6 0 ≡ 0b0001111 → decoding w ≡ as_fence w
  unfolding decoding
  at_fence o = rw o refl

  at_system : part w 6 0 ≡ 0b1110011 → decoding w ≡ as_system w
  unfolding decoding
  at_system o = rw o refl

  at_atomic : part w 6 0 ≡ 0b0101111 → decoding w ≡ as_atomic w
  unfolding decoding
  at_atomic o = rw o refl

  -- an immediate of 12 bits
  i_imm-is : (imm : ℤ) → IsSigned 12 imm → part w 31 20 ≡ part (twos_complement 12 imm) 11 0 → i_imm w ≡ imm
  i_imm-is imm fits e =
      let n = twos_complement 12 imm in
      let lt = bits_lt 12 imm refl fits in
      let whole : part w 31 20 ≡ n = e ∙ omega arith in
      ap (represents 12) whole ∙ number_again 12 imm refl fits

  only_load : (op : LoadOp) (rd rs1 : ℕ) (imm : ℤ) → Encodes w (Load op rd rs1 imm)
      → decoding w ≡ Some (Load op rd rs1 imm)
  only_load op rd rs1 imm e =
      let n = twos_complement 12 imm in
      let lt = bits_lt 12 imm refl e.fits.2 in
      let f : Fields w (n / 2 ^ 5) (n % 2 ^ 5) rs1 (load_funct3 op) rd 0b0000011 =
      fields w (n / 2 ^ 5) (n % 2 ^ 5) rs1 (load_funct3 op) rd 0b0000011 (omega arith) (omega arith) e.fits.1
      (load_funct3-lt op) e.fits.0 (omega arith) (e.is ∙ omega arith) in
      let i : i_imm w ≡ imm = i_imm-is imm e.fits.2 (f.upper ∙ omega arith) in
      at_load f.opcode ∙ rw (f.funct3, load_at-funct3 op, f.rd, f.rs1, i) refl

  only_jalr : (rd rs1 : ℕ) (imm : ℤ) → Encodes w (Jalr rd rs1 imm) → decoding w ≡ Some (Jalr rd rs1 imm)
  only_jalr rd rs1 imm e =
      let n = twos_complement 12 imm in
      let lt = bits_lt 12 imm refl e.fits.2 in
      let f : Fields w (n / 2 ^ 5) (n % 2 ^ 5) rs1 0b000 rd 0b1100111 =
      fields w (n / 2 ^ 5) (n % 2 ^ 5) rs1 0b000 rd 0b1100111 (omega arith) (omega arith) e.fits.1 (omega arith)
      e.fits.0 (omega arith) (e.is ∙ omega arith) in
      let i : i_imm w ≡ imm = i_imm-is imm e.fits.2 (f.upper ∙ omega arith) in
      at_jalr f.opcode ∙ rw (f.funct3, f.rd, f.rs1, i) refl

  only_store : (op : StoreOp) (rs1 rs2 : ℕ) (imm : ℤ) → Encodes w (Store op rs1 rs2 imm)
      → decoding w ≡ Some (Store op rs1 rs2 imm)
  only_store op rs1 rs2 imm e =
      let n = twos_complement 12 imm in
      let lt = bits_lt 12 imm refl e.fits.2 in
      let f : Fields w (n / 2 ^ 5) rs2 rs1 (store_funct3 op) (n % 2 ^ 5) 0b0100011 =
      fields w (n / 2 ^ 5) rs2 rs1 (store_funct3 op) (n % 2 ^ 5) 0b0100011 (omega arith) e.fits.1 e.fits.0
      (store_funct3-lt op) (omega arith) (omega arith) (e.is ∙ omega arith) in
      let whole : part w 31 25 * 2 ^ 5 + part w 11 7 ≡ n = rw (f.funct7, f.rd) (omega arith) in
      let i : s_imm w ≡ imm = ap (represents 12) whole ∙ number_again 12 imm refl e.fits.2 in
      at_store f.opcode ∙ rw (f.funct3, store_at-funct3 op, f.rs1, f.rs2, i) refl

  only_branch : (op : BranchOp) (rs1 rs2 : ℕ) (imm : ℤ) → Encodes w (Branch op rs1 rs2 imm)
      → decoding w ≡ Some (Branch op rs1 rs2 imm)
  only_branch op rs1 rs2 imm e =
      let n = twos_complement 13 imm in
      let lt = bits_lt 13 imm refl e.fits.2.range in
      let even = e.fits.2.low in
      let high = part n 12 12 * 2 ^ 6 + part n 10 5 in
      let low = part n 4 1 * 2 + part n 11 11 in
      let f : Fields w high rs2 rs1 (branch_funct3 op) low 0b1100011 =
      fields w high rs2 rs1 (branch_funct3 op) low 0b1100011 (omega arith) e.fits.1 e.fits.0 (branch_funct3-lt op)
      (omega arith) (omega arith) (e.is ∙ omega arith) in
      let a : part w 31 31 ≡ part n 12 12 = let h = f.funct7 in omega arith in
      let b : part w 30 25 ≡ part n 10 5 = let h = f.funct7 in omega arith in
      let c : part w 11 8 ≡ part n 4 1 = let h = f.rd in omega arith in
      let d : part w 7 7 ≡ part n 11 11 = let h = f.rd in omega arith in
      let whole : part w 31 31 * 2 ^ 12 + part w 7 7 * 2 ^ 11 + part w 30 25 * 2 ^ 5 + part w 11 8 * 2 ≡ n =
      rw (a, b, c, d) (omega arith) in
      let i : b_imm w ≡ imm = ap (represents 13) whole ∙ number_again 13 imm refl e.fits.2.range in
      at_branch f.opcode ∙ rw (f.funct3, branch_at-funct3 op, f.rs1, f.rs2, i) refl

  only_alu : (op : RegOp) (rd rs1 rs2 : ℕ) → Encodes w (Alu op rd rs1 rs2) → decoding w ≡ Some (Alu op rd rs1 rs2)
  only_alu op rd rs1 rs2 e =
      let lt = reg_row-lt op in
      let f : Fields w (reg_row op).funct7 rs2 rs1 (reg_row op).funct3 rd (reg_row op).opcode =
      fields w (reg_row op).funct7 rs2 rs1 (reg_row op).funct3 rd (reg_row op).opcode lt.0 e.fits.2 e.fits.1 lt.1
      e.fits.0 lt.2 e.is in
      let read : as_alu (reg_row op).opcode w ≡ Some (Alu op rd rs1 rs2) =
      rw (f.funct7, f.funct3, reg_at-row op, f.rd, f.rs1, f.rs2) refl in
      elim (reg_opcode op) [
        | inl o ↦ at_alu (f.opcode ∙ o) ∙ rw o at read
        | inr o ↦ at_alu_word (f.opcode ∙ o) ∙ rw o at read
      ]

  -- the two halves of a number of 12 bits
  record Upper (n rs1 f3 rd o : ℕ) : Type 0 where
    of : Fields w (n / 2 ^ 5) (n % 2 ^ 5) rs1 f3 rd o
    upper : part w 31 20 ≡ n

  upper_fields : (n rs1 f3 rd o : ℕ) → n < 2 ^ 12 → rs1 < 2 ^ 5 → f3 < 2 ^ 3 → rd < 2 ^ 5 → o < 2 ^ 7
      → w ≡ n * 2 ^ 20 + rs1 * 2 ^ 15 + f3 * 2 ^ 12 + rd * 2 ^ 7 + o → Upper n rs1 f3 rd o
  upper_fields n rs1 f3 rd o hn h1 h3 hd ho e =
      let f = fields w (n / 2 ^ 5) (n % 2 ^ 5) rs1 f3 rd o (omega arith) (omega arith) h1 h3 hd ho (e ∙ omega arith) in
      record { of = f; upper = f.upper ∙ omega arith }

  only_fence : (fm pred succ rd rs1 : ℕ) → Encodes w (Fence fm pred succ rd rs1)
      → decoding w ≡ Some (Fence fm pred succ rd rs1)
  only_fence fm pred succ rd rs1 e =
      let b = e.fits in
      let n = fm * 2 ^ 8 + pred * 2 ^ 4 + succ in
      let f : Upper n rs1 0b000 rd 0b0001111 =
      upper_fields n rs1 0b000 rd 0b0001111 (omega (arith, b.0, b.1, b.2)) b.4 (omega arith) b.3 (omega arith)
      (e.is ∙ omega arith) in
      let fm' : part w 31 28 ≡ fm = let h = f.upper in omega (arith, b.0, b.1, b.2) in
      let pred' : part w 27 24 ≡ pred = let h = f.upper in omega (arith, b.0, b.1, b.2) in
      let succ' : part w 23 20 ≡ succ = let h = f.upper in omega (arith, b.0, b.1, b.2) in
      at_fence f.of.opcode ∙ rw (f.of.funct3, fm', pred', succ', f.of.rd, f.of.rs1) refl

  -- an operation on an immediate of 12 bits
  imm_fields : (imm : ℤ) (rs1 f3 rd o : ℕ) → IsSigned 12 imm → rs1 < 2 ^ 5 → f3 < 2 ^ 3 → rd < 2 ^ 5 → o < 2 ^ 7
      → w ≡ part (twos_complement 12 imm) 11 0 * 2 ^ 20 + rs1 * 2 ^ 15 + f3 * 2 ^ 12 + rd * 2 ^ 7 + o
      → Upper (twos_complement 12 imm) rs1 f3 rd o
  imm_fields imm rs1 f3 rd o fits h1 h3 hd ho e =
      let lt = bits_lt 12 imm refl fits in
      upper_fields (twos_complement 12 imm) rs1 f3 rd o lt h1 h3 hd ho (e ∙ omega arith)

  imm_is : (imm : ℤ) (rs1 f3 rd o : ℕ) → IsSigned 12 imm → Upper (twos_complement 12 imm) rs1 f3 rd o → i_imm w ≡ imm
  imm_is imm rs1 f3 rd o fits f = ap (represents 12) f.upper ∙ number_again 12 imm refl fits

  -- an operation on 64 bits and an immediate of 12 bits
  only_plain_imm : (op : ImmOp) (f3 rd rs1 : ℕ) (imm : ℤ) → rd < 2 ^ 5 → rs1 < 2 ^ 5 → f3 < 2 ^ 3 → IsSigned 12 imm
      → w ≡ part (twos_complement 12 imm) 11 0 * 2 ^ 20 + rs1 * 2 ^ 15 + f3 * 2 ^ 12 + rd * 2 ^ 7 + 0b0010011
      → (funct3_field w ≡ f3 → as_alu_imm w ≡ Some (AluImm op (rd_field w) (rs1_field w) (i_imm w)))
      → decoding w ≡ Some (AluImm op rd rs1 imm)
  only_plain_imm op f3 rd rs1 imm hd h1 h3 fits e read =
      let f = imm_fields imm rs1 f3 rd 0b0010011 fits h1 h3 hd (omega arith) e in
      at_alu_imm f.of.opcode ∙ read f.of.funct3
      ∙ rw (f.of.rd, f.of.rs1, imm_is imm rs1 f3 rd 0b0010011 fits f) refl

  -- a shift on 64 bits
  only_shift : (op : ImmOp) (f6 f3 rd rs1 n : ℕ) → rd < 2 ^ 5 → rs1 < 2 ^ 5 → f3 < 2 ^ 3 → f6 < 2 ^ 6 → n < 2 ^ 6
      → w ≡ f6 * 2 ^ 26 + n * 2 ^ 20 + rs1 * 2 ^ 15 + f3 * 2 ^ 12 + rd * 2 ^ 7 + 0b0010011
      → (funct3_field w ≡ f3 → funct6_field w ≡ f6 → as_alu_imm w ≡ Some
      (AluImm op (rd_field w) (rs1_field w) (pos (part w 25 20))))
      → decoding w ≡ Some (AluImm op rd rs1 (pos n))
  only_shift op f6 f3 rd rs1 n hd h1 h3 h6 hn e read =
      let f : Upper (f6 * 2 ^ 6 + n) rs1 f3 rd 0b0010011 =
      upper_fields (f6 * 2 ^ 6 + n) rs1 f3 rd 0b0010011 (omega (arith, h6, hn)) h1 h3 hd (omega arith)
      (e ∙ omega arith) in
      let six : part w 31 26 ≡ f6 = let h = f.upper in omega (arith, h6, hn) in
      let amount : part w 25 20 ≡ n = let h = f.upper in omega (arith, h6, hn) in
      at_alu_imm f.of.opcode ∙ read f.of.funct3 six ∙ rw (f.of.rd, f.of.rs1, amount) refl

  -- a shift on 32 bits
  only_word_shift : (op : ImmOp) (f7 f3 rd rs1 n : ℕ) → rd < 2 ^ 5 → rs1 < 2 ^ 5 → f3 < 2 ^ 3 → f7 < 2 ^ 7 → n < 2 ^ 5
      → w ≡ f7 * 2 ^ 25 + n * 2 ^ 20 + rs1 * 2 ^ 15 + f3 * 2 ^ 12 + rd * 2 ^ 7 + 0b0011011
      → (funct3_field w ≡ f3 → funct7_field w ≡ f7 → as_alu_imm_word w ≡ Some
      (AluImm op (rd_field w) (rs1_field w) (pos (rs2_field w))))
      → decoding w ≡ Some (AluImm op rd rs1 (pos n))
  only_word_shift op f7 f3 rd rs1 n hd h1 h3 h7 hn e read =
      let f = fields w f7 n rs1 f3 rd 0b0011011 h7 hn h1 h3 hd (omega arith) e in
      at_alu_imm_word f.opcode ∙ read f.funct3 f.funct7 ∙ rw (f.rd, f.rs1, f.rs2) refl

  only_imm : (op : ImmOp) (rd rs1 : ℕ) (imm : ℤ) → Encodes w (AluImm op rd rs1 imm)
      → decoding w ≡ Some (AluImm op rd rs1 imm)
  only_imm imm.Addi rd rs1 n e =
      only_plain_imm imm.Addi 0b000 rd rs1 n e.fits.0 e.fits.1 (omega arith) e.fits.2 e.is (λ f. rw f refl)
  only_imm imm.Slti rd rs1 n e =
      only_plain_imm imm.Slti 0b010 rd rs1 n e.fits.0 e.fits.1 (omega arith) e.fits.2 e.is (λ f. rw f refl)
  only_imm imm.Sltiu rd rs1 n e =
      only_plain_imm imm.Sltiu 0b011 rd rs1 n e.fits.0 e.fits.1 (omega arith) e.fits.2 e.is (λ f. rw f refl)
  only_imm imm.Xori rd rs1 n e =
      only_plain_imm imm.Xori 0b100 rd rs1 n e.fits.0 e.fits.1 (omega arith) e.fits.2 e.is (λ f. rw f refl)
  only_imm imm.Ori rd rs1 n e =
      only_plain_imm imm.Ori 0b110 rd rs1 n e.fits.0 e.fits.1 (omega arith) e.fits.2 e.is (λ f. rw f refl)
  only_imm imm.Andi rd rs1 n e =
      only_plain_imm imm.Andi 0b111 rd rs1 n e.fits.0 e.fits.1 (omega arith) e.fits.2 e.is (λ f. rw f refl)
  only_imm imm.Slli rd rs1 (pos n) e =
      only_shift imm.Slli 0b000000 0b001 rd rs1 n e.fits.0 e.fits.1 (omega arith) (omega arith) e.fits.2 e.is
      (λ f g. rw (f, g) refl)
  only_imm imm.Srli rd rs1 (pos n) e =
      only_shift imm.Srli 0b000000 0b101 rd rs1 n e.fits.0 e.fits.1 (omega arith) (omega arith) e.fits.2 e.is
      (λ f g. rw (f, g) refl)
  only_imm imm.Srai rd rs1 (pos n) e =
      only_shift imm.Srai 0b010000 0b101 rd rs1 n e.fits.0 e.fits.1 (omega arith) (omega arith) e.fits.2 e.is
      (λ f g. rw (f, g) refl)
  only_imm imm.Addiw rd rs1 n e =
      let f = imm_fields n rs1 0b000 rd 0b0011011 e.fits.2 e.fits.1 (omega arith) e.fits.0 (omega arith) e.is in
      at_alu_imm_word f.of.opcode
      ∙ rw (f.of.funct3, f.of.rd, f.of.rs1, imm_is n rs1 0b000 rd 0b0011011 e.fits.2 f) refl
  only_imm imm.Slliw rd rs1 (pos n) e =
      only_word_shift imm.Slliw 0b0000000 0b001 rd rs1 n e.fits.0 e.fits.1 (omega arith) (omega arith) e.fits.2 e.is
      (λ f g. rw (f, g) refl)
  only_imm imm.Srliw rd rs1 (pos n) e =
      only_word_shift imm.Srliw 0b0000000 0b101 rd rs1 n e.fits.0 e.fits.1 (omega arith) (omega arith) e.fits.2 e.is
      (λ f g. rw (f, g) refl)
  only_imm imm.Sraiw rd rs1 (pos n) e =
      only_word_shift imm.Sraiw 0b0100000 0b101 rd rs1 n e.fits.0 e.fits.1 (omega arith) (omega arith) e.fits.2 e.is
      (λ f g. rw (f, g) refl)
  only_imm imm.Slli rd rs1 (negsuc n) e = absurd e.fits.2
  only_imm imm.Srli rd rs1 (negsuc n) e = absurd e.fits.2
  only_imm imm.Srai rd rs1 (negsuc n) e = absurd e.fits.2
  only_imm imm.Slliw rd rs1 (negsuc n) e = absurd e.fits.2
  only_imm imm.Srliw rd rs1 (negsuc n) e = absurd e.fits.2
  only_imm imm.Sraiw rd rs1 (negsuc n) e = absurd e.fits.2

  -- the upper 20 bits
  u_number : (imm : ℤ) (rd o : ℕ) → IsMultiple 32 12 imm → rd < 2 ^ 5 → o < 2 ^ 7
      → w ≡ part (twos_complement 32 imm) 31 12 * 2 ^ 12 + rd * 2 ^ 7 + o
      → (part w 6 0 ≡ o) × (part w 11 7 ≡ rd) × (u_imm w ≡ imm)
  u_number imm rd o fits hd ho e =
      let n = twos_complement 32 imm in
      let lt = bits_lt 32 imm refl fits.range in
      let zeros = fits.low in
      let upper : part w 31 12 * 2 ^ 12 ≡ n = omega arith in (
        omega arith,
        omega arith,
        ap (represents 32) upper ∙ number_again 32 imm refl fits.range,
      )

  only_lui : (rd : ℕ) (imm : ℤ) → Encodes w (Lui rd imm) → decoding w ≡ Some (Lui rd imm)
  only_lui rd imm e =
      let u = u_number imm rd 0b0110111 e.fits.1 e.fits.0 (omega arith) e.is in
      at_lui u.0 ∙ rw (u.1, u.2) refl

  only_auipc : (rd : ℕ) (imm : ℤ) → Encodes w (Auipc rd imm) → decoding w ≡ Some (Auipc rd imm)
  only_auipc rd imm e =
      let u = u_number imm rd 0b0010111 e.fits.1 e.fits.0 (omega arith) e.is in
      at_auipc u.0 ∙ rw (u.1, u.2) refl

  only_jal : (rd : ℕ) (imm : ℤ) → Encodes w (Jal rd imm) → decoding w ≡ Some (Jal rd imm)
  only_jal rd imm e =
      let n = twos_complement 21 imm in
      let lt = bits_lt 21 imm refl e.fits.1.range in
      let even = e.fits.1.low in
      let hd = e.fits.0 in
      let h = e.is in
      let o : part w 6 0 ≡ 0b1101111 = omega arith in
      let d : part w 11 7 ≡ rd = omega arith in
      let a : part w 31 31 ≡ part n 20 20 = omega arith in
      let b : part w 19 12 ≡ part n 19 12 = omega arith in
      let c : part w 20 20 ≡ part n 11 11 = omega arith in
      let g : part w 30 21 ≡ part n 10 1 = omega arith in
      let whole : part w 31 31 * 2 ^ 20 + part w 19 12 * 2 ^ 12 + part w 20 20 * 2 ^ 11 + part w 30 21 * 2 ≡ n =
      rw (a, b, c, g) (omega arith) in
      let i : j_imm w ≡ imm = ap (represents 21) whole ∙ number_again 21 imm refl e.fits.1.range in
      at_jal o ∙ rw (d, i) refl

  csr_funct3-pos : (op : CsrOp) → 0 < csr_funct3 op
  csr_funct3-pos csr.Rw = omega arith
  csr_funct3-pos _ = omega arith

  only_csr : (op : CsrOp) (rd source number : ℕ) → Encodes w (Csr op rd source number)
      → decoding w ≡ Some (Csr op rd source number)
  only_csr op rd source number e =
      let b = e.fits in
      let f : Upper number source (csr_funct3 op) rd 0b1110011 =
      upper_fields number source (csr_funct3 op) rd 0b1110011 b.2 b.1 (csr_funct3-lt op) b.0 (omega arith)
      (let h = b.2 in e.is ∙ omega arith) in
      let other : (n : ℕ) → part n 14 12 ≡ 0 → (w == n) ≡ false =
      λ n zero_there.
      ne_eqb w n
      (λ same. let h : part n 14 12 ≡ csr_funct3 op = rw same at f.of.funct3 in omega
      (arith, h, zero_there, csr_funct3-pos op)) in
      at_system f.of.opcode
      ∙ rw (
        other 0x00000073 refl,
        other 0x00100073 refl,
        other 0x30200073 refl,
        other 0x10500073 refl,
        f.of.funct3,
        csr_at-funct3 op,
        f.of.rd,
        f.of.rs1,
        f.upper,
      ) refl

  -- the fields of an atomic instruction
  record Atomic (f5 : ℕ) (wide aq rl : Bool) (y x d : ℕ) : Type 0 where
    of : Fields w (f5 * 2 ^ 2 + bit_of aq * 2 + bit_of rl) y x (atomic_funct3 wide) d 0b0101111
    funct5 : part w 31 27 ≡ f5
    acquires : aq_bit w ≡ aq
    releases : rl_bit w ≡ rl
    read : decoding w ≡ as_atomic_of w wide

  atomic_fields : (f5 : ℕ) (wide aq rl : Bool) (y x d : ℕ) → f5 < 2 ^ 5 → y < 2 ^ 5 → x < 2 ^ 5 → d < 2 ^ 5
      → w ≡ f5 * 2 ^ 27 + bit_of aq * 2 ^ 26 + bit_of rl * 2 ^ 25 + y * 2 ^ 20 + x * 2 ^ 15
      + atomic_funct3 wide * 2 ^ 12 + d * 2 ^ 7 + 0b0101111
      → Atomic f5 wide aq rl y x d
  atomic_fields f5 wide aq rl y x d h5 hy hx hd e =
      let a = bit-lt aq in
      let r = bit-lt rl in
      let f =
      fields w (f5 * 2 ^ 2 + bit_of aq * 2 + bit_of rl) y x (atomic_funct3 wide) d 0b0101111 (omega arith) hy hx
      (atomic_funct3-lt wide) hd (omega arith) (e ∙ omega arith) in
      let h = f.funct7 in
      let aq' : part w 26 26 ≡ bit_of aq = omega arith in
      let rl' : part w 25 25 ≡ bit_of rl = omega arith in
      record {
        of = f;
        funct5 = omega arith;
        acquires = rw aq' (bit_is aq);
        releases = rw rl' (bit_is rl);
        read = at_atomic f.opcode ∙ rw (f.funct3, width_at-funct3 wide) refl;
      }

  only_lr : (wide aq rl : Bool) (rd rs1 : ℕ) → Encodes w (Lr wide aq rl rd rs1)
      → decoding w ≡ Some (Lr wide aq rl rd rs1)
  only_lr wide aq rl rd rs1 e =
      let f = atomic_fields 0b00010 wide aq rl 0b00000 rs1 rd (omega arith) (omega arith) e.fits.1 e.fits.0 e.is in
      f.read ∙ rw (f.funct5, f.of.rs2, f.acquires, f.releases, f.of.rd, f.of.rs1) refl

  only_sc : (wide aq rl : Bool) (rd rs1 rs2 : ℕ) → Encodes w (Sc wide aq rl rd rs1 rs2)
      → decoding w ≡ Some (Sc wide aq rl rd rs1 rs2)
  only_sc wide aq rl rd rs1 rs2 e =
      let f = atomic_fields 0b00011 wide aq rl rs2 rs1 rd (omega arith) e.fits.2 e.fits.1 e.fits.0 e.is in
      f.read ∙ rw (f.funct5, f.acquires, f.releases, f.of.rd, f.of.rs1, f.of.rs2) refl

  amo_with : (op : AmoOp) (wide : Bool) → part w 31 27 ≡ amo_funct5 op
      → as_atomic_of w wide ≡ Some (Amo op wide (aq_bit w) (rl_bit w) (rd_field w) (rs1_field w) (rs2_field w))
  amo_with amo.Swap wide f = rw f refl
  amo_with _ wide f = rw f refl

  only_amo : (op : AmoOp) (wide aq rl : Bool) (rd rs1 rs2 : ℕ) → Encodes w (Amo op wide aq rl rd rs1 rs2)
      → decoding w ≡ Some (Amo op wide aq rl rd rs1 rs2)
  only_amo op wide aq rl rd rs1 rs2 e =
      let f = atomic_fields (amo_funct5 op) wide aq rl rs2 rs1 rd (amo_funct5-lt op) e.fits.2 e.fits.1 e.fits.0 e.is in
      f.read ∙ amo_with op wide f.funct5
      ∙ rw (f.acquires, f.releases, f.of.rd, f.of.rs1, f.of.rs2) refl

  only_whole : (insn : Insn) (n : ℕ) → w ≡ n → decoding n ≡ Some insn → decoding w ≡ Some insn
  only_whole insn n e at = ap decoding e ∙ at

  pub only : (i : Insn) → Encodes w i → decoding w ≡ Some i
  unfolding decoding
  only (Lui rd imm) e = only_lui rd imm e
  only (Auipc rd imm) e = only_auipc rd imm e
  only (Jal rd imm) e = only_jal rd imm e
  only (Jalr rd rs1 imm) e = only_jalr rd rs1 imm e
  only (Branch op rs1 rs2 imm) e = only_branch op rs1 rs2 imm e
  only (Load op rd rs1 imm) e = only_load op rd rs1 imm e
  only (Store op rs1 rs2 imm) e = only_store op rs1 rs2 imm e
  only (AluImm op rd rs1 imm) e = only_imm op rd rs1 imm e
  only (Alu op rd rs1 rs2) e = only_alu op rd rs1 rs2 e
  only (Fence fm pred succ rd rs1) e = only_fence fm pred succ rd rs1 e
  only Ecall e = only_whole Ecall 0x00000073 e.is refl
  only Ebreak e = only_whole Ebreak 0x00100073 e.is refl
  only Mret e = only_whole Mret 0x30200073 e.is refl
  only Wfi e = only_whole Wfi 0x10500073 e.is refl
  only (Csr op rd source number) e = only_csr op rd source number e
  only (Lr wide aq rl rd rs1) e = only_lr wide aq rl rd rs1 e
  only (Sc wide aq rl rd rs1 rs2) e = only_sc wide aq rl rd rs1 rs2 e
  only (Amo op wide aq rl rd rs1 rs2) e = only_amo op wide aq rl rd rs1 rs2 e

  -- the two listings are one
  pub reads_what_it_encodes : (i : Insn) → w < 2 ^ 32 → (decoding w ≡ Some i) ↔ Encodes w i
  reads_what_it_encodes i lt =
      (λ read. let h = decoding_found w lt in rw read at h, only i)

  none_of : (o : Option Insn) → ((i : Insn) → Encodes w i → o ≡ Some i) → IfNone o ((i : Insn) → Encodes w i → ⊥)
  none_of None found = λ i e. let h = found i e in cc
  none_of (Some j) found = tt

  -- where nothing is read, no instruction has the word
  pub none_encoded : IfNone (decoding w) ((i : Insn) → Encodes w i → ⊥)
  none_encoded = none_of (decoding w) only
