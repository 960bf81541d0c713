-- The instruction that a word is read as has that word.
use Rattle.std.proofs.Common.{◌≡◌, ℕ, zero, suc, ◌*◌, ◌+◌, ◌^◌, ◌<◌, ◌==◌, Bool, true, false, ◌&&◌, List}
use Rattle.std.proofs.Common.{[], ◌∷◌, Option, None, Some, IfSome, refl, arith}
use Rattle.std.specs.Prelude.{if◌then◌else◌}
use Rattle.std.specs.List.{find}
use Rattle.std.specs.Option.{option_map, option_and_then}
use Rattle.std.proofs.lemmas.Bool.{eqb-true, and_parts}
use Rattle.tandem_base.specs.Signs.{represents}
use Rattle.rv_decode.specs.Formats.{part, twos_complement, bit_of, IsSigned, i_type, r_type, shift_type}
use Rattle.rv_decode.specs.Operations.{row, reg_row, branch_funct3, load_funct3, store_funct3, csr_funct3, amo_funct5}
use Rattle.rv_decode.specs.Operations.{atomic_funct3}
use Rattle.rv_decode.specs.Listing.{Encodes}
use Rattle.rv_decode.specs.Decoding.{decoding, opcode_field, rd_field, funct3_field, rs1_field, rs2_field, funct7_field}
use Rattle.rv_decode.specs.Decoding.{funct6_field}
use Rattle.rv_decode.specs.Decoding.{funct5_field, aq_bit, rl_bit, i_imm, s_imm, b_imm, u_imm, j_imm}
use Rattle.rv_decode.specs.Decoding.{as_jalr, as_branch}
use Rattle.rv_decode.specs.Decoding.{as_load, as_store, as_alu_imm, as_alu_imm_word}
use Rattle.rv_decode.specs.Decoding.{as_alu, listed_branch_ops, listed_load_ops}
use Rattle.rv_decode.specs.Decoding.{listed_store_ops, listed_csr_ops, listed_amo_ops, widths, listed_reg_ops}
use Rattle.rv_decode.specs.Decoding.{same_row, as_fence, as_csr}
use Rattle.rv_decode.specs.Decoding.{as_system, as_atomic_of, as_atomic}
use Rattle.rv_decode.specs.declared.operations.ImmOp.{ImmOp}
use Rattle.rv_decode.specs.declared.operations.ImmOp.TheVariants as imm
use Rattle.rv_decode.specs.declared.instruction.Insn.{Insn}
use Rattle.rv_decode.specs.declared.instruction.Insn.TheVariants.{Lui, Auipc, Jal, Jalr, Branch, Load, Store}
use Rattle.rv_decode.specs.declared.instruction.Insn.TheVariants.{Alu, Ecall, Ebreak, Mret, Wfi, Csr}
use Rattle.rv_decode.specs.declared.instruction.Insn.TheVariants.{Amo}
use Rattle.rv_decode.proofs.TwosComplement.{choice, bits_again, represents_fits}

bit_one : (n : ℕ) → n < 2 → bit_of (n == 1) ≡ n
bit_one zero lt = refl
bit_one (suc zero) lt = refl
bit_one (suc (suc n)) lt = absurd (omega (arith, lt))

module _ (w : ℕ) (lt : w < 2 ^ 32) where
  choose : (test : Bool) (x y : Option Insn) → (test ≡ true → IfSome x (Encodes w))
      → (test ≡ false → IfSome y (Encodes w)) → IfSome (if test then x else y) (Encodes w)
  choose test x y first second = choice (λ o. IfSome o (Encodes w)) test x y first second

  -- what a search finds passes the test
  found : {X : Type 0} (test : X → Bool) (f : X → Insn) (xs : List X)
      → ((x : X) → test x ≡ true → Encodes w (f x)) → IfSome (option_map f (find test xs)) (Encodes w)
  found test f [] each = tt
  found test f (x ∷ xs) each =
      choice (λ o. IfSome (option_map f o) (Encodes w)) (test x) (Some x) (find test xs) (each x)
      (λ _. found test f xs each)

  found_then : {X : Type 0} (test : X → Bool) (f : X → Option Insn) (xs : List X)
      → ((x : X) → test x ≡ true → IfSome (f x) (Encodes w)) → IfSome (option_and_then f (find test xs)) (Encodes w)
  found_then test f [] each = tt
  found_then test f (x ∷ xs) each =
      choice (λ o. IfSome (option_and_then f o) (Encodes w)) (test x) (Some x) (find test xs) (each x)
      (λ _. found_then test f xs each)

  lui_found : part w 6 0 ≡ 0b0110111 → Encodes w (Lui (rd_field w) (u_imm w))
  lui_found o =
      let n = part w 31 12 * 2 ^ 12 in
      let bits : twos_complement 32 (represents 32 n) ≡ n = bits_again 32 n (omega arith) in
      record {
        is = rw bits (omega (arith, o, lt));
        fits = (omega arith, record { range = represents_fits 32 n refl (omega arith); low = rw bits (omega arith) });
      }

  auipc_found : part w 6 0 ≡ 0b0010111 → Encodes w (Auipc (rd_field w) (u_imm w))
  auipc_found o =
      let n = part w 31 12 * 2 ^ 12 in
      let bits : twos_complement 32 (represents 32 n) ≡ n = bits_again 32 n (omega arith) in
      record {
        is = rw bits (omega (arith, o, lt));
        fits = (omega arith, record { range = represents_fits 32 n refl (omega arith); low = rw bits (omega arith) });
      }

  jal_found : part w 6 0 ≡ 0b1101111 → Encodes w (Jal (rd_field w) (j_imm w))
  jal_found o =
      let n = part w 31 31 * 2 ^ 20 + part w 19 12 * 2 ^ 12 + part w 20 20 * 2 ^ 11 + part w 30 21 * 2 in
      let bits : twos_complement 21 (represents 21 n) ≡ n = bits_again 21 n (omega arith) in
      record {
        is = rw bits (omega (arith, o, lt));
        fits = (omega arith, record { range = represents_fits 21 n refl (omega arith); low = rw bits (omega arith) });
      }

  jalr_found : part w 6 0 ≡ 0b1100111 → IfSome (as_jalr w) (Encodes w)
  jalr_found o =
      let n = part w 31 20 in
      let bits : twos_complement 12 (represents 12 n) ≡ n = bits_again 12 n (omega arith) in
      choose (funct3_field w == 0b000) (Some (Jalr (rd_field w) (rs1_field w) (i_imm w))) None
      (λ f.
      record {
        is = rw bits (omega (arith, o, lt, eqb-true (funct3_field w) 0b000 f));
        fits = (omega arith, omega arith, represents_fits 12 n refl (omega arith));
      })
      (λ _. tt)

  branch_found : part w 6 0 ≡ 0b1100011 → IfSome (as_branch w) (Encodes w)
  branch_found o =
      let n = part w 31 31 * 2 ^ 12 + part w 7 7 * 2 ^ 11 + part w 30 25 * 2 ^ 5 + part w 11 8 * 2 in
      let bits : twos_complement 13 (represents 13 n) ≡ n = bits_again 13 n (omega arith) in
      found (λ op. branch_funct3 op == funct3_field w) (λ op. Branch op (rs1_field w) (rs2_field w) (b_imm w))
      listed_branch_ops
      (λ op f.
      record {
        is = rw bits (omega (arith, o, lt, eqb-true (branch_funct3 op) (funct3_field w) f));
        fits = (
          omega arith,
          omega arith,
          record
              { range = represents_fits 13 n refl (omega arith); low = rw bits (omega arith) },
        );
      })

  load_found : part w 6 0 ≡ 0b0000011 → IfSome (as_load w) (Encodes w)
  load_found o =
      let n = part w 31 20 in
      let bits : twos_complement 12 (represents 12 n) ≡ n = bits_again 12 n (omega arith) in
      found (λ op. load_funct3 op == funct3_field w) (λ op. Load op (rd_field w) (rs1_field w) (i_imm w))
      listed_load_ops
      (λ op f.
      record {
        is = rw bits (omega (arith, o, lt, eqb-true (load_funct3 op) (funct3_field w) f));
        fits = (omega arith, omega arith, represents_fits 12 n refl (omega arith));
      })

  store_found : part w 6 0 ≡ 0b0100011 → IfSome (as_store w) (Encodes w)
  store_found o =
      let n = part w 31 25 * 2 ^ 5 + part w 11 7 in
      let bits : twos_complement 12 (represents 12 n) ≡ n = bits_again 12 n (omega arith) in
      found (λ op. store_funct3 op == funct3_field w) (λ op. Store op (rs1_field w) (rs2_field w) (s_imm w))
      listed_store_ops
      (λ op f.
      record {
        is = rw bits (omega (arith, o, lt, eqb-true (store_funct3 op) (funct3_field w) f));
        fits = (omega arith, omega arith, represents_fits 12 n refl (omega arith));
      })

  alu_found : (opcode : ℕ) → part w 6 0 ≡ opcode → IfSome (as_alu opcode w) (Encodes w)
  alu_found opcode o =
      found (λ op. same_row (reg_row op) (row (funct7_field w) (funct3_field w) opcode))
      (λ op. Alu op (rd_field w) (rs1_field w) (rs2_field w)) listed_reg_ops
      (λ op f.
      let rows = and_parts _ _ f in
      let first = and_parts _ _ rows.0 in
      record {
        is =
            omega (
              arith,
              o,
              lt,
              eqb-true (reg_row op).funct7 (funct7_field w) first.0,
              eqb-true (reg_row op).funct3 (funct3_field w) first.1,
              eqb-true (reg_row op).opcode opcode rows.1,
            );
        fits = (omega arith, omega arith, omega arith);
      })

  -- an operation on an immediate of 12 bits
  imm_found : (op : ImmOp) (funct3 opcode : ℕ) → opcode < 2 ^ 7 → part w 6 0 ≡ opcode
      → (funct3_field w == funct3) ≡ true
      → w ≡ i_type (twos_complement 12 (i_imm w)) (rs1_field w) funct3 (rd_field w) opcode
  imm_found op funct3 opcode below o f =
      let bits : twos_complement 12 (i_imm w) ≡ part w 31 20 = bits_again 12 (part w 31 20) (omega arith) in
      rw bits (omega (arith, o, lt, eqb-true (funct3_field w) funct3 f))

  imm_fits : (rd_field w < 32) × (rs1_field w < 32) × IsSigned 12 (i_imm w)
  imm_fits = (omega arith, omega arith, represents_fits 12 (part w 31 20) refl (omega arith))

  alu_imm_found : part w 6 0 ≡ 0b0010011 → IfSome (as_alu_imm w) (Encodes w)
  alu_imm_found o =
      let shifts : (op : ImmOp) (funct6 funct3 : ℕ) → ((funct6_field w == funct6) && (funct3_field w == funct3)) ≡ true
      → w ≡ shift_type funct6 (part w 25 20) (rs1_field w) funct3 (rd_field w) 0b0010011 =
      λ op funct6 funct3 is.
      omega (
        arith,
        o,
        lt,
        eqb-true (funct6_field w) funct6 (and_parts _ _ is).0,
        eqb-true (funct3_field w) funct3 (and_parts _ _ is).1,
      ) in
      choose (funct3_field w == 0b000) _ _
      (λ f. record { is = imm_found imm.Addi 0b000 0b0010011 (omega arith) o f; fits = imm_fits })
      (λ _. choose (funct3_field w == 0b010) _ _
      (λ f. record { is = imm_found imm.Slti 0b010 0b0010011 (omega arith) o f; fits = imm_fits })
      (λ _. choose (funct3_field w == 0b011) _ _
      (λ f. record { is = imm_found imm.Sltiu 0b011 0b0010011 (omega arith) o f; fits = imm_fits })
      (λ _. choose (funct3_field w == 0b100) _ _
      (λ f. record { is = imm_found imm.Xori 0b100 0b0010011 (omega arith) o f; fits = imm_fits })
      (λ _. choose (funct3_field w == 0b110) _ _
      (λ f. record { is = imm_found imm.Ori 0b110 0b0010011 (omega arith) o f; fits = imm_fits })
      (λ _. choose (funct3_field w == 0b111) _ _
      (λ f. record { is = imm_found imm.Andi 0b111 0b0010011 (omega arith) o f; fits = imm_fits })
      (λ _. choose ((funct6_field w == 0b000000) && (funct3_field w == 0b001)) _ _
      (λ is. record { is = shifts imm.Slli 0b000000 0b001 is; fits = (omega arith, omega arith, omega arith) })
      (λ _. choose ((funct6_field w == 0b000000) && (funct3_field w == 0b101)) _ _
      (λ is. record { is = shifts imm.Srli 0b000000 0b101 is; fits = (omega arith, omega arith, omega arith) })
      (λ _. choose ((funct6_field w == 0b010000) && (funct3_field w == 0b101)) _ None
      (λ is. record { is = shifts imm.Srai 0b010000 0b101 is; fits = (omega arith, omega arith, omega arith) })
      (λ _. tt)))))))))

  alu_imm_word_found : part w 6 0 ≡ 0b0011011 → IfSome (as_alu_imm_word w) (Encodes w)
  alu_imm_word_found o =
      let shifts : (op : ImmOp) (funct7 funct3 : ℕ) → ((funct7_field w == funct7) && (funct3_field w == funct3)) ≡ true
      → w ≡ r_type funct7 (rs2_field w) (rs1_field w) funct3 (rd_field w) 0b0011011 =
      λ op funct7 funct3 is.
      omega (
        arith,
        o,
        lt,
        eqb-true (funct7_field w) funct7 (and_parts _ _ is).0,
        eqb-true (funct3_field w) funct3 (and_parts _ _ is).1,
      ) in
      choose (funct3_field w == 0b000) _ _
      (λ f. record { is = imm_found imm.Addiw 0b000 0b0011011 (omega arith) o f; fits = imm_fits })
      (λ _. choose ((funct7_field w == 0b0000000) && (funct3_field w == 0b001)) _ _
      (λ is. record { is = shifts imm.Slliw 0b0000000 0b001 is; fits = (omega arith, omega arith, omega arith) })
      (λ _. choose ((funct7_field w == 0b0000000) && (funct3_field w == 0b101)) _ _
      (λ is. record { is = shifts imm.Srliw 0b0000000 0b101 is; fits = (omega arith, omega arith, omega arith) })
      (λ _. choose ((funct7_field w == 0b0100000) && (funct3_field w == 0b101)) _ None
      (λ is. record { is = shifts imm.Sraiw 0b0100000 0b101 is; fits = (omega arith, omega arith, omega arith) })
      (λ _. tt))))

  fence_found : part w 6 0 ≡ 0b0001111 → IfSome (as_fence w) (Encodes w)
  fence_found o =
      choose (funct3_field w == 0b000) _ None
      (λ f.
      record {
        is = omega (arith, o, lt, eqb-true (funct3_field w) 0b000 f);
        fits = (omega arith, omega arith, omega arith, omega arith, omega arith);
      })
      (λ _. tt)

  csr_found : part w 6 0 ≡ 0b1110011 → IfSome (as_csr w) (Encodes w)
  csr_found o =
      found (λ op. csr_funct3 op == funct3_field w) (λ op. Csr op (rd_field w) (rs1_field w) (part w 31 20))
      listed_csr_ops
      (λ op f.
      record {
        is = omega (arith, o, lt, eqb-true (csr_funct3 op) (funct3_field w) f);
        fits = (omega arith, omega arith, omega arith);
      })

  system_found : part w 6 0 ≡ 0b1110011 → IfSome (as_system w) (Encodes w)
  system_found o =
      choose (w == 0x00000073) (Some Ecall) _ (λ e. record { is = eqb-true w 0x00000073 e; fits = tt })
      (λ _. choose (w == 0x00100073) (Some Ebreak) _ (λ e. record { is = eqb-true w 0x00100073 e; fits = tt })
      (λ _. choose (w == 0x30200073) (Some Mret) _ (λ e. record { is = eqb-true w 0x30200073 e; fits = tt })
      (λ _. choose (w == 0x10500073) (Some Wfi) _ (λ e. record { is = eqb-true w 0x10500073 e; fits = tt })
      (λ _. csr_found o))))

  atomic_found : part w 6 0 ≡ 0b0101111 → IfSome (as_atomic w) (Encodes w)
  atomic_found o =
      let aq : bit_of (aq_bit w) ≡ part w 26 26 = bit_one (part w 26 26) (omega arith) in
      let rl : bit_of (rl_bit w) ≡ part w 25 25 = bit_one (part w 25 25) (omega arith) in
      found_then (λ wide. atomic_funct3 wide == funct3_field w) (as_atomic_of w) widths
      (λ wide f.
      let f3 = eqb-true (atomic_funct3 wide) (funct3_field w) f in
      choose ((funct5_field w == 0b00010) && (rs2_field w == 0)) _ _
      (λ is.
      let parts = and_parts _ _ is in
      record {
        is =
            rw (aq, rl)
            (omega (arith, o, lt, f3, eqb-true (funct5_field w) 0b00010 parts.0, eqb-true (rs2_field w) 0 parts.1));
        fits = (omega arith, omega arith);
      })
      (λ _.
      choose (funct5_field w == 0b00011) _ _
      (λ is.
      record {
        is = rw (aq, rl) (omega (arith, o, lt, f3, eqb-true (funct5_field w) 0b00011 is));
        fits = (omega arith, omega arith, omega arith);
      })
      (λ _.
      found (λ op. amo_funct5 op == funct5_field w)
      (λ op. Amo op wide (aq_bit w) (rl_bit w) (rd_field w) (rs1_field w) (rs2_field w)) listed_amo_ops
      (λ op is.
      record {
        is = rw (aq, rl) (omega (arith, o, lt, f3, eqb-true (amo_funct5 op) (funct5_field w) is));
        fits = (omega arith, omega arith, omega arith);
      }))))

  pub decoding_found : IfSome (decoding w) (Encodes w)
  unfolding decoding
  decoding_found =
      choose (opcode_field w == 0b0110111) _ _ (λ o. lui_found (eqb-true (opcode_field w) 0b0110111 o))
      (λ _. choose (opcode_field w == 0b0010111) _ _ (λ o. auipc_found (eqb-true (opcode_field w) 0b0010111 o))
      (λ _. choose (opcode_field w == 0b1101111) _ _ (λ o. jal_found (eqb-true (opcode_field w) 0b1101111 o))
      (λ _. choose (opcode_field w == 0b1100111) _ _ (λ o. jalr_found (eqb-true (opcode_field w) 0b1100111 o))
      (λ _. choose (opcode_field w == 0b1100011) _ _ (λ o. branch_found (eqb-true (opcode_field w) 0b1100011 o))
      (λ _. choose (opcode_field w == 0b0000011) _ _ (λ o. load_found (eqb-true (opcode_field w) 0b0000011 o))
      (λ _. choose (opcode_field w == 0b0100011) _ _ (λ o. store_found (eqb-true (opcode_field w) 0b0100011 o))
      (λ _. choose (opcode_field w == 0b0010011) _ _ (λ o. alu_imm_found (eqb-true (opcode_field w) 0b0010011 o))
      (λ _. choose (opcode_field w == 0b0011011) _ _ (λ o. alu_imm_word_found (eqb-true (opcode_field w) 0b0011011 o))
      (λ _. choose (opcode_field w == 0b0110011) _ _ (λ o. alu_found 0b0110011 (eqb-true (opcode_field w) 0b0110011 o))
      (λ _. choose (opcode_field w == 0b0111011) _ _ (λ o. alu_found 0b0111011 (eqb-true (opcode_field w) 0b0111011 o))
      (λ _. choose (opcode_field w == 0b0001111) _ _ (λ o. fence_found (eqb-true (opcode_field w) 0b0001111 o))
      (λ _. choose (opcode_field w == 0b1110011) _ _ (λ o. system_found (eqb-true (opcode_field w) 0b1110011 o))
      (λ _. choose (opcode_field w == 0b0101111) _ None (λ o. atomic_found (eqb-true (opcode_field w) 0b0101111 o))
      (λ _. tt))))))))))))))
