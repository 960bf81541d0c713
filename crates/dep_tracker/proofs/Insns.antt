-- What instructions do with registers that there are.
use Rattle.std.proofs.Common.{ℕ, ◌≡◌, ◌<◌, inl, inr, Bool, true, false, ◌&&◌, ◌||◌, refl, sym, ap, ◌∙◌, arith}
use Rattle.std.proofs.lemmas.Bool.{false≢true, eqb-true, ne_eqb, and_parts, or_cases}
use Rattle.std.proofs.Common.{zero, suc, ltb, Some}
use Rattle.rv_decode.specs.declared.instruction.Insn.{Insn}
use Rattle.rv_decode.specs.declared.instruction.Insn.TheVariants.{Lui, Auipc, Jal, Jalr, Branch, Load, Store, AluImm}
use Rattle.rv_decode.specs.declared.instruction.Insn.TheVariants.{Alu, Fence, Ecall, Ebreak, Mret, Wfi, Csr, Lr, Sc}
use Rattle.rv_decode.specs.declared.instruction.Insn.TheVariants.{Amo}
use Rattle.rv_decode.specs.declared.registers.Register.{Register}
use Rattle.rv_decode.specs.declared.registers.Register.TheVariants as register
use Rattle.rv_decode.specs.Registers.{is_x, is_csr, writes_csr, from_register, sets, carries}
use Rattle.rv_decode.specs.Registers.{is_address, is_data, is_control, named_csr}
use Rattle.rv_decode.specs.Listing.{IsInsn}

and_never : (b : Bool) → (b && false) ≡ false
and_never true = refl
and_never false = refl

x_of : (rd n : ℕ) → is_x rd (register.X n) ≡ true → n ≡ rd
x_of rd n e = eqb-true n rd (and_parts _ _ e).1

x_below : (rd n : ℕ) → rd < 32 → is_x rd (register.X n) ≡ true → n < 32
x_below rd n l e = (let f = x_of rd n e in omega arith)

-- a destination is one of the 32
pub sets_below : (i : Insn) (stored : Bool) (n : ℕ) → IsInsn i → sets i stored (register.X n) ≡ true → n < 32
sets_below (Lui rd imm) stored n h e = x_below rd n h.0 e
sets_below (Auipc rd imm) stored n h e = x_below rd n h.0 e
sets_below (Jal rd imm) stored n h e = x_below rd n h.0 e
sets_below (Jalr rd rs1 imm) stored n h e = x_below rd n h.0 e
sets_below (Branch op rs1 rs2 imm) stored n h e = absurd (false≢true e)
sets_below (Load op rd rs1 imm) stored n h e = x_below rd n h.0 e
sets_below (Store op rs1 rs2 imm) stored n h e = absurd (false≢true e)
sets_below (AluImm op rd rs1 imm) stored n h e = x_below rd n h.0 e
sets_below (Alu op rd rs1 rs2) stored n h e = x_below rd n h.0 e
sets_below (Fence fm before after rd rs1) stored n h e = absurd (false≢true e)
sets_below Ecall stored n h e = absurd (false≢true e)
sets_below Ebreak stored n h e = absurd (false≢true e)
sets_below Mret stored n h e = absurd (false≢true e)
sets_below Wfi stored n h e = absurd (false≢true e)
sets_below (Csr op rd source number) stored n h e =
    elim (or_cases (is_x rd (register.X n)) (writes_csr op source && false) e) [
      | inl a ↦ x_below rd n h.0 a
      | inr a ↦ absurd (false≢true (sym (and_never (writes_csr op source)) ∙ a))
    ]
sets_below (Lr wide aq rl rd rs1) stored n h e = x_below rd n h.0 e
sets_below (Sc wide aq rl rd rs1 rs2) stored n h e = x_below rd n h.0 (and_parts stored (is_x rd (register.X n)) e).1
sets_below (Amo op wide aq rl rd rs1 rs2) stored n h e = x_below rd n h.0 e

-- x0 is none
x_zero : (rd : ℕ) → is_x rd (register.X 0) ≡ false
x_zero zero = refl
x_zero (suc k) =
    ap (λ (b : Bool). ltb 0 (suc k) && b) (ne_eqb 0 (suc k) (λ e. omega arith)) ∙ and_never (ltb 0 (suc k))

pub sets_zero : (i : Insn) (stored : Bool) → sets i stored (register.X 0) ≡ false
sets_zero (Lui rd imm) stored = x_zero rd
sets_zero (Auipc rd imm) stored = x_zero rd
sets_zero (Jal rd imm) stored = x_zero rd
sets_zero (Jalr rd rs1 imm) stored = x_zero rd
sets_zero (Branch op rs1 rs2 imm) stored = refl
sets_zero (Load op rd rs1 imm) stored = x_zero rd
sets_zero (Store op rs1 rs2 imm) stored = refl
sets_zero (AluImm op rd rs1 imm) stored = x_zero rd
sets_zero (Alu op rd rs1 rs2) stored = x_zero rd
sets_zero (Fence fm before after rd rs1) stored = refl
sets_zero Ecall stored = refl
sets_zero Ebreak stored = refl
sets_zero Mret stored = refl
sets_zero Wfi stored = refl
sets_zero (Csr op rd source number) stored =
    ap (λ (b : Bool). b || (writes_csr op source && false)) (x_zero rd) ∙ and_never (writes_csr op source)
sets_zero (Lr wide aq rl rd rs1) stored = x_zero rd
sets_zero (Sc wide aq rl rd rs1 rs2) stored = ap (λ (b : Bool). stored && b) (x_zero rd) ∙ and_never stored
sets_zero (Amo op wide aq rl rd rs1 rs2) stored = x_zero rd

-- an SC that stored has one destination more than one that didn't
pub sets_stored : (i : Insn) (stored : Bool) (q : Register) → sets i stored q ≡ true → sets i true q ≡ true
sets_stored (Lui rd imm) stored q e = e
sets_stored (Auipc rd imm) stored q e = e
sets_stored (Jal rd imm) stored q e = e
sets_stored (Jalr rd rs1 imm) stored q e = e
sets_stored (Branch op rs1 rs2 imm) stored q e = e
sets_stored (Load op rd rs1 imm) stored q e = e
sets_stored (Store op rs1 rs2 imm) stored q e = e
sets_stored (AluImm op rd rs1 imm) stored q e = e
sets_stored (Alu op rd rs1 rs2) stored q e = e
sets_stored (Fence fm before after rd rs1) stored q e = e
sets_stored Ecall stored q e = e
sets_stored Ebreak stored q e = e
sets_stored Mret stored q e = e
sets_stored Wfi stored q e = e
sets_stored (Csr op rd source number) stored q e = e
sets_stored (Lr wide aq rl rd rs1) stored q e = e
sets_stored (Sc wide aq rl rd rs1 rs2) stored q e = (and_parts stored (is_x rd q) e).1
sets_stored (Amo op wide aq rl rd rs1 rs2) stored q e = e

no_csr : (a b c : Bool) → ((a && false && c) || (b && false)) ≡ false
no_csr true true c = refl
no_csr true false c = refl
no_csr false true c = refl
no_csr false false c = refl

-- nothing is carried from a CSR to a CSR
pub carries_no_csr : (i : Insn) (m n : ℕ) → carries i (register.Csr m) (register.Csr n) ≡ false
carries_no_csr (AluImm op rd rs1 imm) m n = refl
carries_no_csr (Alu op rd rs1 rs2) m n = refl
carries_no_csr (Csr op rd source number) m n =
    no_csr (from_register op) (is_csr number (register.Csr m)) (is_csr number (register.Csr n))
carries_no_csr _ m n = refl

-- no CSR gives an address
pub address_no_csr : (i : Insn) (n : ℕ) → is_address i (register.Csr n) ≡ false
address_no_csr (Load op rd rs1 imm) n = refl
address_no_csr (Store op rs1 rs2 imm) n = refl
address_no_csr (Lr wide aq rl rd rs1) n = refl
address_no_csr (Sc wide aq rl rd rs1 rs2) n = refl
address_no_csr (Amo op wide aq rl rd rs1 rs2) n = refl
address_no_csr _ n = refl

-- or data
pub data_no_csr : (i : Insn) (n : ℕ) → is_data i (register.Csr n) ≡ false
data_no_csr (Store op rs1 rs2 imm) n = refl
data_no_csr (Sc wide aq rl rd rs1 rs2) n = refl
data_no_csr (Amo op wide aq rl rd rs1 rs2) n = refl
data_no_csr _ n = refl

-- or decides where a branch goes
pub control_no_csr : (i : Insn) (n : ℕ) → is_control i (register.Csr n) ≡ false
control_no_csr (Jalr rd rs1 imm) n = refl
control_no_csr (Branch op rs1 rs2 imm) n = refl
control_no_csr _ n = refl

-- a CSR that is a destination is the one that is named
pub csr_named : (i : Insn) (stored : Bool) (n : ℕ) → sets i stored (register.Csr n) ≡ true
    → named_csr i ≡ Some (register.Csr n)
csr_named (Lui rd imm) stored n e = absurd (false≢true e)
csr_named (Auipc rd imm) stored n e = absurd (false≢true e)
csr_named (Jal rd imm) stored n e = absurd (false≢true e)
csr_named (Jalr rd rs1 imm) stored n e = absurd (false≢true e)
csr_named (Branch op rs1 rs2 imm) stored n e = absurd (false≢true e)
csr_named (Load op rd rs1 imm) stored n e = absurd (false≢true e)
csr_named (Store op rs1 rs2 imm) stored n e = absurd (false≢true e)
csr_named (AluImm op rd rs1 imm) stored n e = absurd (false≢true e)
csr_named (Alu op rd rs1 rs2) stored n e = absurd (false≢true e)
csr_named (Fence fm before after rd rs1) stored n e = absurd (false≢true e)
csr_named Ecall stored n e = absurd (false≢true e)
csr_named Ebreak stored n e = absurd (false≢true e)
csr_named Mret stored n e = absurd (false≢true e)
csr_named Wfi stored n e = absurd (false≢true e)
csr_named (Csr op rd source number) stored n e =
    ap (λ (k : ℕ). Some (register.Csr k))
    (sym (eqb-true n number (and_parts (writes_csr op source) (is_csr number (register.Csr n)) e).1))
csr_named (Lr wide aq rl rd rs1) stored n e = absurd (false≢true e)
csr_named (Sc wide aq rl rd rs1 rs2) stored n e = absurd (false≢true (sym (and_never stored) ∙ e))
csr_named (Amo op wide aq rl rd rs1 rs2) stored n e = absurd (false≢true e)
