-- The registers and CSRs that instructions use, as dependencies count them (section 14.1; the CSR instructions and
-- SC by this project's own table).
use Rattle.std.specs.Prelude.{ℕ, ◌==◌, ◌&&◌, ◌||◌, nat_lt, Bool, true, false, None, Some}
use Rattle.std.specs.declared.option.Option.{Option}
use Rattle.rv_decode.specs.declared.operations.CsrOp.{CsrOp}
use Rattle.rv_decode.specs.declared.operations.CsrOp.TheVariants.{Rw, Rs, Rc, Rwi, Rsi, Rci}
use Rattle.rv_decode.specs.declared.instruction.Insn.{Insn}
use Rattle.rv_decode.specs.declared.instruction.Insn.TheVariants.{Lui, Auipc, Jal, Jalr, Branch, Load, Store, AluImm}
use Rattle.rv_decode.specs.declared.instruction.Insn.TheVariants.{Alu, Fence, Ecall, Ebreak, Mret, Wfi, Csr, Lr, Sc}
use Rattle.rv_decode.specs.declared.instruction.Insn.TheVariants.{Amo}
use Rattle.rv_decode.specs.declared.registers.Register.{Register}
use Rattle.rv_decode.specs.declared.registers.Register.TheVariants as register

-- q is the integer register r; x0 is never meant
abbrev pub is_x : ℕ → Register → Bool
is_x r (register.X n) = nat_lt 0 r && (n == r)
is_x r (register.Csr n) = false

-- q is the CSR with that number
abbrev pub is_csr : ℕ → Register → Bool
is_csr number (register.X n) = false
is_csr number (register.Csr n) = n == number

-- a CSR instruction writes the CSR: always to swap, and to set or clear bits where its source isn't x0 or the
-- immediate 0 (section 9.1)
abbrev pub writes_csr : CsrOp → ℕ → Bool
writes_csr Rw source = true
writes_csr Rs source = nat_lt 0 source
writes_csr Rc source = nat_lt 0 source
writes_csr Rwi source = true
writes_csr Rsi source = nat_lt 0 source
writes_csr Rci source = nat_lt 0 source

-- the source of a CSR instruction is a register
abbrev pub from_register : CsrOp → Bool
from_register Rw = true
from_register Rs = true
from_register Rc = true
from_register Rwi = false
from_register Rsi = false
from_register Rci = false

-- q is a destination; the rd of an SC is one only where it stored
abbrev pub sets : Insn → Bool → Register → Bool
sets (Lui rd imm) stored q = is_x rd q
sets (Auipc rd imm) stored q = is_x rd q
sets (Jal rd imm) stored q = is_x rd q
sets (Jalr rd rs1 imm) stored q = is_x rd q
sets (Branch op rs1 rs2 imm) stored q = false
sets (Load op rd rs1 imm) stored q = is_x rd q
sets (Store op rs1 rs2 imm) stored q = false
sets (AluImm op rd rs1 imm) stored q = is_x rd q
sets (Alu op rd rs1 rs2) stored q = is_x rd q
sets (Fence fm before after rd rs1) stored q = false
sets Ecall stored q = false
sets Ebreak stored q = false
sets Mret stored q = false
sets Wfi stored q = false
sets (Csr op rd source number) stored q = is_x rd q || (writes_csr op source && is_csr number q)
sets (Lr wide aq rl rd rs1) stored q = is_x rd q
sets (Sc wide aq rl rd rs1 rs2) stored q = stored && is_x rd q
sets (Amo op wide aq rl rd rs1 rs2) stored q = is_x rd q

-- the source p is carried to the destination q: by arithmetic from its operands, and by a CSR instruction from the
-- register to the CSR and from the CSR to rd; loads, jumps and all others carry nothing
abbrev pub carries : Insn → Register → Register → Bool
carries (AluImm op rd rs1 imm) p q = is_x rs1 p && is_x rd q
carries (Alu op rd rs1 rs2) p q = (is_x rs1 p || is_x rs2 p) && is_x rd q
carries (Csr op rd source number) p q =
    (from_register op && is_x source p && is_csr number q) || (is_csr number p && is_x rd q)
carries _ p q = false

-- r gives a memory access its address
abbrev pub is_address : Insn → Register → Bool
is_address (Load op rd rs1 imm) r = is_x rs1 r
is_address (Store op rs1 rs2 imm) r = is_x rs1 r
is_address (Lr wide aq rl rd rs1) r = is_x rs1 r
is_address (Sc wide aq rl rd rs1 rs2) r = is_x rs1 r
is_address (Amo op wide aq rl rd rs1 rs2) r = is_x rs1 r
is_address _ r = false

-- r gives a store, SC or AMO its data
abbrev pub is_data : Insn → Register → Bool
is_data (Store op rs1 rs2 imm) r = is_x rs2 r
is_data (Sc wide aq rl rd rs1 rs2) r = is_x rs2 r
is_data (Amo op wide aq rl rd rs1 rs2) r = is_x rs2 r
is_data _ r = false

-- r decides where a branch or an indirect jump goes
abbrev pub is_control : Insn → Register → Bool
is_control (Branch op rs1 rs2 imm) r = is_x rs1 r || is_x rs2 r
is_control (Jalr rd rs1 imm) r = is_x rs1 r
is_control _ r = false

-- the register that an instruction has as rd, x0 too
abbrev pub named_rd : Insn → Option Register
named_rd (Lui rd imm) = Some (register.X rd)
named_rd (Auipc rd imm) = Some (register.X rd)
named_rd (Jal rd imm) = Some (register.X rd)
named_rd (Jalr rd rs1 imm) = Some (register.X rd)
named_rd (Branch op rs1 rs2 imm) = None
named_rd (Load op rd rs1 imm) = Some (register.X rd)
named_rd (Store op rs1 rs2 imm) = None
named_rd (AluImm op rd rs1 imm) = Some (register.X rd)
named_rd (Alu op rd rs1 rs2) = Some (register.X rd)
named_rd (Fence fm before after rd rs1) = None
named_rd Ecall = None
named_rd Ebreak = None
named_rd Mret = None
named_rd Wfi = None
named_rd (Csr op rd source number) = Some (register.X rd)
named_rd (Lr wide aq rl rd rs1) = Some (register.X rd)
named_rd (Sc wide aq rl rd rs1 rs2) = Some (register.X rd)
named_rd (Amo op wide aq rl rd rs1 rs2) = Some (register.X rd)

-- the CSR that it names
abbrev pub named_csr : Insn → Option Register
named_csr (Csr op rd source number) = Some (register.Csr number)
named_csr _ = None

-- it is that number
abbrev pub is_number : Option ℕ → ℕ → Bool
is_number None n = false
is_number (Some m) n = m == n

-- it is that register; x0 is never meant
abbrev pub is_register : Option Register → Register → Bool
is_register None q = false
is_register (Some (register.X n)) q = is_x n q
is_register (Some (register.Csr n)) q = is_csr n q
