-- What each instruction does to a hart and reports (Unprivileged ISA 20191213; MRET and WFI: Volume
-- II, sections 3.2.2 and 3.2.3; the profile of traps is this project's own).
use Rattle.std.specs.Prelude.{ℕ, ◌≡◌, ◌+◌, ◌%◌, ◌^◌, ◌==◌, List, [], ◌∷◌, length, slice_set, Option, Some, None}
use Rattle.std.specs.Prelude.{MatchOption, if◌then◌else◌}
use Rattle.std.specs.Int.{w64, cast_unsigned, from_le_bytes}
use Rattle.tandem_base.specs.Bytes.{padded}
use Rattle.tandem_base.specs.Signs.{sign_extended}
use Rattle.csr_file.specs.CsrFile.{CsrValues, kept, written, trapped, returned}
use Rattle.tandem_base.specs.CsrNumbers as csr
use Rattle.msg_frames.specs.declared.csrs.CsrValue.{CsrValue}
use Rattle.msg_frames.specs.declared.message.RdValue.{RdValue}
use Rattle.rv_decode.specs.declared.operations.CsrOp.{CsrOp}
use Rattle.rv_decode.specs.declared.instruction.Insn.{Insn}
use Rattle.rv_decode.specs.declared.instruction.Insn.TheVariants.{Lui, Auipc, Jal, Jalr, Branch, Load, Store, AluImm}
use Rattle.rv_decode.specs.declared.instruction.Insn.TheVariants.{Alu, Fence, Ecall, Ebreak, Mret, Wfi, Csr, Lr, Sc}
use Rattle.rv_decode.specs.declared.instruction.Insn.TheVariants.{Amo}
use Rattle.rv_step.specs.Causes.{breakpoint, environment_call}
use Rattle.rv_step.specs.declared.effect.Effect.{Effect}
use Rattle.rv_step.specs.declared.effect.Outside.{Outside}
use Rattle.rv_step.specs.Harts.{HartState, x_of, with_x, plus, next_of}
use Rattle.rv_step.specs.Integers.{alu_result, alu_imm_result, is_taken, without_low_bit}
use Rattle.rv_step.specs.Memory.{store_size, atomic_size, atomic_width, bytes_of, load_result, low_bytes, amo_of}
use Rattle.rv_decode.specs.Registers.{writes_csr}
use Rattle.rv_step.specs.CsrUse.{operand_of, old_csr, new_csr}

-- a hart after an instruction, and what the instruction reports
pub record Done : Type 0 where
  pub hart : HartState
  pub effect : Effect

-- the register that is written: a write to x0 is none
abbrev pub rd_written : ℕ → ℕ → Option RdValue
rd_written rd value = if rd == 0 then None else Some (record { number = rd; value = value })

-- a CSR with a value
abbrev pub csr_value : ℕ → ℕ → CsrValue
csr_value number value = record { number = number; value = value }

-- one more, in 64 bits
abbrev pub incremented : ℕ → ℕ
incremented retired = (retired + 1) % 2 ^ 64

-- the report of an instruction that goes on at an address, and writes that register
abbrev pub reports : ℕ → Option RdValue → Effect
reports next rd = record { next = next; rd = rd; csrs = []; store = None; trap = None }

-- goes on at an address
abbrev pub goes : HartState → ℕ → Done
goes hart next = record {
  hart = record hart { pc = next; retired = incremented hart.retired };
  effect = reports next None;
}

-- writes a value to rd, and goes on at an address
abbrev pub writes_rd : HartState → ℕ → ℕ → ℕ → Done
writes_rd hart next rd value = record {
  hart = record hart {
    pc = next;
    registers = with_x hart.registers rd value;
    retired = incremented hart.retired;
  };
  effect = reports next (rd_written rd value);
}

-- the same, and stores bytes at an address
abbrev pub stores_bytes : Done → ℕ → List ℕ → Done
stores_bytes done addr bytes =
    record done { effect = record done.effect { store = Some (record { addr = addr; bytes = bytes }) } }

-- the same, and writes a CSR
abbrev pub sets_csr : Done → ℕ → ℕ → Done
sets_csr done number value = record {
  hart = record done.hart { csrs = written done.hart.csrs number value };
  effect = record done.effect { csrs = csr_value number (kept number value) ∷ [] };
}

-- the four CSRs that a trap wrote
abbrev pub trap_csrs : CsrValues → List CsrValue
trap_csrs csrs =
    csr_value csr.mstatus csrs.mstatus ∷ csr_value csr.mepc csrs.mepc ∷ csr_value csr.mcause csrs.mcause
    ∷ csr_value csr.mtval csrs.mtval ∷ []

-- takes a trap: it retires nothing, and reports the four CSRs that the trap wrote
abbrev pub traps : HartState → ℕ → ℕ → Done
traps hart cause value =
    let csrs = trapped hart.csrs cause hart.pc value in record {
      hart = record hart { pc = csrs.mtvec; csrs = csrs };
      effect = record {
        next = csrs.mtvec;
        rd = None;
        csrs = trap_csrs csrs;
        store = None;
        trap = Some cause;
      };
    }

-- returns from a trap
abbrev pub returns : HartState → Done
returns hart =
    let csrs = returned hart.csrs in record {
      hart = record hart { pc = csrs.mepc; csrs = csrs; retired = incremented hart.retired };
      effect = record {
        next = csrs.mepc;
        rd = None;
        csrs = csr_value csr.mstatus csrs.mstatus ∷ [];
        store = None;
        trap = None;
      };
    }

-- reads a CSR into rd, and then writes it where the instruction does
abbrev pub csr_done : HartState → ℕ → CsrOp → ℕ → ℕ → ℕ → Done
csr_done hart reported op rd source number =
    let old = old_csr hart number reported in
    let done = writes_rd hart (next_of hart) rd old in
    if writes_csr op source then sets_csr done number (new_csr op old (operand_of hart op source)) else done

-- the number that was loaded, of up to eight bytes, the lowest first
abbrev pub number_loaded : Outside → ℕ
number_loaded outside = from_le_bytes w64 (padded (bytes_of outside.load))

-- what an instruction does that raises no trap of its own beside ECALL and EBREAK
abbrev pub executed : HartState → Outside → Insn → Done
-- section 2.4: LUI and AUIPC
executed hart outside (Lui rd imm) = writes_rd hart (next_of hart) rd (cast_unsigned w64 imm)
executed hart outside (Auipc rd imm) = writes_rd hart (next_of hart) rd (plus hart.pc imm)
-- section 2.5: jumps and branches; JALR reads rs1 before it writes rd
executed hart outside (Jal rd imm) = writes_rd hart (plus hart.pc imm) rd (next_of hart)
executed hart outside (Jalr rd rs1 imm) =
    writes_rd hart (without_low_bit (plus (x_of hart rs1) imm)) rd (next_of hart)
executed hart outside (Branch op rs1 rs2 imm) =
    goes hart (if is_taken op (x_of hart rs1) (x_of hart rs2) then plus hart.pc imm else next_of hart)
-- section 2.6: loads and stores
executed hart outside (Load op rd rs1 imm) =
    writes_rd hart (next_of hart) rd (load_result op (number_loaded outside))
executed hart outside (Store op rs1 rs2 imm) =
    stores_bytes (goes hart (next_of hart)) (plus (x_of hart rs1) imm) (low_bytes (x_of hart rs2) (store_size op))
-- sections 2.4, 5.2, 7.1 and 7.2: integer operations
executed hart outside (AluImm op rd rs1 imm) =
    writes_rd hart (next_of hart) rd (alu_imm_result op (x_of hart rs1) imm)
executed hart outside (Alu op rd rs1 rs2) =
    writes_rd hart (next_of hart) rd (alu_result op (x_of hart rs1) (x_of hart rs2))
-- section 2.7: a FENCE does nothing to registers
executed hart outside (Fence fm pred succ rd rs1) = goes hart (next_of hart)
-- section 2.8: ECALL and EBREAK
executed hart outside Ecall = traps hart environment_call 0
executed hart outside Ebreak = traps hart breakpoint 0
-- Volume II: MRET and WFI
executed hart outside Mret = returns hart
executed hart outside Wfi = goes hart (next_of hart)
-- section 9.1: CSR instructions read the old value before they write
executed hart outside (Csr op rd source number) = csr_done hart outside.reported op rd source number
-- section 8.2: LR and SC; a failed SC writes the reported value to rd
executed hart outside (Lr wide aq rl rd rs1) =
    writes_rd hart (next_of hart) rd (sign_extended (atomic_width wide) (number_loaded outside))
executed hart outside (Sc wide aq rl rd rs1 rs2) =
    if outside.stored
    then
    stores_bytes (writes_rd hart (next_of hart) rd 0) (x_of hart rs1)
    (low_bytes (x_of hart rs2) (atomic_size wide))
    else writes_rd hart (next_of hart) rd outside.reported
-- section 8.4: atomic operations work on the loaded number and the low bits of rs2
executed hart outside (Amo op wide aq rl rd rs1 rs2) =
    let width = atomic_width wide in
    let old = number_loaded outside % 2 ^ width in
    stores_bytes (writes_rd hart (next_of hart) rd (sign_extended width old)) (x_of hart rs1)
    (low_bytes (amo_of op width old (x_of hart rs2 % 2 ^ width)) (atomic_size wide))

-- what an instruction is to do: a trap with its cause and its mtval; no access; the read of a
-- counter whose value is reported; or an access to some bytes from an address on
pub data Doing : Type 0 where
  trap : (cause value : ℕ) → Doing
  plain : Insn → Doing
  counter : Insn → Doing
  load : Insn → (addr len : ℕ) → Doing
  store : Insn → (addr len : ℕ) → Doing
  lr : Insn → (addr len : ℕ) → Doing
  sc : Insn → (addr len : ℕ) → Doing
  amo : Insn → (addr len : ℕ) → Doing

-- what is done by a plan
abbrev pub finished : HartState → Outside → Doing → Done
finished hart outside (trap cause value) = traps hart cause value
finished hart outside (plain insn) = executed hart outside insn
finished hart outside (counter insn) = executed hart outside insn
finished hart outside (load insn addr len) = executed hart outside insn
finished hart outside (store insn addr len) = executed hart outside insn
finished hart outside (lr insn addr len) = executed hart outside insn
finished hart outside (sc insn addr len) = executed hart outside insn
finished hart outside (amo insn addr len) = executed hart outside insn

-- the bytes that a load, LR or AMO reads are there, as many as it reads
abbrev pub HasLoaded : Outside → ℕ → Type 0
HasLoaded outside len = MatchOption outside.load ⊥ (λ bytes. length bytes ≡ len)

-- the same, for what is to be done
abbrev pub IsLoaded : Outside → Doing → Type 0
IsLoaded outside (trap cause value) = Unit {0}
IsLoaded outside (plain insn) = Unit {0}
IsLoaded outside (counter insn) = Unit {0}
IsLoaded outside (load insn addr len) = HasLoaded outside len
IsLoaded outside (store insn addr len) = Unit {0}
IsLoaded outside (lr insn addr len) = HasLoaded outside len
IsLoaded outside (sc insn addr len) = Unit {0}
IsLoaded outside (amo insn addr len) = HasLoaded outside len

-- the registers after a reported value
abbrev pub register_set : List ℕ → Option RdValue → List ℕ
register_set registers None = registers
register_set registers (Some rd) = slice_set registers rd.number rd.value

-- the CSRs after the reported ones are written, in their order
unfoldable pub csrs_set : CsrValues → List CsrValue → CsrValues
csrs_set csrs [] = csrs
csrs_set csrs (c ∷ rest) = csrs_set (written csrs c.number c.value) rest

-- the count of retired instructions after a report: a trap retires nothing
abbrev pub retired_after : ℕ → Option ℕ → ℕ
retired_after retired None = incremented retired
retired_after retired (Some cause) = retired

-- a hart that becomes what a report says
abbrev pub committed : HartState → Effect → HartState
committed hart effect = record {
  pc = effect.next;
  registers = register_set hart.registers effect.rd;
  csrs = csrs_set hart.csrs effect.csrs;
  retired = retired_after hart.retired effect.trap;
}
