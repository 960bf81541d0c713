-- What a hart holds.
use Rattle.std.specs.Prelude.{ℕ, ◌+◌, ◌%◌, ◌^◌, ◌==◌, ℤ, List, slice_index, slice_set, replicate, if◌then◌else◌}
use Rattle.std.specs.Int.{w64, cast_unsigned}
use Rattle.csr_file.specs.CsrFile.{CsrValues, csrs_at_start, written}
use Rattle.msg_frames.specs.declared.message.Target.{Target}
use Rattle.msg_frames.specs.declared.message.Target.TheVariants.{Pc, X, Csr}

-- the pc, the registers x0 to x31 (x0 is 0), the CSRs, and how many instructions the hart retired
-- without a trap
pub record HartState : Type 0 where
  pub pc : ℕ
  pub registers : List ℕ
  pub csrs : CsrValues
  pub retired : ℕ

-- the value of a register
abbrev pub x_of : HartState → ℕ → ℕ
x_of hart number = slice_index hart.registers number

-- the registers after a value is written to one of them; a write to x0 is none
abbrev pub with_x : List ℕ → ℕ → ℕ → List ℕ
with_x registers number value = if number == 0 then registers else slice_set registers number value

-- a signed number added to an address or a value, modulo 2 ^ 64
abbrev pub plus : ℕ → ℤ → ℕ
plus a imm = (a + cast_unsigned w64 imm) % 2 ^ 64

-- the address of the word behind the hart's instruction
abbrev pub next_of : HartState → ℕ
next_of hart = (hart.pc + 4) % 2 ^ 64

-- a hart at the start
abbrev pub at_start : ℕ → ℕ → HartState
at_start number pc =
    record { pc = pc; registers = replicate 32 0; csrs = csrs_at_start number; retired = 0 }

-- a hart after its pc, a register or a CSR is set from outside; a CSR keeps what a write keeps
abbrev pub hart_poked : HartState → Target → ℕ → HartState
hart_poked hart Pc value = record hart { pc = value }
hart_poked hart (X number) value = record hart { registers = with_x hart.registers number value }
hart_poked hart (Csr number) value = record hart { csrs = written hart.csrs number value }
