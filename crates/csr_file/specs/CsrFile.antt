-- The control and status registers of a hart that has machine mode alone: what each number is, what
-- a write keeps, and what a trap and MRET do (Unprivileged ISA 20191213, chapters 9 and 10, for the
-- instructions and the counters; the profile of machine mode is this project's own).
use Rattle.std.specs.Prelude.{ℕ, ◌+◌, ◌-◌, ◌*◌, ◌/◌, ◌%◌, ◌^◌, ◌==◌, Bool, not, if◌then◌else◌, nat_eq}
use Rattle.std.specs.Int.{bit_at}
use Rattle.std.specs.List.{list_any}
use Rattle.tandem_base.specs.CsrNumbers as csr
use Rattle.csr_file.specs.declared.answers.CsrRead.{CsrRead}
use Rattle.csr_file.specs.declared.answers.CsrRead.TheVariants as read
use Rattle.csr_file.specs.declared.answers.CsrWrite.{CsrWrite}
use Rattle.csr_file.specs.declared.answers.CsrWrite.TheVariants as write

-- the registers that hold a value; mip always holds 0
pub record CsrValues : Type 0 where
  pub mstatus : ℕ
  pub mie : ℕ
  pub mtvec : ℕ
  pub mscratch : ℕ
  pub mepc : ℕ
  pub mcause : ℕ
  pub mtval : ℕ
  pub mhartid : ℕ

-- there is a register of this number: it is one of the twelve
abbrev pub is_implemented : ℕ → Bool
is_implemented number = list_any (nat_eq number) csr.numbers

-- bits 11:10 are 11
abbrev pub is_read_only : ℕ → Bool
is_read_only number = number / 2 ^ 10 % 4 == 3

-- the interrupt enable MIE, bit 3; the one before the last trap, MPIE, bit 7; MPP, bits 12:11, is
-- always 11, machine mode
abbrev pub mstatus_of : ℕ → ℕ → ℕ
mstatus_of mie mpie = 3 * 2 ^ 11 + mpie * 2 ^ 7 + mie * 2 ^ 3

-- bits 63:2 of a value
abbrev pub multiple_of_4 : ℕ → ℕ
multiple_of_4 value = value - value % 4

-- mstatus keeps MIE and MPIE
abbrev pub mstatus_kept : ℕ → ℕ
mstatus_kept value = mstatus_of (bit_at value 3) (bit_at value 7)

-- mie keeps MSIE, MTIE and MEIE, bits 3, 7 and 11
abbrev pub mie_kept : ℕ → ℕ
mie_kept value = bit_at value 11 * 2 ^ 11 + bit_at value 7 * 2 ^ 7 + bit_at value 3 * 2 ^ 3

-- what a write of a register keeps of the value
abbrev pub kept : ℕ → ℕ → ℕ
kept number value =
    if number == csr.mstatus then mstatus_kept value
    else if number == csr.mie then mie_kept value
    else if number == csr.mtvec then multiple_of_4 value
    else if number == csr.mepc then multiple_of_4 value
    else if number == csr.mip then 0
    else value

-- what a read answers
abbrev pub read_of : CsrValues → ℕ → CsrRead
read_of csrs number =
    if number == csr.mstatus then read.Value csrs.mstatus
    else if number == csr.mie then read.Value csrs.mie
    else if number == csr.mtvec then read.Value csrs.mtvec
    else if number == csr.mscratch then read.Value csrs.mscratch
    else if number == csr.mepc then read.Value csrs.mepc
    else if number == csr.mcause then read.Value csrs.mcause
    else if number == csr.mtval then read.Value csrs.mtval
    else if number == csr.mip then read.Value 0
    else if number == csr.cycle then read.Cycle
    else if number == csr.time then read.Time
    else if number == csr.instret then read.Instret
    else if number == csr.mhartid then read.Value csrs.mhartid
    else read.Absent

-- what a write answers
abbrev pub write_of : ℕ → ℕ → CsrWrite
write_of number value =
    if not (is_implemented number) then write.Absent
    else if is_read_only number then write.ReadOnly
    else write.Done (kept number value)

-- the registers after a write; one that isn't done changes nothing
abbrev pub written : CsrValues → ℕ → ℕ → CsrValues
written csrs number value =
    if number == csr.mstatus then record csrs { mstatus = kept csr.mstatus value }
    else if number == csr.mie then record csrs { mie = kept csr.mie value }
    else if number == csr.mtvec then record csrs { mtvec = kept csr.mtvec value }
    else if number == csr.mscratch then record csrs { mscratch = value }
    else if number == csr.mepc then record csrs { mepc = kept csr.mepc value }
    else if number == csr.mcause then record csrs { mcause = value }
    else if number == csr.mtval then record csrs { mtval = value }
    else csrs

-- the registers at the start
abbrev pub csrs_at_start : ℕ → CsrValues
csrs_at_start hart = record {
  mstatus = mstatus_of 0 0;
  mie = 0;
  mtvec = 0;
  mscratch = 0;
  mepc = 0;
  mcause = 0;
  mtval = 0;
  mhartid = hart;
}

-- a trap at an instruction, with its cause and the value for mtval: MPIE takes MIE, and MIE is 0
abbrev pub trapped : CsrValues → ℕ → ℕ → ℕ → CsrValues
trapped csrs cause pc value = record csrs {
  mstatus = mstatus_of 0 (bit_at csrs.mstatus 3);
  mepc = multiple_of_4 pc;
  mcause = cause;
  mtval = value;
}

-- MRET: MIE takes MPIE, and MPIE is 1
abbrev pub returned : CsrValues → CsrValues
returned csrs = record csrs { mstatus = mstatus_of (bit_at csrs.mstatus 7) 1 }
