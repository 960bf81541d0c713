-- What the CSR instructions read and write (Unprivileged ISA 20191213, sections 9.1 and 10.1).
use Rattle.std.specs.Prelude.{ℕ, ◌-◌, ◌^◌, ◌==◌, Bool, not, ◌&&◌, ◌||◌, bit_and, bit_or}
use Rattle.csr_file.specs.CsrFile.{is_implemented, is_read_only, read_of}
use Rattle.tandem_base.specs.CsrNumbers as csr
use Rattle.csr_file.specs.declared.answers.CsrRead.{CsrRead}
use Rattle.csr_file.specs.declared.answers.CsrRead.TheVariants as read
use Rattle.rv_decode.specs.declared.operations.CsrOp.{CsrOp}
use Rattle.rv_decode.specs.declared.operations.CsrOp.TheVariants.{Rw, Rs, Rc, Rwi, Rsi, Rci}
use Rattle.rv_decode.specs.Registers.{writes_csr}
use Rattle.rv_step.specs.Harts.{HartState, x_of}

-- a CSR of this number is there, and it isn't a read-only one that is written
abbrev pub is_legal_csr : CsrOp → ℕ → ℕ → Bool
is_legal_csr op source number = is_implemented number && not (writes_csr op source && is_read_only number)

-- the counters whose value is known outside alone
abbrev pub is_counter : ℕ → Bool
is_counter number = (number == csr.cycle) || (number == csr.time)

-- the register, or the immediate
abbrev pub operand_of : HartState → CsrOp → ℕ → ℕ
operand_of hart Rw source = x_of hart source
operand_of hart Rs source = x_of hart source
operand_of hart Rc source = x_of hart source
operand_of hart Rwi source = source
operand_of hart Rsi source = source
operand_of hart Rci source = source

-- the value that is read, where the value of a counter is reported
abbrev pub value_read : CsrRead → ℕ → ℕ → ℕ
value_read (read.Value value) retired reported = value
value_read read.Cycle retired reported = reported
value_read read.Time retired reported = reported
value_read read.Instret retired reported = retired
value_read read.Absent retired reported = 0

-- the value of a CSR before the instruction
abbrev pub old_csr : HartState → ℕ → ℕ → ℕ
old_csr hart number reported = value_read (read_of hart.csrs number) hart.retired reported

-- the value that is written: the operand, or the old value with the operand's bits set or cleared
abbrev pub new_csr : CsrOp → ℕ → ℕ → ℕ
new_csr Rw old operand = operand
new_csr Rs old operand = bit_or old operand
new_csr Rc old operand = bit_and old (2 ^ 64 - 1 - operand)
new_csr Rwi old operand = operand
new_csr Rsi old operand = bit_or old operand
new_csr Rci old operand = bit_and old (2 ^ 64 - 1 - operand)
