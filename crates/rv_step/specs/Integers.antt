-- The results of the integer instructions (Unprivileged ISA 20191213), modulo 2 ^ 64.
use Rattle.std.specs.Prelude.{int_lt, pos, ℕ, ◌+◌, ◌-◌, ◌*◌, ◌/◌, ◌%◌, ◌^◌, ◌==◌, ℤ, Bool, not, nat_lt, bit_and, bit_or}
use Rattle.std.specs.Prelude.{bit_xor}
use Rattle.std.specs.Int.{w64, cast_unsigned, int_div_euclid}
use Rattle.rv_decode.specs.Formats.{bit_of, twos_complement}
use Rattle.tandem_base.specs.Signs.{represents, sign_extended}
use Rattle.tandem_base.specs.Multiplication.{mulh_of, mulhu_of, mulhsu_of}
use Rattle.tandem_base.specs.Division.{div_of, divu_of, rem_of, remu_of}
use Rattle.rv_decode.specs.declared.operations.BranchOp.{BranchOp}
use Rattle.rv_decode.specs.declared.operations.BranchOp.TheVariants.{Beq, Bne, Blt, Bge, Bltu, Bgeu}
use Rattle.rv_decode.specs.declared.operations.ImmOp.{ImmOp}
use Rattle.rv_decode.specs.declared.operations.ImmOp.TheVariants.{Addi, Slti, Sltiu, Xori, Ori, Andi, Slli, Srli, Srai}
use Rattle.rv_decode.specs.declared.operations.ImmOp.TheVariants.{Addiw, Slliw, Srliw, Sraiw}
use Rattle.rv_decode.specs.declared.operations.RegOp.{RegOp}
use Rattle.rv_decode.specs.declared.operations.RegOp.TheVariants.{Add, Sub, Sll, Slt, Sltu, Xor, Srl, Sra, Or, And, Mul}
use Rattle.rv_decode.specs.declared.operations.RegOp.TheVariants.{Mulh, Mulhsu, Mulhu, Div, Divu, Rem, Remu, Addw, Subw}
use Rattle.rv_decode.specs.declared.operations.RegOp.TheVariants.{Sllw, Srlw, Sraw, Mulw, Divw, Divuw, Remw, Remuw}

-- one number with a sign is below another
abbrev pub less_signed : ℕ → ℕ → ℕ → Bool
less_signed width a b = int_lt (represents width a) (represents width b)

-- the low 32 bits
abbrev pub low_word : ℕ → ℕ
low_word a = a % 2 ^ 32

-- a sum
abbrev pub sum_of : ℕ → ℕ → ℕ
sum_of a b = (a + b) % 2 ^ 64

-- a difference
abbrev pub sub_of : ℕ → ℕ → ℕ
sub_of a b = (a + (2 ^ 64 - b)) % 2 ^ 64

-- a shift to the left
abbrev pub sll_of : ℕ → ℕ → ℕ
sll_of a amount = a * 2 ^ amount % 2 ^ 64

-- a logical shift to the right
abbrev pub srl_of : ℕ → ℕ → ℕ
srl_of a amount = a / 2 ^ amount

-- an arithmetic shift to the right: the number with a sign divided by a power of 2, and rounded down
abbrev pub sra_of : ℕ → ℕ → ℕ → ℕ
sra_of width a amount = twos_complement width (int_div_euclid (represents width a) (pos (2 ^ amount)))

-- two registers: sections 2.4 and 5.2 (the amount of a shift is in the low 6 bits of rs2, or in the
-- low 5 for a word), 7.1 and 7.2; the W forms work on the low 32 bits, and sign-extend the result
abbrev pub alu_result : RegOp → ℕ → ℕ → ℕ
alu_result Add a b = sum_of a b
alu_result Sub a b = sub_of a b
alu_result Sll a b = sll_of a (b % 64)
alu_result Slt a b = bit_of (less_signed 64 a b)
alu_result Sltu a b = bit_of (nat_lt a b)
alu_result Xor a b = bit_xor a b
alu_result Srl a b = srl_of a (b % 64)
alu_result Sra a b = sra_of 64 a (b % 64)
alu_result Or a b = bit_or a b
alu_result And a b = bit_and a b
alu_result Mul a b = a * b % 2 ^ 64
alu_result Mulh a b = mulh_of a b
alu_result Mulhsu a b = mulhsu_of a b
alu_result Mulhu a b = mulhu_of a b
alu_result Div a b = div_of 64 a b
alu_result Divu a b = divu_of 64 a b
alu_result Rem a b = rem_of 64 a b
alu_result Remu a b = remu_of a b
alu_result Addw a b = sign_extended 32 (sum_of a b)
alu_result Subw a b = sign_extended 32 (sub_of a b)
alu_result Sllw a b = sign_extended 32 (sll_of a (b % 32))
alu_result Srlw a b = sign_extended 32 (srl_of (low_word a) (b % 32))
alu_result Sraw a b = sign_extended 32 (sra_of 32 (low_word a) (b % 32))
alu_result Mulw a b = sign_extended 32 (a * b % 2 ^ 64)
alu_result Divw a b = sign_extended 32 (div_of 32 (low_word a) (low_word b))
alu_result Divuw a b = sign_extended 32 (divu_of 32 (low_word a) (low_word b))
alu_result Remw a b = sign_extended 32 (rem_of 32 (low_word a) (low_word b))
alu_result Remuw a b = sign_extended 32 (remu_of (low_word a) (low_word b))

-- the operation on two registers that an operation on an immediate makes
abbrev pub with_register : ImmOp → RegOp
with_register Addi = Add
with_register Slti = Slt
with_register Sltiu = Sltu
with_register Xori = Xor
with_register Ori = Or
with_register Andi = And
with_register Slli = Sll
with_register Srli = Srl
with_register Srai = Sra
with_register Addiw = Addw
with_register Slliw = Sllw
with_register Srliw = Srlw
with_register Sraiw = Sraw

-- a register and an immediate, sign-extended to 64 bits: sections 2.4 and 5.2
abbrev pub alu_imm_result : ImmOp → ℕ → ℤ → ℕ
alu_imm_result op a imm = alu_result (with_register op) a (cast_unsigned w64 imm)

-- a branch is taken: section 2.5
abbrev pub is_taken : BranchOp → ℕ → ℕ → Bool
is_taken Beq a b = a == b
is_taken Bne a b = not (a == b)
is_taken Blt a b = less_signed 64 a b
is_taken Bge a b = not (less_signed 64 a b)
is_taken Bltu a b = nat_lt a b
is_taken Bgeu a b = not (nat_lt a b)

-- the target of JALR: the lowest bit of the sum is cleared (section 2.5)
abbrev pub without_low_bit : ℕ → ℕ
without_low_bit a = a - a % 2
