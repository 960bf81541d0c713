-- The formats of instruction words (sections 2.2, 2.3 and 24), each with its fields from bit 31 down to bit 0.
use Rattle.std.specs.Prelude.{◌≡◌, ℕ, ◌+◌, ◌-◌, ◌*◌, ◌/◌, ◌%◌, ◌^◌, ◌<◌, ℤ, pos, negsuc, Bool, true, false}

-- bits high to low of a number, which the manual writes n[high:low]
abbrev pub part : ℕ → ℕ → ℕ → ℕ
part n high low = n / 2 ^ low % 2 ^ (high + 1 - low)

-- the bits of a signed number in two's complement, of so many bits
abbrev pub twos_complement : ℕ → ℤ → ℕ
twos_complement bits (pos n) = n
twos_complement bits (negsuc n) = 2 ^ bits - 1 - n

-- a signed number that so many bits hold
abbrev pub IsSigned : ℕ → ℤ → Type 0
IsSigned bits (pos n) = n < 2 ^ (bits - 1)
IsSigned bits (negsuc n) = n < 2 ^ (bits - 1)

-- a signed multiple of 2 ^ zeros that so many bits hold
pub record IsMultiple (bits zeros : ℕ) (imm : ℤ) : Type 0 where
  pub range : IsSigned bits imm
  pub low : twos_complement bits imm % 2 ^ zeros ≡ 0

-- a shift amount that so many bits hold
abbrev pub IsAmount : ℕ → ℤ → Type 0
IsAmount bits (pos n) = n < 2 ^ bits
IsAmount bits (negsuc n) = ⊥

-- a truth value as a bit, 0 or 1
abbrev pub bit_of : Bool → ℕ
bit_of false = 0
bit_of true = 1

-- funct7 | rs2 | rs1 | funct3 | rd | opcode
abbrev pub r_type : ℕ → ℕ → ℕ → ℕ → ℕ → ℕ → ℕ
r_type funct7 rs2 rs1 funct3 rd opcode =
    funct7 * 2 ^ 25 + rs2 * 2 ^ 20 + rs1 * 2 ^ 15 + funct3 * 2 ^ 12 + rd * 2 ^ 7 + opcode

-- imm[11:0] | rs1 | funct3 | rd | opcode
abbrev pub i_type : ℕ → ℕ → ℕ → ℕ → ℕ → ℕ
i_type imm rs1 funct3 rd opcode =
    part imm 11 0 * 2 ^ 20 + rs1 * 2 ^ 15 + funct3 * 2 ^ 12 + rd * 2 ^ 7 + opcode

-- imm[11:5] | rs2 | rs1 | funct3 | imm[4:0] | opcode
abbrev pub s_type : ℕ → ℕ → ℕ → ℕ → ℕ → ℕ
s_type imm rs2 rs1 funct3 opcode =
    part imm 11 5 * 2 ^ 25 + rs2 * 2 ^ 20 + rs1 * 2 ^ 15 + funct3 * 2 ^ 12 + part imm 4 0 * 2 ^ 7 + opcode

-- imm[12] | imm[10:5] | rs2 | rs1 | funct3 | imm[4:1] | imm[11] | opcode
abbrev pub b_type : ℕ → ℕ → ℕ → ℕ → ℕ → ℕ
b_type imm rs2 rs1 funct3 opcode =
    part imm 12 12 * 2 ^ 31 + part imm 10 5 * 2 ^ 25 + rs2 * 2 ^ 20 + rs1 * 2 ^ 15 + funct3 * 2 ^ 12
    + part imm 4 1 * 2 ^ 8 + part imm 11 11 * 2 ^ 7 + opcode

-- imm[31:12] | rd | opcode
abbrev pub u_type : ℕ → ℕ → ℕ → ℕ
u_type imm rd opcode = part imm 31 12 * 2 ^ 12 + rd * 2 ^ 7 + opcode

-- imm[20] | imm[10:1] | imm[11] | imm[19:12] | rd | opcode
abbrev pub j_type : ℕ → ℕ → ℕ → ℕ
j_type imm rd opcode =
    part imm 20 20 * 2 ^ 31 + part imm 10 1 * 2 ^ 21 + part imm 11 11 * 2 ^ 20 + part imm 19 12 * 2 ^ 12
    + rd * 2 ^ 7 + opcode

-- a shift on 64 bits: funct6 | shamt | rs1 | funct3 | rd | opcode
abbrev pub shift_type : ℕ → ℕ → ℕ → ℕ → ℕ → ℕ → ℕ
shift_type funct6 shamt rs1 funct3 rd opcode =
    funct6 * 2 ^ 26 + shamt * 2 ^ 20 + rs1 * 2 ^ 15 + funct3 * 2 ^ 12 + rd * 2 ^ 7 + opcode

-- an atomic instruction: funct5 | aq | rl | rs2 | rs1 | funct3 | rd | opcode
abbrev pub a_type : ℕ → Bool → Bool → ℕ → ℕ → ℕ → ℕ → ℕ → ℕ
a_type funct5 aq rl rs2 rs1 funct3 rd opcode =
    funct5 * 2 ^ 27 + bit_of aq * 2 ^ 26 + bit_of rl * 2 ^ 25 + rs2 * 2 ^ 20 + rs1 * 2 ^ 15 + funct3 * 2 ^ 12
    + rd * 2 ^ 7 + opcode

-- a fence: fm | pred | succ | rs1 | funct3 | rd | opcode
abbrev pub fence_type : ℕ → ℕ → ℕ → ℕ → ℕ → ℕ → ℕ → ℕ
fence_type fm pred succ rs1 funct3 rd opcode =
    fm * 2 ^ 28 + pred * 2 ^ 24 + succ * 2 ^ 20 + rs1 * 2 ^ 15 + funct3 * 2 ^ 12 + rd * 2 ^ 7 + opcode
