-- The values that loads, stores and atomic instructions read and write (Unprivileged ISA 20191213).
use Rattle.std.specs.Prelude.{ℕ, ◌+◌, ◌%◌, ◌^◌, Bool, List, [], take, nat_lt, bit_and, bit_or, bit_xor, Option, Some}
use Rattle.std.specs.Prelude.{None, if◌then◌else◌}
use Rattle.std.specs.Int.{w64, to_le_bytes}
use Rattle.tandem_base.specs.Signs.{sign_extended}
use Rattle.rv_step.specs.Integers.{less_signed}
use Rattle.rv_decode.specs.declared.operations.LoadOp.{LoadOp}
use Rattle.rv_decode.specs.declared.operations.LoadOp.TheVariants.{Lb, Lh, Lw, Ld, Lbu, Lhu, Lwu}
use Rattle.rv_decode.specs.declared.operations.StoreOp.{StoreOp}
use Rattle.rv_decode.specs.declared.operations.StoreOp.TheVariants.{Sb, Sh, Sw, Sd}
use Rattle.rv_decode.specs.declared.operations.AmoOp.{AmoOp}
use Rattle.rv_decode.specs.declared.operations.AmoOp.TheVariants as amo

-- how many bytes a load reads
abbrev pub load_size : LoadOp → ℕ
load_size Lb = 1
load_size Lh = 2
load_size Lw = 4
load_size Ld = 8
load_size Lbu = 1
load_size Lhu = 2
load_size Lwu = 4

-- how many bytes a store writes
abbrev pub store_size : StoreOp → ℕ
store_size Sb = 1
store_size Sh = 2
store_size Sw = 4
store_size Sd = 8

-- how many bytes an atomic instruction works on
abbrev pub atomic_size : Bool → ℕ
atomic_size wide = if wide then 8 else 4

-- how many bits
abbrev pub atomic_width : Bool → ℕ
atomic_width wide = if wide then 64 else 32

-- the loaded bytes, none where there are none
abbrev pub bytes_of : Option (List ℕ) → List ℕ
bytes_of None = []
bytes_of (Some bytes) = bytes

-- what a load gives of the number that it reads: LW, LH and LB sign-extend, LWU, LHU and LBU
-- zero-extend (sections 2.6 and 5.3)
abbrev pub load_result : LoadOp → ℕ → ℕ
load_result Lb number = sign_extended 8 number
load_result Lh number = sign_extended 16 number
load_result Lw number = sign_extended 32 number
load_result Ld number = number
load_result Lbu number = number
load_result Lhu number = number
load_result Lwu number = number

-- the low bytes of a value, lowest first
abbrev pub low_bytes : ℕ → ℕ → List ℕ
low_bytes value len = take len (to_le_bytes w64 value)

-- what an atomic operation stores, of the loaded number and of rs2 (section 8.4)
abbrev pub amo_of : AmoOp → ℕ → ℕ → ℕ → ℕ
amo_of amo.Swap width a b = b
amo_of amo.Add width a b = (a + b) % 2 ^ width
amo_of amo.Xor width a b = bit_xor a b
amo_of amo.And width a b = bit_and a b
amo_of amo.Or width a b = bit_or a b
amo_of amo.Min width a b = if less_signed width b a then b else a
amo_of amo.Max width a b = if less_signed width a b then b else a
amo_of amo.Minu width a b = if nat_lt b a then b else a
amo_of amo.Maxu width a b = if nat_lt a b then b else a
