-- The causes of traps (Volume II, the table of mcause values).
use Rattle.std.specs.Prelude.{ℕ}

-- a jump to a target that isn't a multiple of 4
abbrev pub misaligned_fetch : ℕ
misaligned_fetch = 0

-- no word at the pc
abbrev pub fetch_fault : ℕ
fetch_fault = 1

-- a word that is no instruction, or a CSR that may not be used so
abbrev pub illegal_instruction : ℕ
illegal_instruction = 2

-- EBREAK
abbrev pub breakpoint : ℕ
breakpoint = 3

-- a load or LR whose address isn't a multiple of its length
abbrev pub misaligned_load : ℕ
misaligned_load = 4

-- a load or LR with a byte outside the image
abbrev pub load_fault : ℕ
load_fault = 5

-- a store, SC or AMO whose address isn't a multiple of its length
abbrev pub misaligned_store : ℕ
misaligned_store = 6

-- a store, SC or AMO with a byte outside the image
abbrev pub store_fault : ℕ
store_fault = 7

-- ECALL from machine mode
abbrev pub environment_call : ℕ
environment_call = 11
