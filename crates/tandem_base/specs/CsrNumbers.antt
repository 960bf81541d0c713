-- The numbers of the twelve CSRs (Unprivileged ISA 20191213, section 10.1, for the counters;
-- Volume II, the table of CSR addresses, for those of machine mode).
use Rattle.std.specs.Prelude.{ℕ, List, [], ◌∷◌}

-- the status of the hart
abbrev pub mstatus : ℕ
mstatus = 0x300

-- which interrupts are enabled
abbrev pub mie : ℕ
mie = 0x304

-- where traps are handled
abbrev pub mtvec : ℕ
mtvec = 0x305

-- a register for the trap handler
abbrev pub mscratch : ℕ
mscratch = 0x340

-- the pc of the instruction that trapped
abbrev pub mepc : ℕ
mepc = 0x341

-- the cause of the trap
abbrev pub mcause : ℕ
mcause = 0x342

-- the value of the trap
abbrev pub mtval : ℕ
mtval = 0x343

-- which interrupts are pending
abbrev pub mip : ℕ
mip = 0x344

-- cycles that were executed
abbrev pub cycle : ℕ
cycle = 0xC00

-- real time
abbrev pub time : ℕ
time = 0xC01

-- instructions that were retired
abbrev pub instret : ℕ
instret = 0xC02

-- the number of the hart
abbrev pub mhartid : ℕ
mhartid = 0xF14

-- all of them
abbrev pub numbers : List ℕ
numbers =
    mstatus ∷ mie ∷ mtvec ∷ mscratch ∷ mepc ∷ mcause ∷ mtval ∷ mip ∷ cycle ∷ time ∷ instret
    ∷ mhartid ∷ []
