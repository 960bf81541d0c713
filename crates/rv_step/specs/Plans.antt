-- What the instruction at a hart's pc is to do: the trap that it raises, or the bytes that it
-- accesses (Unprivileged ISA 20191213; the profile of traps is this project's own).
use Rattle.std.specs.Prelude.{ℕ, zero, suc, ◌≡◌, ◌+◌, ◌%◌, ◌^◌, ◌==◌, Bool, true, false, not, ◌&&◌, nat_le, Option}
use Rattle.std.specs.Prelude.{Some, None, is_some, if◌then◌else◌}
use Rattle.elf_image.specs.Images.{Loaded, word_at}
use Rattle.rv_decode.specs.Decoding.{decoding}
use Rattle.rv_decode.specs.declared.instruction.Insn.{Insn}
use Rattle.rv_decode.specs.declared.instruction.Insn.TheVariants.{Lui, Auipc, Jal, Jalr, Branch, Load, Store, AluImm}
use Rattle.rv_decode.specs.declared.instruction.Insn.TheVariants.{Alu, Fence, Ecall, Ebreak, Mret, Wfi, Csr, Lr, Sc}
use Rattle.rv_decode.specs.declared.instruction.Insn.TheVariants.{Amo}
use Rattle.rv_step.specs.Causes.{misaligned_fetch, fetch_fault, illegal_instruction, breakpoint, misaligned_load}
use Rattle.rv_step.specs.Causes.{load_fault, misaligned_store, store_fault, environment_call}
use Rattle.rv_step.specs.declared.plan.Config.{Config}
use Rattle.rv_step.specs.declared.effect.Outside.{Outside}
use Rattle.rv_step.specs.declared.plan.Plan.{Plan}
use Rattle.rv_step.specs.declared.plan.What.{What}
use Rattle.rv_step.specs.declared.plan.What.TheVariants as what
use Rattle.rv_step.specs.Harts.{HartState, x_of, plus}
use Rattle.rv_step.specs.Integers.{is_taken, without_low_bit}
use Rattle.rv_step.specs.Memory.{load_size, store_size, atomic_size}
use Rattle.rv_step.specs.CsrUse.{is_legal_csr, is_counter}
use Rattle.rv_step.specs.Steps.{Doing, trap, plain, counter, load, store, lr, sc, amo, Done, finished}

-- mtval of an illegal instruction is the word, or 0
abbrev pub illegal : Config → ℕ → Doing
illegal config word = trap illegal_instruction (if config.mtval_word then word else 0)

-- the image has each of the bytes from an address on
unfoldable pub has_bytes : Loaded → ℕ → ℕ → Bool
has_bytes image addr zero = true
has_bytes image addr (suc len) = has_bytes image addr len && is_some (image.byte_at (addr + len))

-- the same, where the bytes don't pass 2 ^ 64
abbrev pub is_held : Loaded → ℕ → ℕ → Bool
is_held image addr len = nat_le (addr + len) (2 ^ 64) && has_bytes image addr len

-- the instruction accesses memory
abbrev pub is_access : Insn → Bool
is_access (Load op rd rs1 imm) = true
is_access (Store op rs1 rs2 imm) = true
is_access (Lr wide aq rl rd rs1) = true
is_access (Sc wide aq rl rd rs1 rs2) = true
is_access (Amo op wide aq rl rd rs1 rs2) = true
is_access _ = false

-- the address of an access
abbrev pub address_of : HartState → Insn → ℕ
address_of hart (Load op rd rs1 imm) = plus (x_of hart rs1) imm
address_of hart (Store op rs1 rs2 imm) = plus (x_of hart rs1) imm
address_of hart (Lr wide aq rl rd rs1) = x_of hart rs1
address_of hart (Sc wide aq rl rd rs1 rs2) = x_of hart rs1
address_of hart (Amo op wide aq rl rd rs1 rs2) = x_of hart rs1
address_of hart _ = 0

-- how many bytes it covers
abbrev pub access_size : Insn → ℕ
access_size (Load op rd rs1 imm) = load_size op
access_size (Store op rs1 rs2 imm) = store_size op
access_size (Lr wide aq rl rd rs1) = atomic_size wide
access_size (Sc wide aq rl rd rs1 rs2) = atomic_size wide
access_size (Amo op wide aq rl rd rs1 rs2) = atomic_size wide
access_size _ = 0

-- it has to be aligned: a load or store where the settings say so, and an atomic instruction always
abbrev pub must_align : Config → Insn → Bool
must_align config (Load op rd rs1 imm) = config.traps_misaligned
must_align config (Store op rs1 rs2 imm) = config.traps_misaligned
must_align config _ = true

-- the cause where it has to be aligned and isn't
abbrev pub misaligned_cause : Insn → ℕ
misaligned_cause (Load op rd rs1 imm) = misaligned_load
misaligned_cause (Lr wide aq rl rd rs1) = misaligned_load
misaligned_cause _ = misaligned_store

-- the cause where a byte is outside the image
abbrev pub fault_cause : Insn → ℕ
fault_cause (Load op rd rs1 imm) = load_fault
fault_cause (Lr wide aq rl rd rs1) = load_fault
fault_cause _ = store_fault

-- the cause that an access of `len` bytes at an address raises
abbrev pub access_fault : Loaded → Bool → ℕ → ℕ → ℕ → ℕ → Option ℕ
access_fault image must_align misaligned fault addr len =
    if must_align && not (addr % len == 0) then Some misaligned
    else if not (is_held image addr len) then Some fault
    else None

-- the cause that the instruction's access raises
abbrev pub fault_of : HartState → Loaded → Config → Insn → Option ℕ
fault_of hart image config insn =
    access_fault image (must_align config insn) (misaligned_cause insn) (fault_cause insn) (address_of hart insn)
    (access_size insn)

-- an access that raises no cause
abbrev pub undertaken : HartState → Insn → Doing
undertaken hart (Load op rd rs1 imm) =
    load (Load op rd rs1 imm) (address_of hart (Load op rd rs1 imm)) (load_size op)
undertaken hart (Store op rs1 rs2 imm) =
    store (Store op rs1 rs2 imm) (address_of hart (Store op rs1 rs2 imm)) (store_size op)
undertaken hart (Lr wide aq rl rd rs1) = lr (Lr wide aq rl rd rs1) (x_of hart rs1) (atomic_size wide)
undertaken hart (Sc wide aq rl rd rs1 rs2) = sc (Sc wide aq rl rd rs1 rs2) (x_of hart rs1) (atomic_size wide)
undertaken hart (Amo op wide aq rl rd rs1 rs2) = amo (Amo op wide aq rl rd rs1 rs2) (x_of hart rs1) (atomic_size wide)
undertaken hart insn = plain insn

-- the access, or the trap with the address in mtval
abbrev pub accessed : Option ℕ → ℕ → Doing → Doing
accessed None addr doing = doing
accessed (Some cause) addr doing = trap cause addr

-- an instruction that accesses memory does so, or traps with the address in mtval
abbrev pub accesses : HartState → Loaded → Config → Insn → Doing
accesses hart image config insn =
    accessed (fault_of hart image config insn) (address_of hart insn) (undertaken hart insn)

-- a jump that is taken, or the trap at a target that isn't a multiple of 4
abbrev pub jumps : Insn → ℕ → Doing
jumps insn target = if target % 4 == 0 then plain insn else trap misaligned_fetch target

-- what an instruction is to do
abbrev pub doing_of : HartState → Loaded → Config → ℕ → Insn → Doing
doing_of hart image config word (Lui rd imm) = plain (Lui rd imm)
doing_of hart image config word (Auipc rd imm) = plain (Auipc rd imm)
doing_of hart image config word (Jal rd imm) = jumps (Jal rd imm) (plus hart.pc imm)
doing_of hart image config word (Jalr rd rs1 imm) =
    jumps (Jalr rd rs1 imm) (without_low_bit (plus (x_of hart rs1) imm))
doing_of hart image config word (Branch op rs1 rs2 imm) =
    if is_taken op (x_of hart rs1) (x_of hart rs2)
    then jumps (Branch op rs1 rs2 imm) (plus hart.pc imm)
    else plain (Branch op rs1 rs2 imm)
doing_of hart image config word (Load op rd rs1 imm) = accesses hart image config (Load op rd rs1 imm)
doing_of hart image config word (Store op rs1 rs2 imm) = accesses hart image config (Store op rs1 rs2 imm)
doing_of hart image config word (AluImm op rd rs1 imm) = plain (AluImm op rd rs1 imm)
doing_of hart image config word (Alu op rd rs1 rs2) = plain (Alu op rd rs1 rs2)
doing_of hart image config word (Fence fm pred succ rd rs1) = plain (Fence fm pred succ rd rs1)
doing_of hart image config word Ecall = trap environment_call 0
doing_of hart image config word Ebreak = trap breakpoint 0
doing_of hart image config word Mret = plain Mret
doing_of hart image config word Wfi = plain Wfi
doing_of hart image config word (Csr op rd source number) =
    if not (is_legal_csr op source number) then illegal config word
    else if is_counter number then counter (Csr op rd source number)
    else plain (Csr op rd source number)
doing_of hart image config word (Lr wide aq rl rd rs1) = accesses hart image config (Lr wide aq rl rd rs1)
doing_of hart image config word (Sc wide aq rl rd rs1 rs2) = accesses hart image config (Sc wide aq rl rd rs1 rs2)
doing_of hart image config word (Amo op wide aq rl rd rs1 rs2) =
    accesses hart image config (Amo op wide aq rl rd rs1 rs2)

-- what a word is to do, by the instruction that it encodes
abbrev pub doing_word : HartState → Loaded → Config → ℕ → Option Insn → Doing
doing_word hart image config word None = illegal config word
doing_word hart image config word (Some insn) = doing_of hart image config word insn

-- the fetched word, 0 where the fetch fails, and what it is to do
pub record PlanOf : Type 0 where
  pub word : ℕ
  pub doing : Doing

-- the plan of a hart, by the word at its pc, if there is one
abbrev pub plan_fetched : HartState → Loaded → Config → Option ℕ → PlanOf
plan_fetched hart image config None = record { word = 0; doing = trap fetch_fault hart.pc }
plan_fetched hart image config (Some word) =
    record { word = word; doing = doing_word hart image config word (decoding word) }

-- the plan of a hart
abbrev pub plan_of : HartState → Loaded → Config → PlanOf
plan_of hart image config = plan_fetched hart image config (word_at image hart.pc)

-- the step of a hart: what its plan does, with the values that come from outside
abbrev pub Step : HartState → Loaded → Config → Outside → Done
Step hart image config outside = finished hart outside (plan_of hart image config).doing

-- a plan as the calls show it
abbrev pub doing_seen : What → Doing
doing_seen (what.Trap cause value) = trap cause value
doing_seen (what.Plain insn) = plain insn
doing_seen (what.Counter insn) = counter insn
doing_seen (what.Load insn extent) = load insn extent.addr extent.len
doing_seen (what.Store insn extent) = store insn extent.addr extent.len
doing_seen (what.Lr insn extent) = lr insn extent.addr extent.len
doing_seen (what.Sc insn extent) = sc insn extent.addr extent.len
doing_seen (what.Amo insn extent) = amo insn extent.addr extent.len

-- a plan as the calls show it, with its word
abbrev pub plan_seen : Plan → PlanOf
plan_seen plan = record { word = plan.word; doing = doing_seen plan.what }

-- a plan of the hart: that of some image and some settings
abbrev pub IsPlan : HartState → Plan → Type 0
IsPlan hart plan = (image : Loaded) × (config : Config) × (plan_seen plan ≡ plan_of hart image config)
