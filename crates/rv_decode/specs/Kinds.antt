-- Which instructions are loads, stores and atomic instructions.
use Rattle.std.specs.Prelude.{Bool, true, false}
use Rattle.rv_decode.specs.declared.instruction.Insn.{Insn}
use Rattle.rv_decode.specs.declared.instruction.Insn.TheVariants.{Load, Store, Lr, Sc, Amo}

-- a load of section 2.6: neither an LR nor an AMO
abbrev pub is_load : Insn → Bool
is_load (Load op rd rs1 imm) = true
is_load _ = false

-- a store of section 2.6: neither an SC nor an AMO
abbrev pub is_store : Insn → Bool
is_store (Store op rs1 rs2 imm) = true
is_store _ = false

-- an LR (section 8.2)
abbrev pub is_lr : Insn → Bool
is_lr (Lr wide aq rl rd rs1) = true
is_lr _ = false

-- an SC (section 8.2)
abbrev pub is_sc : Insn → Bool
is_sc (Sc wide aq rl rd rs1 rs2) = true
is_sc _ = false

-- an AMO (section 8.4)
abbrev pub is_amo : Insn → Bool
is_amo (Amo op wide aq rl rd rs1 rs2) = true
is_amo _ = false

-- an AMO or SC
abbrev pub is_amo_or_sc : Insn → Bool
is_amo_or_sc (Sc wide aq rl rd rs1 rs2) = true
is_amo_or_sc (Amo op wide aq rl rd rs1 rs2) = true
is_amo_or_sc _ = false
