-- Program order: the instructions of a hart, by their tags.
use Rattle.std.specs.Prelude.{ℕ, ◌==◌, ◌&&◌, nat_lt, List, [], ◌∷◌, Bool, false, None, Some, if◌then◌else◌}
use Rattle.std.specs.declared.option.Option.{Option}
use Rattle.rv_decode.specs.declared.instruction.Insn.{Insn}
use Rattle.rvwmo_model.specs.declared.instructions.Retired.{Retired}
use Rattle.rvwmo_model.specs.declared.operations.Op.{Op}
use Rattle.rvwmo_model.specs.declared.traces.Trace.{Trace}

-- the instruction of hart h under the tag k
abbrev pub insn_at : List Retired → ℕ → ℕ → Option Retired
insn_at [] h k = None
insn_at (w ∷ ws) h k = if (w.hart == h) && (w.tag == k) then Some w else insn_at ws h k

-- the instruction of an operation
abbrev pub insn_of : Trace → Op → Option Retired
insn_of t o = insn_at t.insns o.name.hart o.name.tag

-- there is an instruction, and it passes a test
abbrev pub is_one : (Insn → Bool) → Option Retired → Bool
is_one test None = false
is_one test (Some w) = test w.insn

-- the instruction of a precedes that of b in program order (14.1)
abbrev pub is_older : Op → Op → Bool
is_older a b = (a.name.hart == b.name.hart) && nat_lt a.name.tag b.name.tag
