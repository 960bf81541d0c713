-- Instructions that retired, each with what it did to memory.
use Rattle.std.specs.Prelude.{ℕ, ◌+◌, List, [], ◌∷◌, ◌++◌}
use Rattle.std.specs.List.{flat_map}
use Rattle.std.specs.declared.option.Option.{Option}
use Rattle.tandem_base.specs.declared.names.Place.{Place}
use Rattle.rvwmo_model.specs.declared.instructions.Retired.{Retired}
use Rattle.rvwmo_model.specs.declared.operations.Op.{Op}
use Rattle.rvwmo_model.specs.declared.traces.Trace.{Trace}
use Rattle.trace_model.specs.Groups.{Access, parts_of}

-- what an instruction did to memory: operations that stay as they are, or the access of a plain store, whose bytes are
-- performed later
pub data MemoryUse : Type 0 where
  Fixed : List Op → MemoryUse
  Stores : Access → MemoryUse

-- an instruction that retired, with what it did to memory
pub record Entry : Type 0 where
  pub insn : Retired
  pub memory : MemoryUse

-- where each byte of each plain store was performed: by hart, tag and address
abbrev pub Places : Type 0
Places = ℕ → ℕ → ℕ → Option Place

-- where byte k of the access of a plain store was performed
abbrev pub byte_places : Places → Access → ℕ → Option Place
byte_places g a k = g a.hart a.tag (a.extent.addr + k)

-- the operations of an instruction
abbrev pub memory_ops : Places → MemoryUse → List Op
memory_ops g (Fixed ops) = ops
memory_ops g (Stores a) = parts_of a (byte_places g a)

-- those of an entry
abbrev pub entry_ops : Places → Entry → List Op
entry_ops g e = memory_ops g e.memory

-- the instructions in the order in which they retired; the entries have the newest first
abbrev pub insns_of : List Entry → List Retired
insns_of [] = []
insns_of (e ∷ es) = insns_of es ++ e.insn ∷ []

-- the trace of some entries, the newest first
abbrev pub built : List Entry → Places → List Op → ℕ → Trace
built entries g early granule =
    record { insns = insns_of entries; ops = flat_map (entry_ops g) entries; early = early; granule = granule }

-- what an instruction did to memory in front of what others did, where it did something
abbrev pub with_use : MemoryUse → List MemoryUse → List MemoryUse
with_use (Fixed []) us = us
with_use (Fixed (o ∷ ops)) us = Fixed (o ∷ ops) ∷ us
with_use (Stores a) us = Stores a ∷ us

-- what the instructions did to memory, of those that did something; the newest first, as the entries
abbrev pub uses_of : List Entry → List MemoryUse
uses_of [] = []
uses_of (e ∷ es) = with_use e.memory (uses_of es)
