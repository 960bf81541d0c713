-- What is kept of the instructions that retired.
use Rattle.std.specs.Prelude.{◌≡◌, List, length, map, reverse, take}
use Rattle.rvwmo_model.specs.declared.instructions.Retired.{Retired}
use Rattle.trace_model.specs.declared.history.History.{History}
use Rattle.trace_model.specs.Entries.{Entry, MemoryUse, insns_of, uses_of}
use Rattle.trace_model.specs.Seen.{use_seen}

-- an instruction with what it did to memory
abbrev pub entry_with : Retired → MemoryUse → Entry
entry_with insn memory = record { insn = insn; memory = memory }

-- the instructions are those of these entries, which have the newest first, and what is kept of memory is what they
-- did
pub record IsHistoryOf (history : History) (es : List Entry) : Type 0 where
  pub insns : history.insns.items ≡ insns_of es
  pub uses : map use_seen (reverse history.uses.items) ≡ uses_of es

-- what was kept before is still in front
pub record StaysInFront (old new : History) : Type 0 where
  pub insns : take (length old.insns.items) new.insns.items ≡ old.insns.items
  pub uses : take (length old.uses.items) new.uses.items ≡ old.uses.items
