-- How far the counts of a run may go.
use Rattle.std.specs.Prelude.{◌≤◌}
use Rattle.tandem_core.specs.declared.limits.Limits.{Limits}

-- the greatest limits that can be asked for
abbrev pub ceilings : Limits
ceilings = record { reads = 4096; stores = 4096; kept = 16384; messages = 4000000000 }

-- each limit is from 1 to its ceiling
pub record HasCeilings (limits : Limits) : Type 0 where
  pub reads : (1 ≤ limits.reads) × (limits.reads ≤ ceilings.reads)
  pub stores : (1 ≤ limits.stores) × (limits.stores ≤ ceilings.stores)
  pub kept : (1 ≤ limits.kept) × (limits.kept ≤ ceilings.kept)
  pub messages : (1 ≤ limits.messages) × (limits.messages ≤ ceilings.messages)
