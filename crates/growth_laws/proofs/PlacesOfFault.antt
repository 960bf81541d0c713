-- The place of the fault, growth by growth.
use Rattle.growth_laws.specs.Laws.{PlaceOfFault}
use Rattle.growth_laws.proofs.FaultSteps.{early_breaks_nothing, insn_breaks_its_own}
use Rattle.growth_laws.proofs.FaultStores.{stores_break_pairs}

pub place_of_fault : PlaceOfFault
place_of_fault = record { early = early_breaks_nothing; insn = insn_breaks_its_own; stores = stores_break_pairs }
