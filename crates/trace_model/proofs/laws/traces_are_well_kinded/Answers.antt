use Rattle.trace_model.proofs.laws.traces_are_well_kinded.Goals as goal
use Rattle.trace_model.proofs.CleanLists.{lists_are_well_kinded}

pub returns : goal.returns
returns c = lists_are_well_kinded
