use Rattle.trace_model.proofs.laws.traces_grow_with_lists.Goals as goal
use Rattle.trace_model.proofs.CleanLists.{lists_grow}

pub returns : goal.returns
returns c = lists_grow
