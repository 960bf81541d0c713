use Rattle.trace_model.proofs.laws.counts_are_of_one_hart.Goals as goal
use Rattle.trace_model.proofs.CleanLists.{others_count}

pub returns : goal.returns
returns c = others_count
