use Rattle.trace_model.proofs.laws.fates_are_told.Goals as goal
use Rattle.trace_model.proofs.FirstWrites.{told}

pub returns : goal.returns
returns c = told
