use Rattle.order_laws.proofs.faults.end_breaks_nothing.Goals as goal
use Rattle.order_laws.proofs.Faultless.{end_breaks_nothing}

pub returns : goal.returns
returns c = end_breaks_nothing
