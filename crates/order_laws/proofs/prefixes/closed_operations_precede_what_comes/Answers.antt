use Rattle.order_laws.proofs.prefixes.closed_operations_precede_what_comes.Goals as goal
use Rattle.order_laws.proofs.Windows.{closed_precedes}

pub returns : goal.returns
returns c = closed_precedes
