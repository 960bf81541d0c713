use Rattle.order_laws.proofs.verdicts.own_hart_tells.Goals as goal
use Rattle.order_laws.proofs.Counting.{own_hart_tells}

pub returns : goal.returns
returns c = own_hart_tells
