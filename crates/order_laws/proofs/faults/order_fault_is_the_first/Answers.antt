use Rattle.order_laws.proofs.faults.order_fault_is_the_first.Goals as goal
use Rattle.order_laws.proofs.Faultless.{order_fault_is_last}

pub returns : goal.returns
returns c = order_fault_is_last
