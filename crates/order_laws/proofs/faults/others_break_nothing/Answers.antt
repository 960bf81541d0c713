use Rattle.order_laws.proofs.faults.others_break_nothing.Goals as goal
use Rattle.order_laws.proofs.Unbroken.{others_break_nothing}

pub returns : goal.returns
returns c = others_break_nothing
