use Rattle.order_laws.proofs.faults.faultless_is_legal.Goals as goal
use Rattle.order_laws.proofs.Faultless.{faultless_is_legal}

pub returns : goal.returns
returns c = faultless_is_legal
